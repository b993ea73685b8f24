-- Bytes written one part after the other.
use Rattle.std.proofs.Common.{◌≡◌, ℕ, zero, suc, ◌+◌, ◌-◌, ◌*◌, ◌<◌, List, ◌++◌, length, get_or, take, drop, sym, refl, ap, ◌∙◌, ⊎_elim, append_assoc, add-one, arith, length-append}
use Rattle.std.proofs.lemmas.List.{get_or_append_left, get_or-append_right, take_at, drop_at, drop-drop}
use Rattle.std.proofs.lemmas.Bool.{cases_order}
use Rattle.packing.specs.Packed.{blocks}

-- xs was written over the front of before, and ys after it
pub put_more : (before xs ys out out' : List ℕ) (at end : ℕ) → out ≡ xs ++ drop at before → length xs ≡ at → end ≡ at + length ys
    → out' ≡ take at out ++ (ys ++ drop (at + length ys) out) → out' ≡ (xs ++ ys) ++ drop end before
put_more before xs ys out out' at end front long e w =
    let kept : take at out ≡ xs = ap (take at) front ∙ take_at xs (drop at before) at long in
    let rest : drop at out ≡ drop at before = ap (drop at) front ∙ drop_at xs (drop at before) at long in
    let past : drop (at + length ys) out ≡ drop end before
    = sym (drop-drop (length ys) at out) ∙ ap (drop (length ys)) rest ∙ drop-drop (length ys) at before ∙ ap (λ n. drop n before) (sym e) in
    w ∙ (λ i. kept i ++ (ys ++ past i)) ∙ sym (append_assoc xs ys (drop end before))

module _ (f : ℕ → List ℕ) (eights : (k : ℕ) → length (f k) ≡ 8) where
  pub blocks_long : (n : ℕ) → length (blocks f n) ≡ 8 * n
  blocks_long zero = refl
  blocks_long (suc n) = omega (arith, length-append (blocks f n) (f n), blocks_long n, eights n)

  -- byte j of block k
  pub block_at : (n k j : ℕ) → k < n → j < 8 → get_or (blocks f n) (8 * k + j) 0 ≡ get_or (f k) j 0
  block_at zero k j h g = absurd (omega arith)
  block_at (suc n) k j h g =
      let l = blocks_long n in
      ⊎_elim
      (λ e. let i : 8 * k + j - 8 * n ≡ j = omega arith in
      get_or-append_right (blocks f n) (f n) (8 * n) (8 * k + j) 0 l (omega arith) ∙ (λ m. get_or (f (sym e m)) (i m) 0))
      (⊎_elim
      (λ lt. get_or_append_left (blocks f n) (f n) 0 (8 * k + j) (omega arith) ∙ block_at n k j lt g)
      (λ gt. absurd (omega arith)))
      (cases_order k n)

  -- one block more, after a front and k blocks
  pub block_more : (before front bytes out out' : List ℕ) (at end k : ℕ) → out ≡ (front ++ blocks f k) ++ drop at before → at ≡ length front + 8 * k → bytes ≡ f k
      → end ≡ at + length bytes → out' ≡ take at out ++ (bytes ++ drop (at + length bytes) out) → out' ≡ (front ++ blocks f (k + 1)) ++ drop end before
  block_more before front bytes out out' at end k so_far long e past w =
      put_more before (front ++ blocks f k) bytes out out' at end so_far (omega (arith, length-append front (blocks f k), blocks_long k)) past w
      ∙ ap (λ l. l ++ drop end before) (append_assoc front (blocks f k) bytes ∙ (λ i. front ++ (blocks f k ++ e i)) ∙ ap (λ m. front ++ blocks f m) (sym (add-one k)))
