-- A row of the sheet follows its shape.
use Rattle.std.proofs.Common.{◌≡◌, ℕ, ◌+◌, ◌-◌, ◌*◌, ◌%◌, ◌^◌, ◌<◌, ◌≤◌, Bool, true, false, cond, List, [], ◌∷◌, ◌++◌, length, take, replicate, sym, ap, ◌∙◌, ⊎_elim, arith, length-take}
use lib.Bits.{bit_or}
use lib.ListN.{length-replicate}
use Rattle.std.proofs.lemmas.Nat.{or_comm, or_shifted, one_shl}
use Rattle.std.proofs.lemmas.List.{take_all, take-take, take-append-le, length_push}
use Rattle.std.proofs.lemmas.Bool.{cases_lt}
use Rattle.module.specs.declared.shape.ShapeRow.{ShapeRow}
use Rattle.module.specs.Shape.{mask, row_of}
use Rattle.module.proofs.Masks.{mask-none, mask_lt, mask-push, mask-take}

abbrev pub shape_row : ℕ → ℕ → ShapeRow
shape_row d m = record { depth = d; mask = m }

row_is : (d m : ℕ) (s : List Bool) → d ≡ length s → m ≡ mask (take 32 s) → shape_row d m ≡ row_of s
row_is d m s p q = λ i. shape_row (p i) (q i)

-- a routine begins with variables
pub entered : (n : ℕ) → shape_row n 0 ≡ row_of (replicate n false)
entered n =
    row_is _ _ _ (sym (length-replicate n false))
    (sym (mask-take 32 (replicate n false) ∙ ap (λ m. m % 2 ^ 32) (mask-none n)))

module _ (s : List Bool) (f : Bool) where
  deeper : (d : ℕ) → d ≡ length s → d + 1 ≡ length (s ++ (f ∷ []))
  deeper d e = ap (λ x. x + 1) e ∙ sym (length_push s f)

  -- one more register, within the mask and past it
  mask_low : length s < 32 → mask (take 32 (s ++ (f ∷ []))) ≡ mask s + cond f 1 0 * 2 ^ length s
  mask_low h = ap mask (take_all 32 (s ++ (f ∷ [])) (omega (arith, length_push s f))) ∙ mask-push s f

  mask_high : 32 ≤ length s → mask (take 32 (s ++ (f ∷ []))) ≡ mask (take 32 s)
  mask_high h = ap mask (take-append-le 32 s (f ∷ []) h)

short : (s : List Bool) → length s < 32 → mask (take 32 s) ≡ mask s
short s h = ap mask (take_all 32 s (omega arith))

module _ (x : ShapeRow) (s : List Bool) (e : x ≡ row_of s) where
  depth_is : x.depth ≡ length s
  depth_is = ap (λ y. y.depth) e

  mask_is : x.mask ≡ mask (take 32 s)
  mask_is = ap (λ y. y.mask) e

  pub variable_added : shape_row (x.depth + 1) x.mask ≡ row_of (s ++ (false ∷ []))
  variable_added =
      row_is _ _ _ (deeper s false x.depth depth_is)
      (⊎_elim
      (λ h. mask_is ∙ short s h ∙ sym (mask_low s false h ∙ omega arith))
      (λ h. mask_is ∙ sym (mask_high s false h))
      (cases_lt (length s) 32))

  pub constant_added : x.depth < 32 → shape_row (x.depth + 1) (bit_or x.mask ((1 * 2 ^ x.depth) % 2 ^ 32)) ≡ row_of (s ++ (true ∷ []))
  constant_added h =
      let lt : length s < 32 = omega (arith, depth_is) in
      let one : (1 * 2 ^ x.depth) % 2 ^ 32 ≡ 1 * 2 ^ length s = one_shl x.depth 32 h ∙ ap (λ d. 2 ^ d) depth_is ∙ omega arith in
      let same = mask_is ∙ short s lt in
      row_is _ _ _ (deeper s true x.depth depth_is)
      ((λ i. bit_or (same i) (one i)) ∙ or_comm (mask s) (1 * 2 ^ length s) ∙ or_shifted 1 (length s) (mask s) (mask_lt s) ∙ omega (arith, mask_low s true lt))

  pub constant_past : 32 ≤ x.depth → shape_row (x.depth + 1) x.mask ≡ row_of (s ++ (true ∷ []))
  constant_past h = row_is _ _ _ (deeper s true x.depth depth_is) (mask_is ∙ sym (mask_high s true (omega (arith, depth_is))))

  module _ (d : ℕ) (p : d ≡ x.depth - 1) where
    lower : d ≡ length s - 1
    lower = p ∙ ap (λ y. y - 1) depth_is

    left : d ≡ length (take (length s - 1) s)
    left = omega (arith, lower, length-take (length s - 1) s)

    pub top_removed : d < 32 → shape_row d (x.mask % ((1 * 2 ^ d) % 2 ^ 32)) ≡ row_of (take (length s - 1) s)
    top_removed h =
        let k = length s - 1 in
        let one : (1 * 2 ^ d) % 2 ^ 32 ≡ 2 ^ k = one_shl d 32 h ∙ ap (λ y. 2 ^ y) lower in
        let few : length (take k s) ≤ 32 = omega (arith, left, h) in
        row_is _ _ _ left
        ((λ i. mask_is i % one i) ∙ sym (mask-take k (take 32 s)) ∙ ap mask (take-take k 32 s (omega (arith, lower, h))) ∙ sym (ap mask (take_all 32 (take k s) few)))

    pub top_past : 32 ≤ d → shape_row d x.mask ≡ row_of (take (length s - 1) s)
    top_past h = row_is _ _ _ left (mask_is ∙ sym (ap mask (take-take 32 (length s - 1) s (omega (arith, lower, h)))))
