-- What a row of the sheet tells of its shape: the constants in a span, and whether another shape is the same.
use Rattle.std.proofs.Common.{◌≡◌, ℕ, suc, ◌+◌, ◌*◌, ◌/◌, ◌%◌, ◌^◌, ◌≤◌, min, Bool, true, false, ◌&&◌, eqb, List, [], ◌∷◌, length, take, drop, sym, refl, ap, ◌∙◌, ⊎_elim, arith, length-drop}
use Rattle.std.proofs.lemmas.Nat.{one_shl}
use Rattle.std.proofs.lemmas.List.{take_all, drop_all}
use Rattle.std.proofs.lemmas.Bool.{cases_lt, ne_eqb, and_left}
use Rattle.std.proofs.lemmas.Bool.Decides.{nat_tests}
use Rattle.isa.specs.Access.{span}
use Rattle.module.specs.declared.shape.ShapeRow.{ShapeRow}
use Rattle.module.specs.Rules.{spares, same_shape}
use Rattle.module.specs.Shape.{mask, row_of}
use Rattle.module.proofs.Masks.{mask-take, mask-drop, mask-zero}

drop_min : (k : ℕ) (s : List Bool) → length s ≤ 32 → drop (min k 32) s ≡ drop k s
drop_min k s h =
    ⊎_elim
    (λ l. let e : min k 32 ≡ k = omega arith in ap (λ x. drop x s) e)
    (λ l. drop_all (min k 32) s (omega arith) ∙ sym (drop_all k s (omega arith)))
    (cases_lt k 32)

take_min : (k : ℕ) (s : List Bool) → length s ≤ 32 → take (min k 32) s ≡ take k s
take_min k s h =
    ⊎_elim
    (λ l. let e : min k 32 ≡ k = omega arith in ap (λ x. take x s) e)
    (λ l. take_all (min k 32) s (omega arith) ∙ sym (take_all k s (omega arith)))
    (cases_lt k 32)

-- the row's own mask is the shape's, where that has no more than 32 registers
whole : (x : ShapeRow) (s : List Bool) → x ≡ row_of s → length s ≤ 32 → x.mask ≡ mask s
whole x s e h = ap (λ y. y.mask) e ∙ ap mask (take_all 32 s h)

pub spared : (x : ShapeRow) (s : List Bool) (first len m f l : ℕ) → x ≡ row_of s → length s ≤ 32 → m ≡ x.mask → f ≡ min first 32 → l ≡ min len 32
    → eqb (m / 2 ^ f % ((1 * 2 ^ l) % 2 ^ 64)) 0 ≡ spares s (span first len)
spared x s first len m f l e h p q r =
    let above : m / 2 ^ f ≡ mask (drop first s)
    = (λ i. (p ∙ whole x s e h) i / 2 ^ q i) ∙ sym (mask-drop (min first 32) s) ∙ ap mask (drop_min first s h) in
    let one : (1 * 2 ^ l) % 2 ^ 64 ≡ 2 ^ min len 32 = one_shl l 64 (omega (arith, r)) ∙ ap (λ x. 2 ^ x) r in
    let few : length (drop first s) ≤ 32 = omega (arith, length-drop first s) in
    ap (λ x. eqb x 0) ((λ i. above i % one i) ∙ sym (mask-take (min len 32) (drop first s)) ∙ ap mask (take_min len (drop first s) few))
    ∙ mask-zero (take len (drop first s))

one_one : (a b m n : ℕ) → (eqb (suc a) (suc b) && eqb (1 + 2 * m) (1 + 2 * n)) ≡ (eqb a b && eqb m n)
one_one a b m n = grind (arith, nat_tests)

none_none : (a b m n : ℕ) → (eqb (suc a) (suc b) && eqb (0 + 2 * m) (0 + 2 * n)) ≡ (eqb a b && eqb m n)
none_none a b m n = grind (arith, nat_tests)

one_none : (a b m n : ℕ) → (eqb (suc a) (suc b) && eqb (1 + 2 * m) (0 + 2 * n)) ≡ false
one_none a b m n = grind (arith, nat_tests)

none_one : (a b m n : ℕ) → (eqb (suc a) (suc b) && eqb (0 + 2 * m) (1 + 2 * n)) ≡ false
none_one a b m n = grind (arith, nat_tests)

same_masks : (s t : List Bool) → (eqb (length s) (length t) && eqb (mask s) (mask t)) ≡ same_shape s t
same_masks [] [] = refl
same_masks [] (g ∷ t) = and_left _ _ (ne_eqb 0 (suc (length t)) (λ e. omega arith))
same_masks (f ∷ s) [] = and_left _ _ (ne_eqb (suc (length s)) 0 (λ e. omega arith))
same_masks (true ∷ s) (true ∷ t) = one_one (length s) (length t) (mask s) (mask t) ∙ same_masks s t
same_masks (true ∷ s) (false ∷ t) = one_none (length s) (length t) (mask s) (mask t)
same_masks (false ∷ s) (true ∷ t) = none_one (length s) (length t) (mask s) (mask t)
same_masks (false ∷ s) (false ∷ t) = none_none (length s) (length t) (mask s) (mask t) ∙ same_masks s t

pub same_rows : (x y : ShapeRow) (s t : List Bool) → x ≡ row_of s → y ≡ row_of t → length s ≤ 32 → length t ≤ 32
    → (eqb x.depth y.depth && eqb x.mask y.mask) ≡ same_shape s t
same_rows x y s t p q h k =
    (λ i. eqb (p i).depth (q i).depth && eqb (whole x s p h i) (whole y t q k i)) ∙ same_masks s t
