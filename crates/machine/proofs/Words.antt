-- Four bytes written over a list.
use Rattle.std.proofs.Common.{◌≡◌, ℕ, zero, suc, ◌+◌, ◌≤◌, List, [], ◌∷◌, ◌++◌, length, take, drop, set, refl, ap, ◌∙◌, arith}

pub word_over : (xs : List ℕ) (at a b c d : ℕ) → at + 4 ≤ length xs →
    take at xs ++ (a ∷ b ∷ c ∷ d ∷ drop 4 (drop at xs)) ≡ set (set (set (set xs at a) (at + 1) b) (at + 2) c) (at + 3) d
word_over [] at a b c d h = absurd (omega arith)
word_over (x ∷ []) zero a b c d h = absurd (omega arith)
word_over (x ∷ y ∷ []) zero a b c d h = absurd (omega arith)
word_over (x ∷ y ∷ z ∷ []) zero a b c d h = absurd (omega arith)
word_over (x ∷ y ∷ z ∷ w ∷ xs) zero a b c d h = refl
word_over (x ∷ xs) (suc n) a b c d h =
    let one : suc (n + 1) ≡ suc n + 1 = omega arith in
    let two : suc (n + 2) ≡ suc n + 2 = omega arith in
    let three : suc (n + 3) ≡ suc n + 3 = omega arith in
    ap (λ l. x ∷ l) (word_over xs n a b c d (omega arith))
    ∙ (λ i. set (set (set (x ∷ set xs n a) (one i) b) (two i) c) (three i) d)
