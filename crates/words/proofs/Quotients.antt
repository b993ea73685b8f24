-- Quotients and remainders as words.
use Rattle.std.proofs.Common.{◌≡◌, ℕ, zero, suc, ◌+◌, ◌-◌, ◌*◌, ◌/◌, ◌%◌, ◌^◌, ◌<◌, min, false, eqb, ℤ, pos, negsuc, ◌-ℤ◌, ◌*ℤ◌, neg_ℤ, nat_abs, Some, None, sym, refl, ap, ◌∙◌, mod-lt, div-add-mod', arith, w32, to_z, of_z}
use mathlib.Core.Bool.{beq}
use lib.Signed.{lt_z, mag}
use mir.Facts.{sfits_to_z}
use Rattle.std.specs.Int.{int_wrap}
use Rattle.std.proofs.lemmas.Nat.{div-mul-add}
use Rattle.std.proofs.lemmas.Int.{of_z-to_z, wrapping_sub-bits, wrapping_mul-bits, int_wrap-add_left, int_wrap-sub_right, int_wrap-mul_left, int_wrap-mul_right}
use Rattle.std.proofs.lemmas.Bool.{true≢false, cond-false, ne_eqb}
use Rattle.std.proofs.lemmas.Bool.Decides.{nat_tests}
use Rattle.isa.specs.declared.instr.Kind.{Kind}
use Rattle.isa.specs.declared.instr.Kind.TheVariants.{Unsigned, TowardsZero, Downwards}
use Rattle.isa.specs.declared.instr.Part.TheVariants.{Remainder}
use Rattle.words.specs.Words.{signed, word, upwards, downwards, read_as, quotient_of, divided}
use Rattle.words.proofs.Readings.{read_signed, word_is}

-- a quotient rounded upwards is one more where something is left
upwards_is : (a b : ℕ) → 0 < b → a / b + min 1 (a % b) ≡ upwards a b
upwards_is a b h = by (a % b) refl
  where
    by : (r : ℕ) → a % b ≡ r → a / b + min 1 r ≡ upwards a b
    by zero e =
        let sum : a + (b - 1) ≡ a / b * b + (b - 1) = omega (arith, div-add-mod' a b) in
        omega (arith, ap (λ n. n / b) sum ∙ div-mul-add (a / b) b (b - 1) (omega arith))
    by (suc r) e =
        let small : suc r < b = omega (arith, mod-lt a h) in
        let sum : a + (b - 1) ≡ (a / b + 1) * b + r = omega (arith, div-add-mod' a b) in
        omega (arith, ap (λ n. n / b) sum ∙ div-mul-add (a / b + 1) b r (omega arith))

-- the word that is opposite to n
opposite : (n r : ℕ) → n < 2 ^ 32 → r < 2 ^ 32 → (r + n) % 2 ^ 32 ≡ 0 → r ≡ word (neg_ℤ (pos n))
opposite zero r h k e = omega arith
opposite (suc n) r h k e = omega arith

-- where the signs differ, the code has the opposite of a quotient that is rounded upwards
pub downwards_is : (x y : ℤ) (q r : ℕ) → beq (lt_z x (pos 0)) (lt_z y (pos 0)) ≡ false → 0 < nat_abs y → q < 2 ^ 32 → r < 2 ^ 32
    → q ≡ nat_abs x / nat_abs y + min 1 (nat_abs x % nat_abs y) → (r + q) % 2 ^ 32 ≡ 0 → r ≡ word (downwards x y)
downwards_is (pos a) (pos b) q r t p h k e n = grind (arith, nat_tests)
downwards_is (pos a) (negsuc b) q r t p h k e n = opposite q r h k n ∙ ap (λ m. word (neg_ℤ (pos m))) (e ∙ upwards_is a (suc b) p)
downwards_is (negsuc a) (pos b) q r t p h k e n = opposite q r h k n ∙ ap (λ m. word (neg_ℤ (pos m))) (e ∙ upwards_is (suc a) b p)
downwards_is (negsuc a) (negsuc b) q r t p h k e n = absurd (true≢false t)

word_below : (z : ℤ) → word z < 2 ^ 32
word_below (pos n) = omega arith
word_below (negsuc n) = omega arith

word_wrapped : (z : ℤ) → int_wrap w32 z ≡ to_z w32 (word z)
unfolding int_wrap
word_wrapped (pos n) = refl
word_wrapped (negsuc n) = refl

same_word : (x y : ℤ) → int_wrap w32 x ≡ int_wrap w32 y → word x ≡ word y
same_word x y e =
    sym (of_z-to_z w32 (word x) (word_below x)) ∙ ap (of_z w32) (sym (word_wrapped x) ∙ e ∙ word_wrapped y) ∙ of_z-to_z w32 (word y) (word_below y)

-- what is left of x after q times y, modulo 2 ^ 32
left_is : (x q y : ℤ) → (word x + (2 ^ 32 - (word q * word y) % 2 ^ 32)) % 2 ^ 32 ≡ word (x -ℤ q *ℤ y)
left_is x q y =
    let m = (word q * word y) % 2 ^ 32 in
    let product : to_z w32 m ≡ int_wrap w32 (q *ℤ y) =
    wrapping_mul-bits w32 (word q) (word y) (word_below q) (word_below y)
    ∙ (λ i. int_wrap w32 (sym (word_wrapped q) i *ℤ sym (word_wrapped y) i))
    ∙ int_wrap-mul_left w32 q (int_wrap w32 y) ∙ int_wrap-mul_right w32 q y in
    same_word (pos (word x + (2 ^ 32 - m))) (x -ℤ q *ℤ y)
    (word_wrapped (pos (word x + (2 ^ 32 - m)))
    ∙ wrapping_sub-bits w32 (word x) m (word_below x) (omega arith)
    ∙ (λ i. int_wrap w32 (sym (word_wrapped x) i -ℤ product i))
    ∙ int_wrap-sub_right w32 (int_wrap w32 x) (q *ℤ y) ∙ int_wrap-add_left w32 x (neg_ℤ (q *ℤ y)))

pub signed_back : (w : ℕ) → w < 2 ^ 32 → word (signed w) ≡ w
signed_back w h =
    let small : mag (to_z w32 w) < 2 ^ 31 = (sfits_to_z {w = w32} (record { fits = h })).sfits in
    ap word (sym (read_signed w h)) ∙ sym (word_is (to_z w32 w) (omega arith)) ∙ of_z-to_z w32 w h

-- every reading of a word is the word again modulo 2 ^ 32
read_back : (k : Kind) (w : ℕ) → w < 2 ^ 32 → word (read_as k w) ≡ w
read_back Unsigned w h = omega arith
read_back TowardsZero w h = signed_back w h
read_back Downwards w h = signed_back w h

-- the code takes the remainder from the quotient's word
pub remainder_is : (k : Kind) (b c q : ℕ) → b < 2 ^ 32 → c < 2 ^ 32 → (c ≡ 0 → ⊥) → q ≡ word (quotient_of k (read_as k b) (read_as k c))
    → Some ((b + (2 ^ 32 - (q * c) % 2 ^ 32)) % 2 ^ 32) ≡ divided Remainder k b c
remainder_is k b c q g h n e =
    let x = read_as k b in
    let y = read_as k c in
    let z = quotient_of k x y in
    ap Some ((λ i. (sym (read_back k b g) i + (2 ^ 32 - (e i * sym (read_back k c h) i) % 2 ^ 32)) % 2 ^ 32) ∙ left_is x z y)
    ∙ sym (cond-false (eqb c 0) None (Some (word (x -ℤ z *ℤ y))) (ne_eqb c 0 n))
