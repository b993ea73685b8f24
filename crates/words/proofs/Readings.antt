-- Words read as signed, and integers taken as words.
use Rattle.std.proofs.Common.{◌≡◌, ℕ, suc, ◌+◌, ◌-◌, ◌/◌, ◌^◌, ◌<◌, cond, ltb, ℤ, pos, negsuc, neg_ℤ, sym, refl, ap, ◌∙◌, arith, pow_pos, w32, to_z, of_z}
use native.Mathlib.Nat.{add-div_right}
use lib.Signed.{mag, mag_shr, shr_z}
use Rattle.std.proofs.lemmas.Int.{to_z-of_z}
use Rattle.std.proofs.lemmas.Bool.{cond_below}
use Rattle.std.proofs.lemmas.Bool.Decides.{nat_tests}
use Rattle.words.specs.Words.{signed, word, upwards, downwards, shifted_right}

pub read_signed : (w : ℕ) → w < 2 ^ 32 → to_z w32 w ≡ signed w
read_signed w h = grind (arith, nat_tests)

pub word_is : (z : ℤ) → mag z < 2 ^ 32 → of_z w32 z ≡ word z
word_is (pos n) h = omega arith
word_is (negsuc n) h = omega arith

upwards-suc : (a m : ℕ) → 0 < m → upwards (suc a) m ≡ suc (a / m)
upwards-suc a m h =
    let sum : suc a + (m - 1) ≡ a + m = omega arith in
    ap (λ x. x / m) sum ∙ add-div_right a h ∙ omega arith

pub shifted_downwards : (z : ℤ) (m : ℕ) → 0 < m → shr_z z m ≡ downwards z (pos m)
shifted_downwards (pos a) m h = refl
shifted_downwards (negsuc a) m h = ap (λ n. neg_ℤ (pos n)) (sym (upwards-suc a m h))

-- what the code makes of b where it shifts by c
pub shifted_is : (b c : ℕ) (z : ℤ) → b < 2 ^ 32 → c < 32 → mag z < 2 ^ 31 → z ≡ to_z w32 b → of_z w32 (to_z w32 (of_z w32 (shr_z (to_z w32 (of_z w32 z)) (2 ^ c)))) ≡ shifted_right b c
shifted_is b c z h l m e =
    let s = shr_z z (2 ^ c) in
    let small : mag s < 2 ^ 31 = omega (arith, mag_shr z (2 ^ c)) in
    ap (λ y. of_z w32 (to_z w32 (of_z w32 (shr_z y (2 ^ c))))) (to_z-of_z w32 z (record { sfits = m }))
    ∙ ap (of_z w32) (to_z-of_z w32 s (record { sfits = small }))
    ∙ word_is s (omega arith)
    ∙ ap word (shifted_downwards z (2 ^ c) (pow_pos c) ∙ ap (λ y. downwards y (pos (2 ^ c))) (e ∙ read_signed b h))
    ∙ cond_below c 32 (word (downwards (signed b) (pos (2 ^ c)))) (cond (ltb b (2 ^ 31)) 0 (2 ^ 32 - 1)) l
