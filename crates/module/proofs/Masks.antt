-- The mask of a shape.
use Rattle.std.proofs.Common.{◌≡◌, ℕ, zero, suc, ◌+◌, ◌*◌, ◌/◌, ◌%◌, ◌^◌, ◌<◌, Bool, true, false, cond, eqb, List, [], ◌∷◌, ◌++◌, length, take, drop, replicate, sym, refl, ap, ◌∙◌, div-one, mul_left_comm, arith}
use native.Mathlib.Nat.{pow-succ', mod-one, zero-mod, zero-div}
use lib.Arith.{digits_div, digits_mod}
use Rattle.std.proofs.lemmas.Nat.{pow_pos, div-add-mod', mod_below}
use Rattle.std.proofs.lemmas.Bool.{ne_eqb}
use Rattle.std.proofs.lemmas.Bool.Decides.{nat_tests}
use Rattle.module.specs.Rules.{all_variables}
use Rattle.module.specs.Shape.{mask}

-- a flag as a bit
abbrev bit : Bool → ℕ
bit f = cond f 1 0

bit_small : (f : Bool) → bit f < 2
bit_small true = omega arith
bit_small false = omega arith

pub mask-none : (n : ℕ) → mask (replicate n false) ≡ 0
mask-none zero = refl
mask-none (suc n) = omega (arith, mask-none n)

pub mask_lt : (s : List Bool) → mask s < 2 ^ length s
mask_lt [] = omega arith
mask_lt (f ∷ s) = omega (arith, mask_lt s, bit_small f, pow-succ' 2 (length s))

pub mask-push : (s : List Bool) (f : Bool) → mask (s ++ (f ∷ [])) ≡ mask s + bit f * 2 ^ length s
mask-push [] f = elim f as (λ g. bit g + 2 * 0 ≡ 0 + bit g * 1) [ true ↦ refl | false ↦ refl ]
mask-push (g ∷ s) true = omega (arith, mask-push s true, pow-succ' 2 (length s))
mask-push (g ∷ s) false = omega (arith, mask-push s false)

same : (m : ℕ) → eqb (0 + 2 * m) 0 ≡ eqb m 0
same m = grind (arith, nat_tests)

-- a mask in two halves
halves : (f : Bool) (m p : ℕ) → 0 < p → ((bit f + 2 * m) % (2 * p) ≡ bit f + 2 * (m % p)) × ((bit f + 2 * m) / (2 * p) ≡ m / p)
halves f m p h =
    let q = m / p in
    let r = m % p in
    let lt = mod_below m p h in
    let e : bit f + 2 * m ≡ q * (2 * p) + (bit f + 2 * r) = omega (arith, div-add-mod' m p, mul_left_comm q 2 p) in
    let small : bit f + 2 * r < 2 * p = omega (arith, lt, bit_small f) in
    (ap (λ x. x % (2 * p)) e ∙ digits_mod q small, ap (λ x. x / (2 * p)) e ∙ digits_div q small)

pub mask-take : (k : ℕ) (s : List Bool) → mask (take k s) ≡ mask s % 2 ^ k
mask-take zero s = sym (mod-one (mask s))
mask-take (suc k) [] = sym (zero-mod (2 ^ suc k))
mask-take (suc k) (f ∷ s) =
    ap (λ x. bit f + 2 * x) (mask-take k s) ∙ sym (halves f (mask s) (2 ^ k) (pow_pos k)).0 ∙ ap (λ x. mask (f ∷ s) % x) (sym (pow-succ' 2 k))

pub mask-drop : (k : ℕ) (s : List Bool) → mask (drop k s) ≡ mask s / 2 ^ k
mask-drop zero s = sym (div-one (mask s))
mask-drop (suc k) [] = sym (zero-div (2 ^ suc k))
mask-drop (suc k) (f ∷ s) =
    mask-drop k s ∙ sym (halves f (mask s) (2 ^ k) (pow_pos k)).1 ∙ ap (λ x. mask (f ∷ s) / x) (sym (pow-succ' 2 k))

-- no bit is set where no register is a constant
pub mask-zero : (s : List Bool) → eqb (mask s) 0 ≡ all_variables s
mask-zero [] = refl
mask-zero (true ∷ s) = ne_eqb _ _ (λ e. omega arith)
mask-zero (false ∷ s) = same (mask s) ∙ mask-zero s
