-- What is left of a division, by its kind.
use Rattle.std.proofs.Common.{◌≡◌, ℕ, zero, suc, ◌+◌, ◌-◌, ◌*◌, ◌/◌, ◌%◌, ◌^◌, ◌<◌, Bool, true, false, ◌⊎◌, ℤ, pos, negsuc, ◌-ℤ◌, ◌*ℤ◌, neg_ℤ, nat_abs, sym, refl, ap, ◌∙◌, subst, inl, inr, mod-lt, div-add-mod', arith}
use lib.Signed.{quot_z}
use Rattle.std.proofs.lemmas.Int.{ints}
use Rattle.isa.specs.declared.instr.Kind.{Kind}
use Rattle.isa.specs.declared.instr.Kind.TheVariants.{Unsigned, TowardsZero, Downwards}
use Rattle.words.specs.Words.{upwards, downwards, negative, signed, word, read_as, RemainderLaw}
use Rattle.words.proofs.Quotients.{signed_back}

-- r is smaller than y, and is 0 or is negative as told
abbrev Left : ℤ → ℤ → Bool → Type 0
Left y r told = (nat_abs r < nat_abs y) × ((r ≡ pos 0) ⊎ (negative r ≡ told))

left_pos : (y r : ℤ) (m : ℕ) → m < nat_abs y → r ≡ pos m → Left y r false
left_pos y r m h e = subst (λ z. Left y z false) (sym e) (h, inr refl)

left_neg : (y r : ℤ) (m : ℕ) → m < nat_abs y → r ≡ neg_ℤ (pos m) → Left y r true
left_neg y r m h e = subst (λ z. Left y z true) (sym e) (by m h)
  where
    by : (n : ℕ) → n < nat_abs y → Left y (neg_ℤ (pos n)) true
    by zero l = (l, inl refl)
    by (suc n) l = (l, inr refl)

against_neg : (n b : ℕ) → neg_ℤ (pos n) *ℤ negsuc b ≡ pos (n * suc b)
against_neg zero b = omega (arith, ints)
against_neg (suc n) b = refl

against_pos : (n b : ℕ) → neg_ℤ (pos n) *ℤ pos b ≡ neg_ℤ (pos (n * b))
against_pos zero b = omega (arith, ints)
against_pos (suc n) b = refl

-- what is left where a quotient is rounded upwards
over : (a b : ℕ) → 0 < b → (m : ℕ) × (m < b) × (upwards a b * b ≡ a + m)
over a b h =
    let n = a + (b - 1) in
    let split = div-add-mod' n b in
    let small = mod-lt n h in
    (b - 1 - n % b, omega arith, omega arith)

truncated : (x y : ℤ) → 0 < nat_abs y → Left y (x -ℤ quot_z x y *ℤ y) (negative x)
truncated (pos a) (pos b) h = let s = div-add-mod' a b in left_pos (pos b) _ (a % b) (mod-lt a h) (omega (arith, ints))
truncated (pos a) (negsuc b) h =
    let s = div-add-mod' a (suc b) in
    left_pos (negsuc b) _ (a % suc b) (mod-lt a h) (ap (λ p. pos a -ℤ p) (against_neg (a / suc b) b) ∙ omega (arith, ints))
truncated (negsuc a) (pos b) h =
    let s = div-add-mod' (suc a) b in
    left_neg (pos b) _ (suc a % b) (mod-lt (suc a) h) (ap (λ p. negsuc a -ℤ p) (against_pos (suc a / b) b) ∙ omega (arith, ints))
truncated (negsuc a) (negsuc b) h = let s = div-add-mod' (suc a) (suc b) in left_neg (negsuc b) _ (suc a % suc b) (mod-lt (suc a) h) (omega (arith, ints))

floored : (x y : ℤ) → 0 < nat_abs y → Left y (x -ℤ downwards x y *ℤ y) (negative y)
floored (pos a) (pos b) h = truncated (pos a) (pos b) h
floored (pos a) (negsuc b) h =
    let o = over a (suc b) h in
    left_neg (negsuc b) _ o.0 o.1 (ap (λ p. pos a -ℤ p) (against_neg (upwards a (suc b)) b) ∙ omega (arith, ints, o.2))
floored (negsuc a) (pos b) h =
    let o = over (suc a) b h in
    left_pos (pos b) _ o.0 o.1 (ap (λ p. negsuc a -ℤ p) (against_pos (upwards (suc a) b) b) ∙ omega (arith, ints, o.2))
floored (negsuc a) (negsuc b) h = truncated (negsuc a) (negsuc b) h

some_word : (z : ℤ) → (word z ≡ 0 → ⊥) → 0 < nat_abs z
some_word (pos zero) n = absurd (n refl)
some_word (pos (suc k)) n = omega arith
some_word (negsuc k) n = omega arith

-- a word that is not 0 is not 0 as signed
some_signed : (w : ℕ) → w < 2 ^ 32 → (w ≡ 0 → ⊥) → 0 < nat_abs (signed w)
some_signed w h n = some_word (signed w) (λ e. n (sym (signed_back w h) ∙ e))

pub leaves : (k : Kind) (b c : ℕ) → c < 2 ^ 32 → (c ≡ 0 → ⊥) → RemainderLaw k (read_as k b) (read_as k c)
leaves Unsigned b c h n =
    let l = floored (pos b) (pos c) (omega arith) in
    record { smaller = l.0; sign = elim l.1 [ inl e ↦ ap negative e | inr e ↦ e ] }
leaves TowardsZero b c h n =
    let l = truncated (signed b) (signed c) (some_signed c h n) in
    record { smaller = l.0; sign = l.1 }
leaves Downwards b c h n =
    let l = floored (signed b) (signed c) (some_signed c h n) in
    record { smaller = l.0; sign = l.1 }
