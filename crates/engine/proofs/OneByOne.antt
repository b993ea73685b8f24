-- What is read one by one.
use Rattle.std.proofs.Common.{◌≡◌, ℕ, ◌+◌, ◌<◌, ◌≤◌, Bool, true, false, cond, List, [], ◌∷◌, take, get_or, drop, length, Ok, Err, arith, length-take, sym, refl, ap, ◌∙◌, inl, inr}
use Rattle.std.specs.Prelude.{slice_get, nat_lt}
use Rattle.std.proofs.lemmas.Bool.{ltb-true, ltb-false}
use Rattle.std.proofs.lemmas.List.{drop_more, drop_all, get_or-take, length-map}
use Rattle.std.proofs.lemmas.Option.{slice_get_cases, slice_get-map}
use Rattle.refusal.specs.Values.{Values}
use Rattle.host.specs.declared.port.Port.{Port}
use Rattle.host.specs.Ports.{value_at, reading}
use Rattle.machine.specs.Level.{Level, value_of}
use Rattle.machine.specs.Shown.{register_at}
use Rattle.drive.specs.Questions.{asked, depth_in}
use Rattle.engine.specs.Whole.{registers_in}

module _ {X : Type 0} (xs : List X) (i : ℕ) where
  -- an element that is read is there, and it is the next
  pub is_there : (x : X) → Ok x ≡ asked (slice_get xs i) → (i < length xs) × (get_or xs i x ≡ x)
  is_there x found = elim (slice_get_cases xs i).1 [
    | inl (y, less, is, at) ↦
        let same : Ok x ≡ Ok y = found ∙ ap asked is in
        let first : y ≡ x = cc in
        (less, ap (get_or xs i) (sym first) ∙ (at ∙ first))
    | inr (past, none) ↦ let same = found ∙ ap asked none in absurd (cc)
  ]

  pub next_read : (x : X) → Ok x ≡ asked (slice_get xs i) → drop i xs ≡ x ∷ drop (i + 1) xs
  next_read x found = drop_more xs i x (is_there x found).0 ∙ ap (λ y. y ∷ drop (i + 1) xs) (is_there x found).1

  -- where none is read, all were before
  pub is_past : (e : Values) → Err e ≡ asked (slice_get xs i) → length xs ≤ i
  is_past e refused = elim (slice_get_cases xs i).1 [
    | inl (y, less, is, at) ↦ let same = refused ∙ ap asked is in absurd (cc)
    | inr (past, none) ↦ past
  ]

  pub none_read : (e : Values) → Err e ≡ asked (slice_get xs i) → drop i xs ≡ []
  none_read e refused = drop_all i xs (is_past e refused)

-- the same of the first so many
pub next_of_first : {X : Type 0} (n : ℕ) (xs : List X) (i : ℕ) (x : X)
    → i < n
    → Ok x ≡ asked (slice_get xs i)
    → drop i (take n xs) ≡ x ∷ drop (i + 1) (take n xs)
next_of_first n xs i x less found =
    let there = is_there xs i x found in
    let front : i < length (take n xs) = omega (arith, length-take n xs) in
    drop_more (take n xs) i x front ∙ ap (λ y. y ∷ drop (i + 1) (take n xs)) (get_or-take n xs i x less ∙ there.1)

pub none_of_first : {X : Type 0} (n : ℕ) (xs : List X) (i : ℕ) (e : Values) → Err e ≡ asked (slice_get xs i) → drop i (take n xs) ≡ []
none_of_first n xs i e refused =
    let past = is_past xs i e refused in
    drop_all i (take n xs) (omega (arith, length-take n xs))

-- the registers of the running routine, by their values
pub register_is : (levels : List Level) (k : ℕ) → register_at levels k ≡ slice_get (registers_in levels) k
register_is [] k = refl
register_is (l ∷ ls) k = sym (slice_get-map value_of l.registers k)

pub depth_is : (levels : List Level) → depth_in levels ≡ length (registers_in levels)
depth_is [] = refl
depth_is (l ∷ ls) = sym (length-map l.registers value_of)

read_if : (b : Bool) (v w : ℕ) (e : Values) → Ok v ≡ cond b (Ok w) (Err e) → (b ≡ true) × (w ≡ v)
read_if true v w e is = (refl, cc)
read_if false v w e is = absurd (cc)

refused_if : (b : Bool) (w : ℕ) (e d : Values) → Err d ≡ cond b (Ok w) (Err e) → b ≡ false
refused_if true w e d is = absurd (cc)
refused_if false w e d is = refl

-- a port that is read
pub port_there : (ports : List Port) (p v : ℕ) → Ok v ≡ reading ports p → (p < length ports) × (value_at ports p ≡ v)
port_there ports p v is =
    let r = read_if (nat_lt p (length ports)) v (value_at ports p) _ is in
    (ltb-true p (length ports) r.0, r.1)

pub port_none : (ports : List Port) (p : ℕ) (e : Values) → Err e ≡ reading ports p → length ports ≤ p
port_none ports p e is = ltb-false p (length ports) (refused_if (nat_lt p (length ports)) (value_at ports p) _ e is)
