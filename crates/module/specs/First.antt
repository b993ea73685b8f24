-- The first number, and the first place, at which a test fails; sums; and a test of what may be absent.
use Rattle.std.specs.Prelude.{ℕ, zero, suc, ◌+◌, Bool, true, cond, Some, None, Option}
use Rattle.refusal.specs.declared.Place.{Place}

-- the first of so many numbers from k on at which the test fails
abbrev pub first_failing : (ℕ → Bool) → ℕ → ℕ → Option ℕ
first_failing test zero k = None
first_failing test (suc left) k = cond (test k) (first_failing test left (k + 1)) (Some k)

-- instruction i of routine r
abbrev pub place : ℕ → ℕ → Place
place r i = record { routine = r; instruction = i }

-- the place in routine r, if an instruction was found there, or else what was found later
abbrev pub or_later : ℕ → Option ℕ → Option Place → Option Place
or_later r (Some i) later = Some (place r i)
or_later r None later = later

-- the first place, in order of place, at which the test fails, in so many routines from r on, where count says how many instructions
-- a routine has
abbrev pub first_place : (ℕ → ℕ → Bool) → (ℕ → ℕ) → ℕ → ℕ → Option Place
first_place test count zero r = None
first_place test count (suc left) r = or_later r (first_failing (test r) (count r) 0) (first_place test count left (r + 1))

-- the sum of the first n values
abbrev pub sum_to : (ℕ → ℕ) → ℕ → ℕ
sum_to f zero = 0
sum_to f (suc n) = sum_to f n + f n

-- nothing fails the test: either there is no value, or it passes
abbrev pub passes : {X : Type 0} → (X → Bool) → Option X → Bool
passes test None = true
passes test (Some x) = test x
