-- The first number and the first place at which a test fails, one on.
use Rattle.std.proofs.Common.{◌≡◌, ℕ, zero, suc, ◌+◌, ◌-◌, ◌<◌, ◌≤◌, Bool, true, false, cond, MatchOption, Some, None, Option, sym, refl, ap, ◌∙◌, subst, ⊎_elim, add-zero, add-suc, arith}
use Rattle.std.proofs.lemmas.Bool.{cases_Bool, cases_order, cond-true, cond-false}
use Rattle.refusal.specs.declared.Place.{Place}
use Rattle.module.specs.First.{first_failing, or_later, first_place, sum_to}

module _ (test : ℕ → Bool) where
  pub first_more : (n k : ℕ) → k < n → test k ≡ true → first_failing test (n - k) k ≡ first_failing test (n - (k + 1)) (k + 1)
  first_more n k lt ok = let e : n - k ≡ suc (n - (k + 1)) = omega arith in ap (λ l. first_failing test l k) e ∙ cond-true _ _ _ ok

  pub first_stop : (n k : ℕ) → k < n → test k ≡ false → first_failing test (n - k) k ≡ Some k
  first_stop n k lt bad = let e : n - k ≡ suc (n - (k + 1)) = omega arith in ap (λ l. first_failing test l k) e ∙ cond-false _ _ _ bad

  pub first_none : (left k : ℕ) → first_failing test left k ≡ None → (j : ℕ) → k ≤ j → j < k + left → test j ≡ true
  first_none zero k e j g h = absurd (omega arith)
  first_none (suc left) k e j g h =
      ⊎_elim
      (λ b. ⊎_elim
      (λ a. subst (λ x. test x ≡ true) (sym a) b)
      (⊎_elim (λ l. absurd (omega arith)) (λ l. first_none left (k + 1) (sym (cond-true _ _ _ b) ∙ e) j (omega arith) (omega arith)))
      (cases_order j k))
      (λ b. let s : Some k ≡ None = sym (cond-false _ _ _ b) ∙ e in absurd (grind arith))
      (cases_Bool (test k))

  pub first_in : (left k j : ℕ) → first_failing test left k ≡ Some j → j < k + left
  first_in zero k j e = absurd (grind arith)
  first_in (suc left) k j e =
      ⊎_elim
      (λ b. let h = first_in left (k + 1) j (sym (cond-true _ _ _ b) ∙ e) in omega arith)
      (λ b. let s : Some k ≡ Some j = sym (cond-false _ _ _ b) ∙ e in let h : k ≡ j = grind arith in omega arith)
      (cases_Bool (test k))

-- the first failure from what a search over the numbers answers
module _ (test : ℕ → Bool) where
  pub all_pass : (left k : ℕ) → ((j : ℕ) → k ≤ j → j < k + left → test j ≡ true) → first_failing test left k ≡ None
  all_pass zero k ok = refl
  all_pass (suc left) k ok =
      cond-true _ _ _ (ok k (omega arith) (omega arith)) ∙ all_pass left (k + 1) (λ j g h. ok j (omega arith) (omega arith))

  one_fails : (left k i : ℕ) → k ≤ i → i < k + left → test i ≡ false → ((j : ℕ) → k ≤ j → j < i → test j ≡ true) → Some i ≡ first_failing test left k
  one_fails zero k i g h bad ok = absurd (omega arith)
  one_fails (suc left) k i g h bad ok =
      ⊎_elim
      (λ e. ap Some e ∙ sym (cond-false _ _ _ (ap test (sym e) ∙ bad)))
      (⊎_elim
      (λ l. absurd (omega arith))
      (λ l. one_fails left (k + 1) i (omega arith) (omega arith) bad (λ j a b. ok j (omega arith) b) ∙ sym (cond-true _ _ _ (ok k (omega arith) l))))
      (cases_order i k)

  pub first_found : (n : ℕ) (r : Option ℕ) → MatchOption r ((j : ℕ) → 0 ≤ j → j < n → test j ≡ true) (λ i. (0 ≤ i) × (i < n) × (test i ≡ false) × ((j : ℕ) → 0 ≤ j → j < i → test j ≡ true)) → r ≡ first_failing test n 0
  first_found n None ok = sym (all_pass n 0 (λ j g h. ok j g (omega arith)))
  first_found n (Some i) found = one_fails n 0 i found.0 (omega (arith, found.1)) found.2 found.3

-- tests that agree have the same first failure
pub first_same : (f g : ℕ → Bool) (left k : ℕ) → ((j : ℕ) → j < k + left → f j ≡ g j) → first_failing f left k ≡ first_failing g left k
first_same f g zero k e = refl
first_same f g (suc left) k e = λ i. cond (e k (omega arith) i) (first_same f g left (k + 1) (λ j h. e j (omega arith)) i) (Some k)

module _ (test : ℕ → ℕ → Bool) (count : ℕ → ℕ) where
  -- a pass at routine r of n, where o is the routine's first failure
  pub place_step : (n r : ℕ) (o : Option ℕ) → r < n → o ≡ first_failing (test r) (count r) 0 → first_place test count (n - r) r ≡ or_later r o (first_place test count (n - (r + 1)) (r + 1))
  place_step n r o lt e =
      let s : n - r ≡ suc (n - (r + 1)) = omega arith in
      ap (λ l. first_place test count l r) s ∙ ap (λ x. or_later r x (first_place test count (n - (r + 1)) (r + 1))) (sym e)

  later_none : (r : ℕ) (o : Option ℕ) (later : Option Place) → or_later r o later ≡ None → (o ≡ None) × (later ≡ None)
  later_none r None later e = (refl, e)
  later_none r (Some i) later e = absurd (grind arith)

  -- a test without a failing place holds at every place
  pub place_none : (left r : ℕ) → first_place test count left r ≡ None → (s i : ℕ) → r ≤ s → s < r + left → i < count s → test s i ≡ true
  place_none zero r e s i g h k = absurd (omega arith)
  place_none (suc left) r e s i g h k =
      let p = later_none r (first_failing (test r) (count r) 0) (first_place test count left (r + 1)) e in
      ⊎_elim
      (λ a. first_none (test s) (count s) 0 (ap (λ x. first_failing (test x) (count x) 0) a ∙ p.0) i (omega arith) (omega arith))
      (⊎_elim (λ l. absurd (omega arith)) (λ l. place_none left (r + 1) p.1 s i (omega arith) (omega arith) k))
      (cases_order s r)

pub sum_mono : (f : ℕ → ℕ) (r k : ℕ) → sum_to f r ≤ sum_to f (r + k)
sum_mono f r zero = omega (arith, ap (sum_to f) (add-zero r))
sum_mono f r (suc k) = let h = sum_mono f r k in omega (arith, h, ap (sum_to f) (add-suc r k))
