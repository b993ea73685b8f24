-- Steps that are made one after the other, and the fuel that they use.
use Rattle.std.proofs.Common.{◌≡◌, ◌≢◌, ℕ, zero, suc, ◌+◌, ◌<◌, ◌≤◌, true, List, Some, sym, refl, ap, ◌∙◌, subst, arith}
use Rattle.std.specs.Prelude.{unwrap_or}
use Rattle.machine.specs.World.{Phase, running, ended, tripped, World, step}
use Rattle.machine.specs.Foretold.{NeverStuck, as_foretold}
use Rattle.machine.specs.Fuel.{TickRule, by_phase, next, steps, advanced, StepsLead, Spends, Goes}

-- a phase that is not running is one of the others
pub other_phase : (p : Phase) → p ≢ running → (x : ℕ) → by_phase p x 0 0 ≡ 0
other_phase running h x = absurd (h refl)
other_phase ended h x = refl
other_phase (tripped trip) h x = refl

-- and one that is another is not running
stopped_phase : {p : Phase} → ◌≡◌ {A = ℕ} (by_phase p 1 0 0) 0 → p ≢ running
stopped_phase {p} other run = let z : ◌≡◌ {A = ℕ} 1 0 = sym (ap (λ q. by_phase q 1 0 0) run) ∙ other in omega (arith, z)

module _ (bs : List ℕ) (rule : TickRule) where
  -- a machine that stopped makes none
  pub none_made : (left : ℕ) (w : World) → ((x : ℕ) → by_phase w.phase x 0 0 ≡ 0) → steps bs rule left w ≡ 0
  none_made zero w rest = refl
  none_made (suc left) w rest = rest (suc (steps bs rule left (next bs rule w)))

  -- some steps, and then some more
  pub advanced_sum : (m n : ℕ) (w : World) → advanced bs rule (m + n) w ≡ advanced bs rule n (advanced bs rule m w)
  advanced_sum zero n w = let same : 0 + n ≡ n = omega arith in ap (λ k. advanced bs rule k w) same
  advanced_sum (suc m) n w =
      let same : suc m + n ≡ suc (m + n) = omega arith in
      ap (λ k. advanced bs rule k w) same ∙ advanced_sum m n (next bs rule w)

  -- a running machine makes the step that it has
  pub goes_one : (w v : World) → w.phase ≡ running → step bs rule w ≡ Some v → Goes bs rule 1 w v
  goes_one w v run e =
      let on : next bs rule w ≡ v = ap (λ o. unwrap_or o w) e in
      record {
        reaches = on;
        counts = λ more.
            let same : 1 + more ≡ suc more = omega arith in
            let counted : steps bs rule (1 + more) w ≡ suc (steps bs rule more v)
            = ap (λ k. steps bs rule k w) same
            ∙ ap (λ p. by_phase p (suc (steps bs rule more (next bs rule w))) 0 0) run
            ∙ ap (λ u. suc (steps bs rule more u)) on in
            omega (arith, counted);
      }

  -- some steps, and then others
  pub goes_then : {m n : ℕ} {w v u : World} → Goes bs rule m w v → Goes bs rule n v u → Goes bs rule (m + n) w u
  goes_then {m} {n} {w} {v} {u} first later =
      record {
        reaches = advanced_sum m n w ∙ ap (advanced bs rule n) first.reaches ∙ later.reaches;
        counts = λ more.
            let same : m + n + more ≡ m + (n + more) = omega arith in
            let counted = ap (λ k. steps bs rule k w) same ∙ first.counts (n + more) in
            omega (arith, counted, later.counts more);
      }

-- Fuel is spent by steps of the rules: a world that is as foretold has a next one while it runs.
module _ (bs : List ℕ) (rule : TickRule) (never : NeverStuck bs) where
  abbrev SpendsAll : ℕ → World → ℕ → Type 0
  SpendsAll fuel w n = Spends bs rule fuel w n (advanced bs rule n w)

  -- none is spent where the machine does not run
  none_spent : (fuel : ℕ) (w : World) → w.phase ≢ running → SpendsAll fuel w (steps bs rule fuel w)
  none_spent fuel w other =
      subst (SpendsAll fuel w) (sym (none_made bs rule fuel w (other_phase w.phase other)))
      (record { within = omega arith; stopped = λ _. other; lead = refl })

  -- a step, and then the rest
  one_spent : (fuel : ℕ) (w : World) → as_foretold bs w ≡ true
      → ((v : World) → as_foretold bs v ≡ true → SpendsAll fuel v (steps bs rule fuel v))
      → (p : Phase) → w.phase ≡ p → SpendsAll (suc fuel) w (steps bs rule (suc fuel) w)
  one_spent fuel w foretold rest running at =
      let one = never.goes_on rule w at foretold in
      let on : next bs rule w ≡ one.0 = ap (λ o. unwrap_or o w) one.1 in
      let n = steps bs rule fuel one.0 in
      let told = rest one.0 one.2 in
      let counted : steps bs rule (suc fuel) w ≡ suc n
      = ap (λ p. by_phase p (suc (steps bs rule fuel (next bs rule w))) 0 0) at ∙ ap (λ u. suc (steps bs rule fuel u)) on in
      let leads : advanced bs rule n one.0 ≡ advanced bs rule (suc n) w = ap (advanced bs rule n) (sym on) in
      subst (SpendsAll (suc fuel) w) (sym counted)
      (record {
        within = omega (arith, told.within);
        stopped = λ less. subst (λ (v : World). v.phase ≢ running) leads (told.stopped (omega (arith, less)));
        lead = (at, one.0, one.1, subst (StepsLead bs rule n one.0) leads told.lead);
      })
  one_spent fuel w foretold rest ended at = none_spent (suc fuel) w (stopped_phase (ap (λ p. by_phase p 1 0 0) at))
  one_spent fuel w foretold rest (tripped trip) at = none_spent (suc fuel) w (stopped_phase (ap (λ p. by_phase p 1 0 0) at))

  spends : (fuel : ℕ) (w : World) → as_foretold bs w ≡ true → SpendsAll fuel w (steps bs rule fuel w)
  spends zero w foretold = record { within = omega arith; stopped = λ less. absurd (omega (arith, less)); lead = refl }
  spends (suc fuel) w foretold = one_spent fuel w foretold (spends fuel) w.phase refl

  -- so it is of what a run answers and leaves
  pub spent : {fuel made : ℕ} {w v : World} → as_foretold bs w ≡ true → made ≡ steps bs rule fuel w → v ≡ advanced bs rule made w → Spends bs rule fuel w made v
  spent {fuel} {made} {w} {v} foretold counted left =
      subst (Spends bs rule fuel w made) (sym left) (subst (SpendsAll fuel w) (sym counted) (spends fuel w foretold))

  -- Along steps by the rules each world is as foretold, each before the last runs, and the last is the one to which they lead.
  pub way_foretold : (n : ℕ) (w v : World) → as_foretold bs w ≡ true → StepsLead bs rule n w v → (k : ℕ) → k ≤ n → as_foretold bs (advanced bs rule k w) ≡ true
  way_foretold n w v foretold lead zero h = foretold
  way_foretold zero w v foretold lead (suc k) h = absurd (omega (arith, h))
  way_foretold (suc n) w v foretold lead (suc k) h =
      let one = never.goes_on rule w lead.0 foretold in
      let both : Some one.0 ≡ Some lead.1 = sym one.1 ∙ lead.2 in
      let same : one.0 ≡ lead.1 = cc in
      let on : next bs rule w ≡ lead.1 = ap (λ o. unwrap_or o w) lead.2 in
      let later = way_foretold n lead.1 v (subst (λ (u : World). as_foretold bs u ≡ true) same one.2) lead.3 k (omega (arith, h)) in
      subst (λ (u : World). as_foretold bs (advanced bs rule k u) ≡ true) (sym on) later

  pub way_runs : (n : ℕ) (w v : World) → StepsLead bs rule n w v → (k : ℕ) → k < n → (advanced bs rule k w).phase ≡ running
  way_runs zero w v lead k h = absurd (omega (arith, h))
  way_runs (suc n) w v lead zero h = lead.0
  way_runs (suc n) w v lead (suc k) h =
      let on : next bs rule w ≡ lead.1 = ap (λ o. unwrap_or o w) lead.2 in
      ap (λ u. (advanced bs rule k u).phase) on ∙ way_runs n lead.1 v lead.3 k (omega (arith, h))

  pub way_ends : (n : ℕ) (w v : World) → StepsLead bs rule n w v → advanced bs rule n w ≡ v
  way_ends zero w v lead = sym lead
  way_ends (suc n) w v lead =
      let on : next bs rule w ≡ lead.1 = ap (λ o. unwrap_or o w) lead.2 in
      ap (advanced bs rule n) on ∙ way_ends n lead.1 v lead.3
