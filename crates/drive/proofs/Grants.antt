-- What an accepted grant is, in plain words.
use Rattle.std.proofs.Common.{◌≡◌, ℕ, zero, suc, ◌<◌, ◌≤◌, Bool, ltb, true, false, cond, List, Some, None, Ok, Err, Option, Result, IfOk, sym, refl, ap, ◌∙◌, subst, inl, arith}
use Rattle.std.proofs.lemmas.Bool.{and_parts, leb-true, ltb-true, ltb-false}
use Rattle.refusal.specs.Values.{Values, caller}
use Rattle.host.specs.declared.port.Port.{Port}
use Rattle.machine.specs.World.{Phase, running, ended, tripped, World}
use Rattle.machine.specs.Fuel.{TickRule, by_phase, steps, advanced, StepsLead, Spends}
use Rattle.machine.proofs.Fuel.{spent, way_foretold, way_runs, way_ends}
use Rattle.drive.specs.declared.call.Call.TheVariants.{Grant}
use Rattle.drive.specs.declared.drive.Drive.{Drive}
use Rattle.drive.specs.Calls.{is_fuel, refusal, done, unless_refused}
use Rattle.drive.specs.Law.{Sound, Granted, EveryGrant}
use Rattle.drive.specs.View.{module_of, world_in, Called}
use Rattle.drive.proofs.Sound.{is_sound}
use Rattle.drive.proofs.Stepping.{never, foretold_in}

-- a grant that is not refused is to a drive that runs
pub grants_run : (fuel : ℕ) (phase : Phase) → refusal (Grant fuel) phase ≡ None → phase ≡ running
grants_run fuel running h = refl
grants_run fuel ended h = absurd (go (is_fuel fuel) h)
  where
    go : (b : Bool) → cond b (Some (caller 15)) (Some (caller 14)) ≡ None → ⊥
    go true h = cc
    go false h = cc
grants_run fuel (tripped t) h = absurd (go (is_fuel fuel) h)
  where
    go : (b : Bool) → cond b (Some (caller 16)) (Some (caller 14)) ≡ None → ⊥
    go true h = cc
    go false h = cc

-- and of some fuel
grants_fuel : (fuel : ℕ) (phase : Phase) → refusal (Grant fuel) phase ≡ None → 1 ≤ fuel
grants_fuel fuel phase h = go (is_fuel fuel) refl h
  where
    go : (b : Bool) → is_fuel fuel ≡ b → cond b (by_phase phase None (Some (caller 15)) (Some (caller 16))) (Some (caller 14)) ≡ None → 1 ≤ fuel
    go true is h = leb-true 1 fuel (and_parts _ _ is).0
    go false is h = absurd cc

-- fuel that a running machine spends makes a step
spends_some : (bs : List ℕ) (rule : TickRule) (fuel : ℕ) (w : World) (made : ℕ) (v : World) → w.phase ≡ running → 1 ≤ fuel → Spends bs rule fuel w made v → 1 ≤ made
spends_some bs rule fuel w zero v run some told = absurd (told.stopped some (ap (λ u. u.phase) told.lead ∙ run))
spends_some bs rule fuel w (suc made) v run some told = omega arith

-- a drive is sound before and after each step that it makes
module _ (rule : TickRule) (d : Drive) (ps : List Port) (e : Drive) (qs : List Port) (n : ℕ) (bytes : module_of e ≡ module_of d) (lead : StepsLead (module_of d) rule n (world_in d ps) (world_in e qs)) where
  sound_before : (k : ℕ) → k < n → Sound (module_of d) rule (advanced (module_of d) rule k (world_in d ps))
  sound_before k less =
      let bs = module_of d in
      let w = world_in d ps in
      let foretold = way_foretold bs rule (never d) n w (world_in e qs) (foretold_in d ps) lead k (omega (arith, less)) in
      let one = (never d).goes_on rule (advanced bs rule k w) (way_runs bs rule (never d) n w (world_in e qs) lead k less) foretold in
      record { not_stuck = inl (one.0, one.1); foretold = (never d).foretold (advanced bs rule k w) foretold }

  sound_last : Sound (module_of d) rule (advanced (module_of d) rule n (world_in d ps))
  sound_last =
      subst (λ b. Sound b rule (advanced (module_of d) rule n (world_in d ps))) bytes
      (subst (λ (v : World). Sound (module_of e) rule v) (sym (way_ends (module_of d) rule (never d) n (world_in d ps) (world_in e qs) lead)) (is_sound rule e qs))

  sound_on : (k : ℕ) → k ≤ n → Sound (module_of d) rule (advanced (module_of d) rule k (world_in d ps))
  sound_on k most = by_place (ltb k n) refl
    where
      by_place : (b : Bool) → ltb k n ≡ b → Sound (module_of d) rule (advanced (module_of d) rule k (world_in d ps))
      by_place true is = sound_before k (ltb-true k n is)
      by_place false is =
          let last : n ≡ k = omega (arith, most, ltb-false k n is) in
          subst (λ k. Sound (module_of d) rule (advanced (module_of d) rule k (world_in d ps))) last sound_last

pub granted : EveryGrant
granted rule fuel d ps said e qs called = by_refusal (refusal (Grant fuel) w.phase) refl
  where
    bs : List ℕ
    bs = module_of d

    w : World
    w = world_in d ps

    by_refusal : (r : Option Values) → refusal (Grant fuel) w.phase ≡ r → Granted rule fuel d ps said e qs
    by_refusal (Some e) h =
        let is : ◌≡◌ {A = Result (ℕ × Phase) Values} (Ok said) (Err e) = called.answer ∙ ap (λ r. (unless_refused r w (done bs rule (Grant fuel) w)).answer) h in
        absurd cc
    by_refusal None h =
        let n = steps bs rule fuel w in
        let later = advanced bs rule n w in
        let is : ◌≡◌ {A = Result (ℕ × Phase) Values} (Ok said) (Ok (n, later.phase)) = called.answer ∙ ap (λ r. (unless_refused r w (done bs rule (Grant fuel) w)).answer) h in
        let same : said ≡ (n, later.phase) = cc in
        let left : world_in e qs ≡ later = called.world ∙ ap (λ r. (unless_refused r w (done bs rule (Grant fuel) w)).world) h in
        let count : said.0 ≡ n = ap (λ s. s.0) same in
        let here : Spends bs rule fuel w said.0 (world_in e qs)
        = spent bs rule (never d) (foretold_in d ps) count (left ∙ ap (λ k. advanced bs rule k w) (sym count)) in
        record {
          some = spends_some bs rule fuel w said.0 (world_in e qs) (grants_run fuel w.phase h) (grants_fuel fuel w.phase h) here;
          spends = here;
          phase = ap (λ s. s.1) same ∙ sym (ap (λ u. u.phase) left);
          sound = sound_on rule d ps e qs said.0 called.bytes here.lead;
        }

-- so an answer of a grant is one if it is no refusal
pub granted_if : {rule : TickRule} {fuel : ℕ} {d : Drive} {ps : List Port} (answer : Result (ℕ × Phase) Values) {e : Drive} {qs : List Port}
    → Called rule (Grant fuel) d ps answer e qs
    → IfOk answer (λ said. Granted rule fuel d ps said e qs)
granted_if (Ok said) called = granted _ _ _ _ said _ _ called
granted_if (Err e) called = tt
