-- A machine that is as the check foretold, over its steps.
use Rattle.std.proofs.Common.{◌≡◌, ◌≢◌, ℕ, true, List, [], ◌∷◌, Some, sym, refl, ap, ◌∙◌, subst, arith}
use Rattle.faults.specs.Causes.{CauseValues}
use Rattle.host.specs.declared.port.Port.{Port}
use Rattle.faults.specs.declared.cause.Cause.{Cause}
use Rattle.isa.specs.declared.instr.Instr.{Instr}
use Rattle.refusal.specs.declared.Place.{Place}
use Rattle.module.specs.declared.body.Body.{Body}
use Rattle.machine.specs.declared.machine.Machine.{Machine}
use Rattle.machine.specs.declared.memory.Memory.{Memory}
use Rattle.machine.specs.declared.stack.Stack.{Stack}
use Rattle.machine.specs.declared.machine.State.{State}
use Rattle.machine.specs.declared.machine.State.TheVariants.{Running, Ended, Tripped}
use Rattle.machine.specs.Nested.{running_routine, waiting}
use Rattle.machine.specs.Foretold.{AsForetold, levels_as_foretold, as_foretold_in, NeverStuck, as_foretold}
use Rattle.machine.specs.Fuel.{by_phase}
use Rattle.machine.specs.Parts.{phase_of, levels_in, world_from}
use Rattle.machine.specs.View.{module_of, world_of, Stands, RunsBody, effect_in}
use Rattle.machine.specs.Level.{Level}
use Rattle.machine.specs.World.{World, world, running, able, trips, after, step, step_in}
use Rattle.machine.proofs.Legal.{some_if}
use Rattle.machine.proofs.Soundness.{head_foretold}
use Rattle.machine.proofs.Steps.{machine_step_goes}

-- soundness says nothing of the ports
pub any_ports : (bs : List ℕ) (m : Machine) (ports later : List Port) → as_foretold bs (world_of m ports) ≡ true → as_foretold bs (world_of m later) ≡ true
unfolding as_foretold world_of
any_ports bs m ports later h = h

-- its type says that a machine is as foretold
pub as_its_type_says : (m : Machine) → as_foretold (module_of m) (world_of m []) ≡ true
unfolding world_of
as_its_type_says m = m.foretold

-- and so it is over the bytes behind the body of its running routine
pub foretold_over : {bs : List ℕ} (m : Machine) {t : Body} → RunsBody bs m t → as_foretold bs (world_of m []) ≡ true
foretold_over m runs = subst (λ b. as_foretold b (world_of m []) ≡ true) runs.upon (as_its_type_says m)

module _ (bs : List ℕ) (never : NeverStuck bs) (m : Machine) (ports : List Port) (foretold : as_foretold bs (world_of m ports) ≡ true) where
  -- a running machine that is as foretold has a step
  pub has_step : m.state ≡ Running → able bs (running_routine m.stack) (waiting m.stack) ≡ true
  unfolding world_of step step_in
  has_step run =
      let rule : List Port → List Port = λ ps. ps in
      let w = world running (running_routine m.stack ∷ waiting m.stack) m.memory.bytes ports in
      let same : world_of m ports ≡ w = ap (λ s. world (phase_of s) (levels_in s m.stack) m.memory.bytes ports) run in
      let next = never.goes_on rule w refl (subst (λ (v : World). as_foretold bs v ≡ true) same foretold) in
      some_if (able bs (running_routine m.stack) (waiting m.stack)) _ next.0 next.1

  pub phase_running : m.state ≡ Running → (world_of m ports).phase ≡ running
  unfolding world_of
  phase_running run = ap phase_of run

  -- and is as foretold after it
  pub stays_foretold : (rule : List Port → List Port) (n : Machine) (later : List Port) → m.state ≡ Running → step bs rule (world_of m ports) ≡ Some (world_of n later) → as_foretold bs (world_of n later) ≡ true
  stays_foretold rule n later run e =
      let next = never.goes_on rule (world_of m ports) (phase_running run) foretold in
      let both : Some next.0 ≡ Some (world_of n later) = sym next.1 ∙ e in
      let same : next.0 ≡ world_of n later = cc in
      subst (λ (v : World). as_foretold bs v ≡ true) same next.2

-- a machine that stands at an instruction is as foretold after what this comes to
pub after_foretold : (bs : List ℕ) (never : NeverStuck bs) (m : Machine) (x : Instr) → as_foretold bs (world_of m []) ≡ true → Stands bs x m →
    as_foretold bs (after (world_of m []) (running_routine m.stack) (effect_in bs (λ ps. ps) x m [])) ≡ true
after_foretold bs never m x foretold at =
    let rule : List Port → List Port = λ ps. ps in
    let later = after (world_of m []) (running_routine m.stack) (effect_in bs rule x m []) in
    let next = never.goes_on rule (world_of m []) (phase_running bs never m [] foretold at.running) foretold in
    let both : Some next.0 ≡ Some later = sym next.1 ∙ machine_step_goes bs rule m [] at.running x at.able at.stands in
    let same : next.0 ≡ later = cc in
    subst (λ (v : World). as_foretold bs v ≡ true) same next.2

-- a machine that does not run makes no step
pub rests : (m : Machine) (ports : List Port) → (m.state ≡ Running → ⊥) → (world_of m ports).phase ≢ running
unfolding world_of
rests m ports stopped e = go m.state stopped e
  where
    go : (s : State) → (s ≡ Running → ⊥) → phase_of s ≡ running → ⊥
    go Running h e = h refl
    go Ended h e = let z : ◌≡◌ {A = ℕ} 0 1 = ap (λ p. by_phase p 1 0 0) e in omega (arith, z)
    go (Tripped cause place) h e = let z : ◌≡◌ {A = ℕ} 0 1 = ap (λ p. by_phase p 1 0 0) e in omega (arith, z)

module _ (bs : List ℕ) (m : Machine) (foretold : as_foretold bs (world_of m []) ≡ true) (run : m.state ≡ Running) where
  -- the nested routines of a running machine that is as foretold are so
  pub levels_foretold : levels_as_foretold bs (running_routine m.stack ∷ waiting m.stack) ≡ true
  unfolding world_of as_foretold as_foretold_in
  levels_foretold = ap (λ s. as_foretold_in bs (phase_of s) (levels_in s m.stack)) (sym run) ∙ foretold

  -- and stay so where it trips
  pub trip_foretold : (cause : Cause) (place : Place) → as_foretold bs (world_from (Tripped cause place) m.stack m.memory []) ≡ true
  unfolding as_foretold as_foretold_in
  trip_foretold cause place = levels_foretold

  pub running_foretold : AsForetold bs (running_routine m.stack)
  running_foretold = head_foretold bs (running_routine m.stack) (waiting m.stack) levels_foretold

-- after a trip or the end none runs
pub tripped_rests : (w v : World) (l : Level) (cause : CauseValues) → v ≡ after w l (trips cause) → v.phase ≢ running
unfolding after
tripped_rests w v l cause e run =
    let z : ◌≡◌ {A = ℕ} 0 1 = ap (λ p. by_phase p 1 0 0) (sym (ap (λ u. u.phase) e) ∙ run) in
    omega (arith, z)

pub ended_rests : (m : Machine) (ports : List Port) → m.state ≡ Ended → (world_of m ports).phase ≢ running
unfolding world_of
ended_rests m ports e run =
    let z : ◌≡◌ {A = ℕ} 0 1 = ap (λ p. by_phase p 1 0 0) (ap phase_of (sym e) ∙ run) in
    omega (arith, z)

-- the phase is the same over any ports
pub any_phase : (m : Machine) (ports later : List Port) → (world_of m ports).phase ≢ running → (world_of m later).phase ≢ running
unfolding world_of
any_phase m ports later h = h

-- after the end nothing is foretold
pub end_foretold : (bs : List ℕ) (stack : Stack) (memory : Memory) → as_foretold bs (world_from Ended stack memory []) ≡ true
unfolding as_foretold as_foretold_in
end_foretold bs stack memory = refl
