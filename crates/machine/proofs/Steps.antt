-- A step of a machine, from what its instruction comes to.
use Rattle.std.proofs.Common.{◌≡◌, ℕ, true, List, [], ◌∷◌, Some, None, Option, sym, ap, ◌∙◌}
use Rattle.std.specs.Option.{IfNone}
use Rattle.std.proofs.lemmas.Bool.{cond-true}
use Rattle.isa.specs.declared.instr.Instr.{Instr}
use Rattle.host.specs.declared.port.Port.{Port}
use Rattle.machine.specs.declared.machine.Machine.{Machine}
use Rattle.machine.specs.declared.memory.Memory.{Memory}
use Rattle.machine.specs.declared.stack.Stack.{Stack}
use Rattle.machine.specs.declared.machine.State.{State}
use Rattle.machine.specs.declared.machine.State.TheVariants.{Running, Ended}
use Rattle.machine.specs.Level.{Level, onward}
use Rattle.machine.specs.Nested.{running_routine, waiting}
use Rattle.machine.specs.Parts.{phase_of, levels_in, world_from}
use Rattle.machine.specs.View.{world_of, effect_in}
use Rattle.machine.specs.World.{World, goes, ends, world, running, ended, able, after, effect, effect_here, here, step, step_in}

module _ (bs : List ℕ) (rule : List Port → List Port) where
  -- the step of a world where l runs and ls wait, by what its instruction comes to
  pub step_in_goes : (w : World) (l : Level) (ls : List Level) (x : Instr) → able bs l ls ≡ true → here bs l ≡ Some x →
      step_in bs rule w (l ∷ ls) ≡ Some (after w l (effect bs rule x l ls w.memory w.ports))
  unfolding step_in
  step_in_goes w l ls x can e =
      cond-true (able bs l ls) _ _ can ∙ ap (λ o. Some (after w l (effect_here bs rule o l ls w.memory w.ports))) e

  pub step_goes : (l : Level) (ls : List Level) (memory : List ℕ) (ports : List Port) (x : Instr) → able bs l ls ≡ true → here bs l ≡ Some x →
      step bs rule (world running (l ∷ ls) memory ports) ≡ Some (after (world running (l ∷ ls) memory ports) l (effect bs rule x l ls memory ports))
  unfolding step
  step_goes l ls memory ports x can e = step_in_goes (world running (l ∷ ls) memory ports) l ls x can e

module _ (bs : List ℕ) (rule : List Port → List Port) (m : Machine) (ports : List Port) (run : m.state ≡ Running) where
  pub running_world : world_of m ports ≡ world running (running_routine m.stack ∷ waiting m.stack) m.memory.bytes ports
  unfolding world_of
  running_world = ap (λ s. world (phase_of s) (levels_in s m.stack) m.memory.bytes ports) run

  -- the same of a machine
  pub machine_step_goes : (x : Instr) → able bs (running_routine m.stack) (waiting m.stack) ≡ true → here bs (running_routine m.stack) ≡ Some x →
      step bs rule (world_of m ports) ≡ Some (after (world_of m ports) (running_routine m.stack) (effect_in bs rule x m ports))
  machine_step_goes x can e =
      ap (step bs rule) running_world
      ∙ step_goes bs rule (running_routine m.stack) (waiting m.stack) m.memory.bytes ports x can e
      ∙ (λ i. Some (after (sym running_world i) (running_routine m.stack) (effect_in bs rule x m ports)))

-- the world of a running machine of these parts, whose waiting routines are known
pub runs_from : {state : State} (stack : Stack) {ls : List Level} → state ≡ Running → waiting stack ≡ ls → (memory : Memory) (ports : List Port) →
    world_from state stack memory ports ≡ world running (running_routine stack ∷ ls) memory.bytes ports
runs_from {state} stack run waits memory ports =
    ap (λ s. world (phase_of s) (levels_in s stack) memory.bytes ports) run ∙ ap (λ ls. world running (running_routine stack ∷ ls) memory.bytes ports) waits

-- one instruction on
abbrev pub next : Level → Level
next l = onward l l.registers

-- what holds anyhow holds where there is no value
pub on_none : {T P : Type 0} (o : Option T) → P → IfNone o P
on_none (Some x) p = tt
on_none None p = p

-- what follows where there is no value
pub none_then : {T P Q : Type 0} (o : Option T) → IfNone o P → (P → Q) → IfNone o Q
none_then (Some x) p f = tt
none_then None p f = f p

-- what the machine m leaves, by the parts of the machine that it is then
module _ (bs : List ℕ) (rule : List Port → List Port) (m : Machine) (ports : List Port) {state : State} (stack : Stack) (kept : Memory) (x : Instr) (run : m.state ≡ Running) where
  -- the run goes on
  pub went : {later : List Port} {y : Instr} {l : Level} {ls : List Level} {memory : List ℕ} → x ≡ y →
      effect_in bs rule y m ports ≡ goes (l ∷ ls) memory later → running_routine stack ≡ l → waiting stack ≡ ls → kept.bytes ≡ memory → state ≡ m.state →
      world_from state stack kept later ≡ after (world_of m ports) (running_routine m.stack) (effect_in bs rule x m ports)
  unfolding after
  went {later} is e t w b s =
      ap (λ state. world (phase_of state) (levels_in state stack) kept.bytes later) (s ∙ run)
      ∙ (λ i. world running (t i ∷ w i) (b i) later)
      ∙ ap (after (world_of m ports) (running_routine m.stack)) (sym e ∙ ap (λ z. effect_in bs rule z m ports) (sym is))

  -- the run has ended
  pub has_ended : effect_in bs rule x m ports ≡ ends → kept.bytes ≡ m.memory.bytes → state ≡ Ended →
      world_from state stack kept ports ≡ after (world_of m ports) (running_routine m.stack) (effect_in bs rule x m ports)
  unfolding after world_of
  has_ended e b s =
      ap (λ state. world (phase_of state) (levels_in state stack) kept.bytes ports) s
      ∙ ap (λ bytes. world ended [] bytes ports) b
      ∙ ap (after (world_of m ports) (running_routine m.stack)) (sym e)
