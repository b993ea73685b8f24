-- A machine as the rules see it.
use Rattle.std.specs.Prelude.{◌≡◌, ℕ, true, Some, List}
use Rattle.isa.specs.declared.instr.Instr.{Instr}
use Rattle.host.specs.declared.port.Port.{Port}
use Rattle.module.specs.declared.body.Body.{Body}
use Rattle.module.specs.Told.{bytes_of, bytes_behind, routine_of}
use Rattle.machine.specs.declared.machine.Machine.{Machine}
use Rattle.machine.specs.declared.machine.State.TheVariants.{Running}
use Rattle.machine.specs.Nested.{running_routine, waiting}
use Rattle.machine.specs.Parts.{world_from}
use Rattle.machine.specs.World.{Move, World, after, effect, here, able}

-- the bytes of the module on which it runs
abbrev pub module_of : Machine → List ℕ
module_of m = bytes_of m.checked.opened

-- the world of a machine, with the ports of its host
unfoldable pub world_of : Machine → List Port → World
world_of m ports = world_from m.state m.stack m.memory ports

-- a running machine that stands at the instruction x of a module, which has a rule there
pub record Stands (bs : List ℕ) (x : Instr) (m : Machine) : Type 0 where
  pub running : m.state ≡ Running
  pub stands : here bs (running_routine m.stack) ≡ Some x
  pub able : able bs (running_routine m.stack) (waiting m.stack) ≡ true

-- the machine m runs on the module bs, and t is the body of its running routine
pub record RunsBody (bs : List ℕ) (m : Machine) (t : Body) : Type 0 where
  pub running : m.state ≡ Running
  pub bytes : bytes_behind t ≡ bs
  pub upon : module_of m ≡ bs
  pub routine : routine_of t ≡ (running_routine m.stack).routine

-- what an instruction x of a module comes to in the machine m, over these ports
abbrev pub effect_in : List ℕ → (List Port → List Port) → Instr → Machine → List Port → Move
effect_in bs rule x m ports = effect bs rule x (running_routine m.stack) (waiting m.stack) m.memory.bytes ports

-- The machine m performed the instruction x of a module, over a host with this tick rule and the ports ps: it is n then, and the
-- ports are qs, as the effect of x says.
pub record Performed (bs : List ℕ) (rule : List Port → List Port) (x : Instr) (m : Machine) (ps : List Port) (n : Machine) (qs : List Port) : Type 0 where
  pub leaves : world_of n qs ≡ after (world_of m ps) (running_routine m.stack) (effect_in bs rule x m ps)

-- the same over every host, whose ports stay
abbrev pub PerformedOverAnyHost : List ℕ → Instr → Machine → Machine → Type 0
PerformedOverAnyHost bs x m n = (rule : List Port → List Port) (ports : List Port) → Performed bs rule x m ports n ports
