-- What a routine does by itself, whatever routines wait below it.
use Rattle.std.specs.Prelude.{◌≡◌, ℕ, ◌<◌, List, ◌∷◌, Some, None, Option}
use Rattle.host.specs.declared.port.Port.{Port}
use Rattle.isa.specs.declared.instr.Instr.{Instr}
use Rattle.isa.specs.declared.instr.Instr.TheVariants.{Call, Ret}
use Rattle.faults.specs.Causes.{cause_of}
use Rattle.machine.specs.declared.within.Stop.{Stop}
use Rattle.machine.specs.declared.within.Stop.TheVariants.{Call as Calls, Return as Returns, Trip as Trips}
use Rattle.machine.specs.Level.{Level}
use Rattle.machine.specs.Fuel.{Goes}
use Rattle.machine.specs.World.{world, running, trips, effect, here, step}
use Rattle.machine.specs.Foretold.{AsForetold}

-- The running routine l makes one step, over memory and ports, and is l' then. Those that wait stay, whatever they are; l' is
-- as the check foretold, and the same routine.
pub record Moves (bs : List ℕ) (rule : List Port → List Port) (l : Level) (memory : List ℕ) (ports : List Port) (l' : Level) (memory' : List ℕ) (ports' : List Port) : Type 0 where
  pub steps : (ls : List Level) → step bs rule (world running (l ∷ ls) memory ports) ≡ Some (world running (l' ∷ ls) memory' ports')
  pub foretold : AsForetold bs l'
  pub routine : l'.routine ≡ l.routine

-- why an instruction x makes no step within its routine l: it calls, returns or trips
abbrev pub Why : List ℕ → (List Port → List Port) → Level → List ℕ → List Port → Instr → Stop → Type 0
Why bs rule l memory ports x (Calls a b n) = x ≡ Call a b n
Why bs rule l memory ports x (Returns a) = x ≡ Ret a
Why bs rule l memory ports x (Trips cause) = (ls : List Level) → effect bs rule x l ls memory ports ≡ trips (cause_of cause)

-- a routine stands at the call or the return for which it stops; of a trip it says nothing
abbrev pub StandsAtStop : List ℕ → Level → Stop → Type 0
StandsAtStop bs l (Calls a b n) = here bs l ≡ Some (Call a b n)
StandsAtStop bs l (Returns a) = here bs l ≡ Some (Ret a)
StandsAtStop bs l (Trips cause) = Unit {0}

-- the running routine l stands at an instruction that makes no step within it, over memory and ports, for this reason
pub record Stops (bs : List ℕ) (rule : List Port → List Port) (l : Level) (memory : List ℕ) (ports : List Port) (stop : Stop) : Type 0 where
  pub instr : Instr
  pub stands : here bs l ≡ Some instr
  pub why : Why bs rule l memory ports instr stop

-- The running routine l makes n steps by itself, over memory and ports, and is l' then: whatever routines wait, they stay. And l' is
-- as the check foretold, and the same routine.
pub record MakesOwn (bs : List ℕ) (rule : List Port → List Port) (n : ℕ) (l : Level) (memory : List ℕ) (ports : List Port) (l' : Level) (memory' : List ℕ) (ports' : List Port) : Type 0 where
  pub steps : (ls : List Level) → Goes bs rule n (world running (l ∷ ls) memory ports) (world running (l' ∷ ls) memory' ports')
  pub foretold : AsForetold bs l'
  pub routine : l'.routine ≡ l.routine

-- so much fuel is left where the routine l is: none, or some, and then l makes no step by itself for this reason
abbrev pub StopsWith : List ℕ → (List Port → List Port) → ℕ → Level → List ℕ → List Port → Option Stop → Type 0
StopsWith bs rule left l memory ports None = left ≡ 0
StopsWith bs rule left l memory ports (Some stop) = (0 < left) × Stops bs rule l memory ports stop
