-- The steps and the grants of the worked cases.
use Rattle.std.specs.Prelude.{◌≡◌, ℕ, true, List, [], ◌∷◌, Some, Ok, Result}
use Rattle.refusal.specs.Values.{Values}
use Rattle.isa.specs.declared.instr.Instr.{Instr}
use Rattle.host.specs.declared.port.Port.{Port}
use Rattle.host.specs.Axis.{new_axis, axis_rule}
use Rattle.faults.specs.Causes.{Trip}
use Rattle.faults.specs.Faults.{FaultValues}
use Rattle.machine.specs.Level.{Level}
use Rattle.machine.specs.World.{Phase, here, able}
use Rattle.drive.specs.declared.call.Call.TheVariants.{Grant}
use Rattle.drive.specs.Log.{Log, new_log, log_after, answers, fault_list}

-- the routine l stands at the instruction x of a module, and has a step there while the routines ls wait
pub record StandsAt (bs : List ℕ) (x : Instr) (l : Level) (ls : List Level) : Type 0 where
  pub stands : here bs l ≡ Some x
  pub able : able bs l ls ≡ true

-- the trip for memory passed at an address, at this instruction of this routine: cause 2 of layer 2, the engine, with the
-- address as its detail
abbrev pub passed_at : ℕ → ℕ → ℕ → Trip
passed_at routine instruction address = record { cause = 2; layer = 2; routine = routine; instruction = instruction; detail = address }

-- what the log of a new drive of a module over a new axis answers to a grant of so much fuel
abbrev pub granted : List ℕ → ℕ → List (Result (ℕ × Phase) Values)
granted bs fuel = answers bs axis_rule (Grant fuel ∷ []) (new_log bs new_axis)

-- and what the log is then
abbrev pub log_granted : List ℕ → ℕ → Log
log_granted bs fuel = log_after bs axis_rule (Grant fuel ∷ []) (new_log bs new_axis)

-- such a grant is answered so, and leaves these ports and faults
pub record Grants (bs : List ℕ) (fuel : ℕ) (said : ℕ × Phase) (left : List Port) (list : List FaultValues) : Type 0 where
  pub answer : granted bs fuel ≡ Ok said ∷ []
  pub ports : (log_granted bs fuel).world.ports ≡ left
  pub faults : fault_list (log_granted bs fuel).entries ≡ list

-- the trip for an order of port 0 outside its limits, at instruction 2 of routine 0: cause 6 of layer 3, the host
abbrev pub refused_at_2 : Trip
refused_at_2 = record { cause = 6; layer = 3; routine = 0; instruction = 2; detail = 0 }
