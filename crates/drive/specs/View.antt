-- A drive as the rules see it, and answers by their values.
use Rattle.std.specs.Prelude.{◌≡◌, ℕ, List, [], ◌∷◌, ◌++◌, Option, Result}
use Rattle.std.specs.Option.{option_map}
use Rattle.std.specs.Result.{result_map_both}
use Rattle.refusal.specs.Values.{Values, values_of}
use Rattle.refusal.specs.declared.Refusal.{Refusal}
use Rattle.host.specs.declared.port.Port.{Port}
use Rattle.faults.specs.Faults.{FaultValues, unmarked}
use Rattle.faults.specs.Lists.{newest, cycled}
use Rattle.faults.specs.Shown.{faults_of}
use Rattle.machine.specs.declared.machine.State.{State}
use Rattle.machine.specs.Parts.{phase_of}
use Rattle.machine.specs.View.{module_of as module_under, world_of}
use Rattle.machine.specs.World.{Phase, World}
use Rattle.machine.specs.Fuel.{TickRule}
use Rattle.drive.specs.Calls.{Entry, trip, cycle, outcome}
use Rattle.drive.specs.declared.call.Call.{Call}
use Rattle.drive.specs.declared.call.Turn.{Turn}
use Rattle.drive.specs.declared.drive.Drive.{Drive}

-- the bytes of its module
abbrev pub module_of : Drive → List ℕ
module_of d = module_under d.machine

-- its world: that of its machine, with the ports of its host
abbrev pub world_in : Drive → List Port → World
world_in d ports = world_of d.machine ports

-- its faults, the oldest first
abbrev pub faults_in : Drive → List FaultValues
faults_in d = faults_of d.faults

-- an answer, with the state and the refusal by their numbers
abbrev pub by_values : Result (ℕ × State) Refusal → Result (ℕ × Phase) Values
by_values answer = result_map_both (λ a. (a.0, phase_of a.1)) values_of answer

-- what was answered to a call: nothing yet, or an answer
abbrev pub Said : Type 0
Said = Option (Result (ℕ × Phase) Values)

-- the call of a turn
abbrev pub call_of : Turn → Call
call_of turn = turn.call

-- what was answered to it
abbrev pub said_of : Turn → Said
said_of turn = option_map by_values turn.answer

-- what an entry makes of a fault list
abbrev pub noted : List FaultValues → Entry → List FaultValues
noted faults (trip t) = newest (faults ++ (unmarked t ∷ []))
noted faults cycle = cycled faults

-- what entries make of it, one after the other
abbrev pub noted_all : List FaultValues → List Entry → List FaultValues
noted_all faults [] = faults
noted_all faults (entry ∷ entries) = noted_all (noted faults entry) entries

-- A call to the drive d, over a host with the ports ps and this tick rule, was answered so, and left the drive e and the ports qs.
pub record Called (rule : TickRule) (call : Call) (d : Drive) (ps : List Port) (said : Result (ℕ × Phase) Values) (e : Drive) (qs : List Port) : Type 0 where
  pub answer : said ≡ (outcome (module_of d) rule call (world_in d ps)).answer
  pub world : world_in e qs ≡ (outcome (module_of d) rule call (world_in d ps)).world
  pub faults : faults_in e ≡ noted_all (faults_in d) (outcome (module_of d) rule call (world_in d ps)).entries
  pub bytes : module_of e ≡ module_of d
