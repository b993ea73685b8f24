-- What a call of a drive answers, and what it makes of the drive.
use Rattle.std.specs.Prelude.{ℕ, Bool, cond, ◌&&◌, List, [], ◌∷◌, Some, None, Ok, Err, Option, Result, nat_le}
use Rattle.refusal.specs.Values.{Values, caller}
use Rattle.host.specs.Ports.{rested}
use Rattle.faults.specs.Causes.{Trip}
use Rattle.machine.specs.Foretold.{begun}
use Rattle.machine.specs.World.{Phase, running, ended, tripped, World}
use Rattle.machine.specs.Fuel.{TickRule, by_phase, steps, advanced}
use Rattle.drive.specs.declared.call.Call.{Call}
use Rattle.drive.specs.declared.call.Call.TheVariants.{Grant, Restart, PowerCycle}

-- fuel that may be granted
abbrev pub is_fuel : ℕ → Bool
is_fuel fuel = nat_le 1 fuel && nat_le fuel 10000

-- the refusal of a call in this phase, if it has one
abbrev pub refusal : Call → Phase → Option Values
refusal (Grant fuel) phase = cond (is_fuel fuel) (by_phase phase None (Some (caller 15)) (Some (caller 16))) (Some (caller 14))
refusal Restart phase = by_phase phase (Some (caller 17)) None None
refusal PowerCycle phase = None

-- An entry of a log: a trip, without a mark, or a power cycle.
pub data Entry : Type 0 where
  trip : Trip → Entry
  cycle : Entry

-- the entry of the trip in a phase, if it has one
abbrev pub trips_of : Phase → List Entry
trips_of running = []
trips_of ended = []
trips_of (tripped t) = trip t ∷ []

-- What comes of a call: its answer, that is, how many steps it made and how the drive stands after them, or its refusal; the
-- world after it; and what a log enters.
pub record Outcome : Type 0 where
  pub answer : Result (ℕ × Phase) Values
  pub world : World
  pub entries : List Entry

-- the outcome of a call that made so many steps, left this world, and entered this
abbrev pub accepted : ℕ → World → List Entry → Outcome
accepted made w entries = record { answer = Ok (made, w.phase); world = w; entries = entries }

-- The outcome of a call that is not refused. A grant steps, and enters the trip that stopped it; a restart begins again, and so
-- does a power cycle, which rests the ports too and is entered.
abbrev pub done : List ℕ → TickRule → Call → World → Outcome
done bs rule (Grant fuel) w =
    let made : ℕ = steps bs rule fuel w in
    let later : World = advanced bs rule made w in
    accepted made later (trips_of later.phase)
done bs rule Restart w = accepted 0 (begun bs w.ports) []
done bs rule PowerCycle w = accepted 0 (begun bs (rested w.ports)) (cycle ∷ [])

-- the outcome of a call that may be refused: a refused call changes nothing
abbrev pub unless_refused : Option Values → World → Outcome → Outcome
unless_refused None w outcome = outcome
unless_refused (Some e) w outcome = record { answer = Err e; world = w; entries = [] }

-- what comes of a call to a drive of the module bs, with this world, over a host with this tick rule
abbrev pub outcome : List ℕ → TickRule → Call → World → Outcome
outcome bs rule call w = unless_refused (refusal call w.phase) w (done bs rule call w)
