-- The log of a drive: made only from the module, the host's first ports and tick rule, and the calls.
use Rattle.std.specs.Prelude.{ℕ, List, [], ◌∷◌, ◌++◌, map, Result}
use Rattle.refusal.specs.Values.{Values}
use Rattle.host.specs.declared.port.Port.{Port}
use Rattle.faults.specs.Causes.{Trip}
use Rattle.faults.specs.Faults.{FaultValues, with_mark, unmarked}
use Rattle.faults.specs.Lists.{newest}
use Rattle.machine.specs.Foretold.{begun}
use Rattle.machine.specs.World.{Phase, World}
use Rattle.machine.specs.Fuel.{TickRule}
use Rattle.drive.specs.declared.call.Call.{Call}
use Rattle.drive.specs.Calls.{Entry, trip, cycle, outcome}

-- A log: the world of a drive, and all that was entered.
pub record Log : Type 0 where
  pub world : World
  pub entries : List Entry

-- the log of this world and these entries
abbrev pub log : World → List Entry → Log
log world entries = record { world = world; entries = entries }

-- the log of a new drive, over a host with these ports
abbrev pub new_log : List ℕ → List Port → Log
new_log bs ports = log (begun bs ports) []

-- the log after a call: the entries stay, and what the call enters comes after them
abbrev pub after_call : List ℕ → TickRule → Call → Log → Log
after_call bs rule call l = log (outcome bs rule call l.world).world (l.entries ++ (outcome bs rule call l.world).entries)

-- the log after calls, one after the other
abbrev pub log_after : List ℕ → TickRule → List Call → Log → Log
log_after bs rule [] l = l
log_after bs rule (call ∷ calls) l = log_after bs rule calls (after_call bs rule call l)

-- the answers to these calls
abbrev pub answers : List ℕ → TickRule → List Call → Log → List (Result (ℕ × Phase) Values)
answers bs rule [] l = []
answers bs rule (call ∷ calls) l = (outcome bs rule call l.world).answer ∷ answers bs rule calls (after_call bs rule call l)

-- The recent trips of a log: those between the last power cycle but one and the last, and those since the last. After one cycle
-- the first are all those before it, and while there was none there are no first ones.
pub record Recent : Type 0 where
  pub before : List Trip
  pub since : List Trip

-- the two together
abbrev pub recent : List Trip → List Trip → Recent
recent before since = record { before = before; since = since }

-- these trips with one more entry: a trip comes last, and at a cycle those since the last one become those before it
abbrev pub with_entry : Recent → Entry → Recent
with_entry r (trip t) = recent r.before (r.since ++ (t ∷ []))
with_entry r cycle = recent r.since []

-- and with more of them, one after the other
abbrev pub with_entries : Recent → List Entry → Recent
with_entries r [] = r
with_entries r (entry ∷ entries) = with_entries (with_entry r entry) entries

-- the fault list of a log, by its entries: the newest sixteen of its recent trips, those from before the last cycle marked
abbrev pub fault_list : List Entry → List FaultValues
fault_list entries =
    let r : Recent = with_entries (recent [] []) entries in
    newest (map (λ t. with_mark t 1) r.before ++ map unmarked r.since)
