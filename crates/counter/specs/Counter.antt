-- The counter: its two ports, and its tick rule.
use Rattle.std.specs.Prelude.{ℕ, ◌+◌, ◌-◌, ◌*◌, ◌%◌, ◌^◌, List, [], ◌∷◌, Some, None}
use Rattle.std.proofs.Common.{lit≤}
use Rattle.host.specs.declared.port.Flag.TheVariants.{Order, Sense}
use Rattle.host.specs.declared.port.Port.{Port}
use Rattle.host.specs.Ports.{value_at}
use Rattle.host.specs.Lawful.{LawfulHost, stays, shows}
use Rattle.counter.specs.declared.CounterHost.{CounterHost}
use Rattle.counter.specs.declared.CounterPort.{CounterPort}
use Rattle.counter.specs.declared.CounterPort.TheVariants.{Pace, Count}

-- the numbers of its ports
abbrev pub port_number : CounterPort → ℕ
port_number Pace = 0
port_number Count = 1

-- the ports of a counter with this pace and this count
abbrev pub ports_with : ℕ → ℕ → List Port
ports_with pace count =
    record { value = pace; low = 0; high = 100; flag = Order; rest = Some 1 }
    ∷ record { value = count; low = 0; high = 2 ^ 32 - 1; flag = Sense; rest = None }
    ∷ []

abbrev pub counter_ports : CounterHost → List Port
counter_ports counter = ports_with counter.pace counter.count

-- what no call changes: how many parcels a carton holds
abbrev pub counter_base : CounterHost → ℕ
counter_base counter = counter.parcels

-- the tick rule, where a carton holds so many parcels: the count gains the parcels that passed, modulo 2 ^ 32
abbrev pub counter_rule : ℕ → List Port → List Port
counter_rule parcels ports =
    let pace : ℕ = value_at ports 0 in
    ports_with pace ((value_at ports 1 + pace * parcels) % 2 ^ 32)

-- the law: after a tick the first port stays, and the second shows another value
pub counter_lawful : LawfulHost counter_base counter_ports counter_rule
counter_lawful = record { few = λ _. lit≤ tt; senses = λ _ _. (stays, (shows, tt)) }
