-- The lamp: its three ports, and its tick rule.
use Rattle.std.specs.Prelude.{ℕ, ◌+◌, ◌-◌, ◌%◌, ◌^◌, cond, nat_eq, List, [], ◌∷◌, Some, None}
use Rattle.std.proofs.Common.{lit≤}
use Rattle.host.specs.declared.port.Flag.TheVariants.{Order, Sense}
use Rattle.host.specs.declared.port.Port.{Port}
use Rattle.host.specs.Ports.{value_at}
use Rattle.host.specs.Lawful.{LawfulHost, stays, shows}
use Rattle.drive_cases.specs.declared.lamp.LampHost.{LampHost}
use Rattle.drive_cases.specs.declared.lamp.LampPort.{LampPort}
use Rattle.drive_cases.specs.declared.lamp.LampPort.TheVariants.{Ordered, Light, Changes}

-- the numbers of its ports
abbrev pub port_number : LampPort → ℕ
port_number Ordered = 0
port_number Light = 1
port_number Changes = 2

-- the ports of a lamp with this ordered light, this light and so many changes
abbrev pub ports_with : ℕ → ℕ → ℕ → List Port
ports_with ordered light changes =
    record { value = ordered; low = 0; high = 100; flag = Order; rest = Some 0 }
    ∷ record { value = light; low = 0; high = 2 ^ 32 - 1; flag = Sense; rest = None }
    ∷ record { value = changes; low = 0; high = 2 ^ 32 - 1; flag = Sense; rest = None }
    ∷ []

abbrev pub lamp_ports : LampHost → List Port
lamp_ports lamp = ports_with lamp.ordered lamp.light lamp.changes

-- the tick rule: the light is the ordered one, and there is one change more if it was another
abbrev pub lamp_rule : List Port → List Port
lamp_rule ports =
    let ordered : ℕ = value_at ports 0 in
    let changes : ℕ = value_at ports 2 in
    ports_with ordered ordered (cond (nat_eq (value_at ports 1) ordered) changes ((changes + 1) % 2 ^ 32))

pub lamp_lawful : LawfulHost {Base = Unit {0}} (λ _. tt) lamp_ports (λ _. lamp_rule)
lamp_lawful = record { few = λ _. lit≤ tt; senses = λ _ _. (stays, (shows, (shows, tt))) }
