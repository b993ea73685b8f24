-- The axis host: its four ports, and its rule of motion.
use Rattle.std.specs.Prelude.{◌≡◌, ℕ, ◌+◌, ◌-◌, ◌%◌, ◌^◌, min, cond, List, [], ◌∷◌, Some, None, nat_le}
use Rattle.std.proofs.Common.{lit≤}
use Rattle.host.specs.declared.port.Flag.TheVariants.{Order, Sense}
use Rattle.host.specs.declared.port.Port.{Port}
use Rattle.host.specs.declared.axis.AxisHost.{AxisHost}
use Rattle.host.specs.declared.axis.AxisPort.{AxisPort}
use Rattle.host.specs.declared.axis.AxisPort.TheVariants.{Ordered, Ramp, Speed, Position}
use Rattle.host.specs.Ports.{value_at, written}
use Rattle.host.specs.Response.{ticked}
use Rattle.host.specs.Lawful.{LawfulHost, stays, shows}

-- the numbers of its ports
abbrev pub port_number : AxisPort → ℕ
port_number Ordered = 0
port_number Ramp = 1
port_number Speed = 2
port_number Position = 3

-- the ports of an axis with these values: ordered speed, ramp, speed and position
abbrev pub ports_with : ℕ → ℕ → ℕ → ℕ → List Port
ports_with ordered ramp speed position =
    record { value = ordered; low = 0; high = 3000; flag = Order; rest = Some 0 }
    ∷ record { value = ramp; low = 1; high = 500; flag = Order; rest = Some 50 }
    ∷ record { value = speed; low = 0; high = 2 ^ 32 - 1; flag = Sense; rest = None }
    ∷ record { value = position; low = 0; high = 2 ^ 32 - 1; flag = Sense; rest = None }
    ∷ []

-- the ports of a new axis: ordered speed 0, ramp 50, speed 0, position 0
abbrev pub new_axis : List Port
new_axis = ports_with 0 50 0 0

abbrev pub axis_ports : AxisHost → List Port
axis_ports axis = ports_with axis.ordered axis.ramp axis.speed axis.position

-- a speed moves towards the ordered speed by the ramp, or by the whole difference if that is smaller
abbrev pub towards : ℕ → ℕ → ℕ → ℕ
towards ordered ramp speed =
    cond (nat_le speed ordered) (speed + min ramp (ordered - speed)) (speed - min ramp (speed - ordered))

-- the tick rule: the speed moves, then the position gains the new speed, modulo 2 ^ 32
abbrev pub axis_rule : List Port → List Port
axis_rule ports =
    let speed : ℕ = towards (value_at ports 0) (value_at ports 1) (value_at ports 2) in
    ports_with (value_at ports 0) (value_at ports 1) speed ((value_at ports 3 + speed) % 2 ^ 32)

-- an axis with these ports that is ordered to 120 at a ramp of 50: its ports after one, two and three ticks
pub record OrderedTo120 (ports : List Port) : Type 0 where
  pub one : ticked 1 axis_rule (written ports 0 120) ≡ ports_with 120 50 50 50
  pub two : ticked 2 axis_rule (written ports 0 120) ≡ ports_with 120 50 100 150
  pub three : ticked 3 axis_rule (written ports 0 120) ≡ ports_with 120 50 120 270

pub axis_lawful : LawfulHost {Base = Unit {0}} (λ _. tt) axis_ports (λ _. axis_rule)
axis_lawful = record { few = λ _. lit≤ tt; senses = λ _ _. (stays, (stays, (shows, (shows, tt)))) }
