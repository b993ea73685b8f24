-- A drive is never stuck.
use Rattle.std.proofs.Common.{◌≡◌, true, List, refl, inl, inr}
use Rattle.refusal.specs.declared.Place.{Place}
use Rattle.host.specs.declared.port.Port.{Port}
use Rattle.host.specs.declared.port.HostRefusal.TheVariants.{NoPort, SensePort, OutOfLimits}
use Rattle.faults.specs.declared.cause.Cause.{Cause}
use Rattle.faults.specs.declared.cause.Cause.TheVariants.{ZeroDivisor, MemoryPassed, TooDeep, Host}
use Rattle.faults.specs.Causes.{trip_of}
use Rattle.machine.specs.declared.machine.State.{State}
use Rattle.machine.specs.declared.machine.State.TheVariants.{Running, Ended, Tripped}
use Rattle.machine.specs.Parts.{phase_of}
use Rattle.machine.specs.Fuel.{TickRule}
use Rattle.drive.specs.declared.drive.Drive.{Drive}
use Rattle.drive.specs.Law.{is_listed, NotStuck, Sound}
use Rattle.drive.specs.View.{module_of, world_in}
use Rattle.drive.proofs.Spending.{phase_is}
use Rattle.drive.proofs.Stepping.{never, foretold_in}

-- every cause is listed
causes_listed : (cause : Cause) (place : Place) → is_listed (trip_of cause place) ≡ true
causes_listed ZeroDivisor place = refl
causes_listed (MemoryPassed address) place = refl
causes_listed TooDeep place = refl
causes_listed (Host NoPort port) place = refl
causes_listed (Host SensePort port) place = refl
causes_listed (Host OutOfLimits port) place = refl

-- over any host, whatever was done to it
pub is_sound : (rule : TickRule) (d : Drive) (ports : List Port) → Sound (module_of d) rule (world_in d ports)
is_sound rule d ports = record { not_stuck = by_state d.machine.state (phase_is d ports); foretold = (never d).foretold (world_in d ports) (foretold_in d ports) }
  where
    by_state : (s : State) → (world_in d ports).phase ≡ phase_of s → NotStuck (module_of d) rule (world_in d ports)
    by_state Running at = let n = (never d).goes_on rule (world_in d ports) at (foretold_in d ports) in inl (n.0, n.1)
    by_state Ended at = inr (inl at)
    by_state (Tripped cause place) at = inr (inr (trip_of cause place, at, causes_listed cause place))
