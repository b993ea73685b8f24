-- What the steps of a drive stand on.
use Rattle.std.proofs.Common.{◌≡◌, true, List, [], refl}
use Rattle.host.specs.declared.port.Port.{Port}
use Rattle.faults.specs.declared.cause.Cause.{Cause}
use Rattle.refusal.specs.declared.Place.{Place}
use Rattle.module.proofs.Accepts.{accepts_checked}
use Rattle.machine.specs.declared.machine.State.{State}
use Rattle.machine.specs.declared.machine.State.TheVariants.{Running, Ended, Tripped}
use Rattle.machine.specs.Foretold.{NeverStuck, as_foretold}
use Rattle.machine.specs.Parts.{phase_of}
use Rattle.machine.proofs.Runs.{any_ports, as_its_type_says}
use Rattle.machine.proofs.Soundness.{never_stuck}
use Rattle.drive.specs.declared.drive.Drive.{Drive}
use Rattle.drive.specs.Calls.{trips_of}
use Rattle.drive.specs.View.{module_of, world_in}

-- the runs of its module never get stuck
pub never : (d : Drive) → NeverStuck (module_of d)
never d = never_stuck (module_of d) (accepts_checked d.machine.checked)

-- over any ports it is as foretold
pub foretold_in : (d : Drive) (ports : List Port) → as_foretold (module_of d) (world_in d ports) ≡ true
foretold_in d ports = any_ports (module_of d) d.machine [] ports (as_its_type_says d.machine)

-- where no trip stopped the run, nothing is entered
pub no_trip : (state : State) → ((cause : Cause) (place : Place) → state ≡ Tripped cause place → ⊥) → trips_of (phase_of state) ≡ []
no_trip Running h = refl
no_trip Ended h = refl
no_trip (Tripped cause place) h = absurd (h cause place refl)
