-- The phase of a drive.
use Rattle.std.proofs.Common.{◌≡◌, List, refl}
use Rattle.host.specs.declared.port.Port.{Port}
use Rattle.machine.specs.Parts.{phase_of}
use Rattle.machine.specs.View.{world_of}
use Rattle.drive.specs.declared.drive.Drive.{Drive}
use Rattle.drive.specs.View.{world_in}

-- the world has the phase of the drive's state
pub phase_is : (d : Drive) (ports : List Port) → (world_in d ports).phase ≡ phase_of d.machine.state
unfolding world_of
phase_is d ports = refl
