use Rattle.std.proofs.Common.{sym, ap, ◌∙◌}
use Rattle.machine.specs.declared.machine.Machine.{Machine}
use Rattle.machine.specs.Parts.{phase_of}
use Rattle.machine.specs.View.{world_of}
use Rattle.drive.specs.Calls.{trips_of}
use Rattle.drive.specs.View.{faults_in, noted_all}
use Rattle.drive.proofs.drive.Drive.spend.Goals as goal

pub returns-clause-faults : goal.returns-clause-faults
unfolding world_of
returns-clause-faults g c =
    c.note_trip.ensures.faults ∙ ap (λ (m : Machine). noted_all (faults_in c.args.self.now) (trips_of (phase_of m.state))) (sym c.note_trip.ensures.machine)
