use Rattle.std.proofs.Common.{sym, ap, ◌∙◌}
use Rattle.machine.specs.Parts.{phase_of}
use Rattle.drive.specs.Calls.{trips_of}
use Rattle.drive.specs.View.{faults_in, noted_all}
use Rattle.drive.proofs.Stepping.{no_trip}
use Rattle.drive.proofs.drive.Drive.note_trip.Goals as goal

pub returns-in-Tripped-clause-faults : goal.returns-in-Tripped-clause-faults
returns-in-Tripped-clause-faults c =
    c.add.ensures ∙ ap (λ state. noted_all (faults_in c.args.self.now) (trips_of (phase_of state))) (sym c.in-Tripped.is)

pub returns-in_default-clause-faults : goal.returns-in_default-clause-faults
returns-in_default-clause-faults c =
    let d = c.args.self.now in
    ap (noted_all (faults_in d)) (sym (no_trip d.machine.state c.in_default.not-Tripped))
