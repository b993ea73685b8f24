use Rattle.std.proofs.Common.{drop}
use Rattle.std.specs.List.{flat_map}
use Rattle.drive.specs.View.{faults_in}
use Rattle.engine.specs.Fields.{fields_bytes, fault_fields}
use Rattle.engine.proofs.Adding.{Left}
use Rattle.engine.proofs.drives.add_faults.Given as goal

abbrev pub invariant-loop-i : goal.invariant-loop-i
invariant-loop-i l =
    let faults = faults_in l.initial.drive in
    Left l.initial.text.items (fields_bytes (flat_map fault_fields faults)) l.text.items (fields_bytes (flat_map fault_fields (drop l.i faults)))
