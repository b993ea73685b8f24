use Rattle.std.proofs.Common.{◌≡◌, ◌++◌, string_bytes, drop}
use Rattle.drive.specs.View.{faults_in}
use Rattle.bench.specs.Text.{fault_lines}
use Rattle.bench.proofs.lines.add_faults.Given as goal

-- with the lines of the faults that are left, the text is whole
abbrev pub invariant-loop-i : goal.invariant-loop-i
invariant-loop-i l =
    let faults = faults_in l.initial.drive in
    string_bytes l.text ++ fault_lines (drop l.i faults) ≡ string_bytes l.initial.text ++ fault_lines faults
