use Rattle.std.proofs.Common.{◌≡◌, ◌+◌, ◌++◌, string_bytes, drop, sym, ap, ◌∙◌, append_assoc}
use Rattle.std.proofs.lemmas.List.{append-nil}
use Rattle.faults.specs.Faults.{values_of}
use Rattle.drive.specs.View.{faults_in}
use Rattle.bench.specs.Text.{line, fault_text, fault_lines}
use Rattle.bench.proofs.Printed.{next_read, none_read}
use Rattle.bench.proofs.lines.add_faults.Goals as goal

pub loop-i-preserved : goal.loop-i-preserved
loop-i-preserved c =
    let faults = faults_in c.args.drive.now in
    let next = next_read faults c.loop-i.i (values_of c.in-Ok.fault) c.in-Ok.ensures in
    let lines = line (fault_text (values_of c.in-Ok.fault)) in
    let left = fault_lines (drop (c.loop-i.i + 1) faults) in
    let more : string_bytes c.writeln.new.self ≡ string_bytes c.loop-i.text ++ lines = c.in_ok-writeln.ensures.bytes in
    ap (λ bs. bs ++ left) more ∙ append_assoc (string_bytes c.loop-i.text) lines left ∙ ap (λ fs. string_bytes c.loop-i.text ++ fault_lines fs) (sym next) ∙ c.loop-i.invariant

pub returns-in_default : goal.returns-in_default
returns-in_default c =
    let none = none_read (faults_in c.args.drive.now) c.loop-i.i _ c.in_default.ensures in
    sym (append-nil (string_bytes c.loop-i.text)) ∙ ap (λ fs. string_bytes c.loop-i.text ++ fault_lines fs) (sym none) ∙ c.loop-i.invariant
