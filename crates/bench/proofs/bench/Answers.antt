use Rattle.std.proofs.Common.{◌≡◌, ℕ, List, [], ◌∷◌, length, IfOk, string_bytes, subst, ◌∙◌}
use Rattle.host.specs.declared.port.Port.{Port}
use Rattle.host.specs.Axis.{axis_rule, new_axis}
use Rattle.drive.specs.declared.call.Call.TheVariants.{Grant}
use Rattle.bench.specs.Measured.{module_text}
use Rattle.bench.proofs.Decided.{decided}
use Rattle.bench.proofs.bench.Goals as goal

pub returns-clause-text : goal.returns-clause-text
returns-clause-text c =
    let bs = c.args.bytes.now in
    let rows : length c.as_mut_slice.result.now ≡ 4096 = c.as_mut_slice.ensures.len ∙ c.in_ok-sheet.ensures.len in
    subst (λ (n : ℕ). IfOk c.report.result (λ s. string_bytes s ≡ module_text bs n axis_rule new_axis (Grant 10000 ∷ []))) rows
    (subst (λ (ports : List Port). IfOk c.report.result (λ s. string_bytes s ≡ module_text bs (length c.as_mut_slice.result.now) axis_rule ports (Grant 10000 ∷ []))) c.new-axis.ensures.ports c.report.ensures)

pub returns-clause-decided : goal.returns-clause-decided
returns-clause-decided c = decided c.args.bytes.now

pub returns-in_err-sheet-clause-decided : goal.returns-in_err-sheet-clause-decided
returns-in_err-sheet-clause-decided c = decided c.args.bytes.now
