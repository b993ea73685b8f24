use Rattle.std.proofs.Common.{◌≡◌, List, ℕ, [], ◌∷◌, Ok, Err, map, ap, sym, ◌∙◌}
use Rattle.refusal.specs.Values.{values_of}
use Rattle.host.specs.declared.port.Port.{Port}
use Rattle.host.specs.Axis.{axis_rule, axis_ports, new_axis}
use Rattle.module.specs.Told.{bytes_of, verdict_of}
use Rattle.module.specs.Verdict.{checking}
use Rattle.drive.specs.View.{call_of}
use Rattle.engine.specs.declared.field.Field.TheVariants.{One}
use Rattle.engine.specs.Fields.{fields_bytes}
use Rattle.engine.specs.Whole.{run_fields, unless_refused}
use Rattle.engine.proofs.Adding.{same, both_as}
use Rattle.engine.proofs.modules.add_axis_run.Goals as goal

pub returns-in-Ok : goal.returns-in-Ok
returns-in-Ok c =
    let bs = c.args.bytes.now in
    let calls = map call_of c.args.turns.now in
    let verdict : Ok tt ≡ checking bs 4096 = ap verdict_of (sym c.in-Ok.is) ∙ c.examine.ensures.verdict in
    let same_bytes : bytes_of c.in-Ok.checked.opened ≡ bs = c.in-Ok.ensures.bytes in
    both_as c.args.text.now.items (0 ∷ []) c.add.new.text.items (fields_bytes (run_fields (bytes_of c.in-Ok.checked.opened) axis_rule (axis_ports c.new.result) calls)) c.add_run.new.text.items _ c.add.ensures c.add_run.ensures.text
    (ap (λ (b : List ℕ). fields_bytes (One 0 ∷ run_fields b axis_rule (axis_ports c.new.result) calls)) same_bytes
    ∙ ap (λ (ps : List Port). fields_bytes (One 0 ∷ run_fields bs axis_rule ps calls)) c.new.ensures.ports
    ∙ ap (λ v. fields_bytes (unless_refused v (run_fields bs axis_rule new_axis calls))) verdict)

pub returns-in-Err : goal.returns-in-Err
returns-in-Err c =
    let bs = c.args.bytes.now in
    let calls = map call_of c.args.turns.now in
    let verdict : Err (values_of c.in-Err.refusal) ≡ checking bs 4096 = ap verdict_of (sym c.in-Err.is) ∙ c.examine.ensures.verdict in
    same _ _ _ _ c.add_refusal.ensures (ap (λ v. fields_bytes (unless_refused v (run_fields bs axis_rule new_axis calls))) verdict)
