use Rattle.std.proofs.Common.{List, length, ap}
use Rattle.std.specs.List.{flat_map}
use Rattle.module.specs.declared.shape.ShapeRow.{ShapeRow}
use Rattle.module.specs.Verdict.{sheet_after}
use Rattle.engine.specs.Fields.{fields_bytes, shape_fields}
use Rattle.engine.specs.Whole.{verdict_fields}
use Rattle.engine.proofs.Adding.{same, both_fields}
use Rattle.engine.proofs.modules.add_check.Goals as goal

pub returns : goal.returns
returns c =
    let bs = c.args.bytes.now in
    let sheet = c.args.sheet.now in
    let answer = verdict_fields bs (length sheet) in
    let rows = flat_map shape_fields (sheet_after bs sheet) in
    both_fields c.args.text.now.items c.add_verdict.new.text.items c.add_shapes.new.text.items answer rows c.add_verdict.ensures.text
    (same _ _ (fields_bytes rows) _ c.add_shapes.ensures (ap (λ (s : List ShapeRow). fields_bytes (flat_map shape_fields s)) c.add_verdict.ensures.sheet))
