use Rattle.std.proofs.Common.{List, refl, ap}
use Rattle.std.specs.List.{flat_map}
use Rattle.std.proofs.lemmas.List.{drop_more, drop_all}
use Rattle.std.proofs.lemmas.Grind.{flat_map-append}
use Rattle.module.specs.declared.shape.ShapeRow.{ShapeRow}
use Rattle.module.specs.Verdict.{blank}
use Rattle.engine.specs.Fields.{field_bytes, fields_bytes, shape_fields}
use Rattle.engine.proofs.Adding.{more, done, same}
use Rattle.engine.proofs.text.add_shapes.Goals as goal

pub loop-row-preserved : goal.loop-row-preserved
loop-row-preserved c =
    let rows = c.args.rows.now in
    let i = c.loop-row.row-index in
    let at = drop_more rows i blank c.loop-row-test.true in
    more (λ (xs : List ShapeRow). fields_bytes (flat_map shape_fields xs)) (λ x. fields_bytes (shape_fields x))
    (λ x xs. flat_map-append field_bytes (shape_fields x) (flat_map shape_fields xs)) rows i _ _ _ _ _ at c.loop-row.invariant
    (same _ _ _ _ c.add_all.ensures (ap fields_bytes c.shape_fields.ensures))

pub returns : goal.returns
returns c =
    let rows = c.args.rows.now in
    let i = c.loop-row.row-index in
    done (λ (xs : List ShapeRow). fields_bytes (flat_map shape_fields xs)) (λ x. fields_bytes (shape_fields x))
    (λ x xs. flat_map-append field_bytes (shape_fields x) (flat_map shape_fields xs)) rows i _ _ _ refl (drop_all i rows c.loop-row-test.false) c.loop-row.invariant
