use Rattle.std.proofs.Common.{refl}
use Rattle.std.proofs.lemmas.List.{drop_more, drop_all}
use Rattle.engine.specs.declared.field.Field.TheVariants.{One}
use Rattle.engine.specs.Fields.{field_bytes, fields_bytes}
use Rattle.engine.proofs.Adding.{more, done}
use Rattle.engine.proofs.field.add_all.Goals as goal

pub loop-field-preserved : goal.loop-field-preserved
loop-field-preserved c =
    let fs = c.args.fields.now in
    let i = c.loop-field.field-index in
    let at = drop_more fs i (One 0) c.loop-field-test.true in
    more fields_bytes field_bytes (λ x xs. refl) fs i _ _ _ _ _ at c.loop-field.invariant c.add.ensures

pub returns : goal.returns
returns c =
    let fs = c.args.fields.now in
    let i = c.loop-field.field-index in
    done fields_bytes field_bytes (λ x xs. refl) fs i _ _ _ refl (drop_all i fs c.loop-field-test.false) c.loop-field.invariant
