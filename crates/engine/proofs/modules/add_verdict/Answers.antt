use Rattle.std.proofs.Common.{◌≡◌, [], ◌∷◌, Ok, Err, length, ap, sym, ◌∙◌}
use Rattle.refusal.specs.Values.{values_of}
use Rattle.module.specs.declared.opened.Counts.{Counts}
use Rattle.module.specs.Told.{bytes_of, verdict_of}
use Rattle.module.specs.Layout.{counts}
use Rattle.module.specs.Verdict.{checking}
use Rattle.engine.specs.declared.field.Field.TheVariants.{One}
use Rattle.engine.specs.Fields.{fields_bytes}
use Rattle.engine.specs.Whole.{counts_fields, unless_refused}
use Rattle.engine.proofs.Adding.{same, both_as}
use Rattle.engine.proofs.modules.add_verdict.Goals as goal

pub returns-in-Ok-clause-text : goal.returns-in-Ok-clause-text
returns-in-Ok-clause-text c =
    let bs = c.args.bytes.now in
    let verdict : Ok tt ≡ checking bs (length c.args.sheet.now) = ap verdict_of (sym c.in-Ok.is) ∙ c.examine.ensures.verdict in
    let same_bytes : bytes_of c.in-Ok.checked.opened ≡ bs = c.in-Ok.ensures.bytes in
    both_as c.args.text.now.items (0 ∷ []) c.add.new.text.items (fields_bytes (counts_fields c.counts.result)) c.add_counts.new.text.items _ c.add.ensures c.add_counts.ensures
    (ap (λ (k : Counts). fields_bytes (One 0 ∷ counts_fields k)) (c.counts.ensures.counts ∙ ap counts same_bytes)
    ∙ ap (λ v. fields_bytes (unless_refused v (counts_fields (counts bs)))) verdict)

pub returns-in-Err-clause-text : goal.returns-in-Err-clause-text
returns-in-Err-clause-text c =
    let bs = c.args.bytes.now in
    let verdict : Err (values_of c.in-Err.refusal) ≡ checking bs (length c.args.sheet.now) = ap verdict_of (sym c.in-Err.is) ∙ c.examine.ensures.verdict in
    same _ _ _ _ c.add_refusal.ensures (ap (λ v. fields_bytes (unless_refused v (counts_fields (counts bs)))) verdict)
