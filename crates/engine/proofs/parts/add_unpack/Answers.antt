use Rattle.std.proofs.Common.{◌≡◌, List, ℕ, [], ◌∷◌, Ok, Err, ap, sym, ◌∙◌}
use Rattle.refusal.specs.Values.{values_of}
use Rattle.module.specs.Told.{bytes_of, verdict_of}
use Rattle.module.specs.Verdict.{checking}
use Rattle.engine.specs.declared.field.Field.TheVariants.{One}
use Rattle.engine.specs.Fields.{fields_bytes}
use Rattle.engine.specs.Parts.{taken_apart_fields}
use Rattle.engine.specs.Whole.{unless_refused}
use Rattle.engine.proofs.Adding.{same, both_as}
use Rattle.engine.proofs.parts.add_unpack.Goals as goal

pub returns-in-Ok : goal.returns-in-Ok
returns-in-Ok c =
    let bs = c.args.bytes.now in
    let es = c.args.entries.now in
    let rs = c.args.rows.now in
    let verdict : Ok tt ≡ checking bs 4096 = ap verdict_of (sym c.in-Ok.is) ∙ c.examine.ensures.verdict in
    let same_bytes : bytes_of c.in-Ok.checked.opened ≡ bs = c.in-Ok.ensures.bytes in
    both_as c.args.text.now.items (0 ∷ []) c.add.new.text.items (fields_bytes (taken_apart_fields (bytes_of c.in-Ok.checked.opened) es rs)) c.add_taken_apart.new.text.items _ c.add.ensures c.add_taken_apart.ensures
    (ap (λ (b : List ℕ). fields_bytes (One 0 ∷ taken_apart_fields b es rs)) same_bytes
    ∙ ap (λ v. fields_bytes (unless_refused v (taken_apart_fields bs es rs))) verdict)

pub returns-in-Err : goal.returns-in-Err
returns-in-Err c =
    let bs = c.args.bytes.now in
    let es = c.args.entries.now in
    let rs = c.args.rows.now in
    let verdict : Err (values_of c.in-Err.refusal) ≡ checking bs 4096 = ap verdict_of (sym c.in-Err.is) ∙ c.examine.ensures.verdict in
    same _ _ _ _ c.add_refusal.ensures (ap (λ v. fields_bytes (unless_refused v (taken_apart_fields bs es rs))) verdict)
