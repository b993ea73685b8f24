use Rattle.std.proofs.Common.{List, ℕ, length, map, ap}
use Rattle.packing.specs.Pack.{packing, output_after}
use Rattle.engine.specs.declared.field.Field.TheVariants.{One}
use Rattle.engine.specs.Fields.{fields_bytes}
use Rattle.engine.specs.Parts.{length_fields}
use Rattle.engine.proofs.Adding.{same, both_fields}
use Rattle.engine.proofs.parts.add_pack.Goals as goal

pub returns : goal.returns
returns c =
    let es = c.args.parts.entries.now in
    let rs = c.args.parts.rows.now in
    let im = c.args.parts.image.now in
    let out = c.args.output.now in
    let a = c.args.text.now.items in
    let b = c.add_length.new.text.items in
    let d = c.add_plain.new.text.items in
    let answer = length_fields (packing es rs im (length out)) in
    let after = map One (output_after es rs im out) in
    both_fields a b d answer after
    (same a _ (fields_bytes answer) b c.add_length.ensures (ap (λ answer. fields_bytes (length_fields answer)) c.pack-answer.ensures.verdict))
    (same b _ (fields_bytes after) d c.add_plain.ensures (ap (λ (out : List ℕ). fields_bytes (map One out)) c.pack-answer.ensures.output))
