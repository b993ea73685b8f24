use Rattle.std.proofs.Common.{List, ◌++◌, length, map, ap}
use Rattle.std.specs.List.{flat_map}
use Rattle.isa.specs.declared.row.Row.{Row}
use Rattle.module.specs.declared.entry.Entry.{Entry}
use Rattle.module.specs.Contents.{image}
use Rattle.module.specs.Told.{bytes_of}
use Rattle.packing.specs.Unpack.{unpacking, entries_after, rows_after}
use Rattle.engine.specs.declared.field.Field.TheVariants.{One}
use Rattle.engine.specs.Fields.{fields_bytes, entry_fields, instruction_fields}
use Rattle.engine.specs.Parts.{sizes_fields}
use Rattle.engine.proofs.Adding.{same, both_fields}
use Rattle.engine.proofs.parts.add_taken_apart.Goals as goal

pub returns : goal.returns
returns c =
    let bs = bytes_of c.args.checked.now.opened in
    let es = c.args.entries.now in
    let rs = c.args.rows.now in
    let a = c.args.text.now.items in
    let b = c.add_sizes.new.text.items in
    let d = c.add_entries.new.text.items in
    let e = c.add_instructions.new.text.items in
    let f = c.add_plain.new.text.items in
    let sizes = sizes_fields (unpacking bs (length es) (length rs)) in
    let entries = flat_map entry_fields (entries_after bs es rs) in
    let rows = flat_map instruction_fields (rows_after bs es rs) in
    let end = map One (image bs) in
    let one = same a _ (fields_bytes sizes) b c.add_sizes.ensures (ap (λ answer. fields_bytes (sizes_fields answer)) c.unpack-answer.ensures.verdict) in
    let two = same b _ (fields_bytes entries) d c.add_entries.ensures (ap (λ (es : List Entry). fields_bytes (flat_map entry_fields es)) c.unpack-answer.ensures.entries) in
    let three = same d _ (fields_bytes rows) e c.add_instructions.ensures (ap (λ (rs : List Row). fields_bytes (flat_map instruction_fields rs)) c.unpack-answer.ensures.rows) in
    let four = same e _ (fields_bytes end) f c.add_plain.ensures (ap (λ im. fields_bytes (map One im)) c.image.ensures) in
    both_fields a b f sizes (entries ++ (rows ++ end)) one
    (both_fields b d f entries (rows ++ end) two (both_fields d e f rows end three four))
