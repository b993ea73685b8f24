use Rattle.std.proofs.Common.{List, refl, ap}
use Rattle.std.specs.List.{flat_map}
use Rattle.std.proofs.lemmas.List.{drop_more, drop_all}
use Rattle.std.proofs.lemmas.Grind.{flat_map-append}
use Rattle.module.specs.declared.entry.Entry.{Entry}
use Rattle.packing.specs.Packed.{no_entry}
use Rattle.engine.specs.Fields.{field_bytes, fields_bytes, entry_fields}
use Rattle.engine.proofs.Adding.{more, done, same}
use Rattle.engine.proofs.text.add_entries.Goals as goal

pub loop-entry-preserved : goal.loop-entry-preserved
loop-entry-preserved c =
    let entries = c.args.entries.now in
    let i = c.loop-entry.entry-index in
    let at = drop_more entries i no_entry c.loop-entry-test.true in
    more (λ (xs : List Entry). fields_bytes (flat_map entry_fields xs)) (λ x. fields_bytes (entry_fields x))
    (λ x xs. flat_map-append field_bytes (entry_fields x) (flat_map entry_fields xs)) entries i _ _ _ _ _ at c.loop-entry.invariant
    (same _ _ _ _ c.add_all.ensures (ap fields_bytes c.entry_fields.ensures))

pub returns : goal.returns
returns c =
    let entries = c.args.entries.now in
    let i = c.loop-entry.entry-index in
    done (λ (xs : List Entry). fields_bytes (flat_map entry_fields xs)) (λ x. fields_bytes (entry_fields x))
    (λ x xs. flat_map-append field_bytes (entry_fields x) (flat_map entry_fields xs)) entries i _ _ _ refl (drop_all i entries c.loop-entry-test.false) c.loop-entry.invariant
