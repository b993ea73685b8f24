use Rattle.std.proofs.Common.{◌≡◌, length, sym, ap, ◌∙◌}
use Rattle.std.proofs.lemmas.List.FromFn.{length-map-range_with_len}
use Rattle.std.proofs.lemmas.List.{take_at}
use Rattle.module.specs.Contents.{body_row, entries, rows}
use Rattle.module.specs.Layout.{routines, total, entry_of}
use Rattle.module.specs.Told.{bytes_of}
use Rattle.packing.proofs.Trips.{packs}
use Rattle.packing.proofs.unpack.unpack.Goals as goal

pub returns-clause-packs : goal.returns-clause-packs
returns-clause-packs c =
    let m = c.args.checked.now in
    let bs = bytes_of m.opened in
    let counts = c.counts-routines.result in
    let counted = c.counts-routines.ensures.counts in
    let es : c.write_entries.new.entries ≡ entries bs = c.write_entries.ensures ∙ ap entries c.contents-contents.ensures in
    let rs : c.write_rows.new.rows ≡ rows bs = c.write_rows.ensures ∙ ap rows c.contents-contents.ensures in
    let n : length c.write_entries.new.entries ≡ counts.routines
    = ap length es ∙ length-map-range_with_len (entry_of bs) 0 (routines bs) ∙ sym (ap (λ x. x.routines) counted) in
    let t : length c.write_rows.new.rows ≡ counts.total
    = ap length rs ∙ length-map-range_with_len (body_row bs) 0 (total bs) ∙ sym (ap (λ x. x.total) counted) in
    packs m _ _
    (take_at c.write_entries.new.entries _ counts.routines n ∙ es)
    (take_at c.write_rows.new.rows _ counts.total t ∙ rs)
