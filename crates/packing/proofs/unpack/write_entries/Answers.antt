use Rattle.std.proofs.Common.{sym, ◌∙◌, arith}
use Rattle.std.proofs.lemmas.List.FromFn.{fill_by_all}
use Rattle.module.specs.Layout.{routines, entry_of}
use Rattle.module.specs.Told.{bytes_read}
use Rattle.packing.specs.Packed.{no_entry}
use Rattle.packing.proofs.Filled.{one_more, not_past}
use Rattle.packing.proofs.unpack.write_entries.Goals as goal
use Rattle.packing.proofs.unpack.write_entries.Goals.{in-Some, in_default}

pub loop-r-preserved : goal.loop-r-preserved
loop-r-preserved c =
    let bs = bytes_read c.args.contents in
    let r = c.loop-r.r in
    elim c.match-entry.branch [
      | in-Some w ↦ one_more (entry_of bs) (routines bs) r (omega arith) c.loop-r.entries _ w.in-Some.own no_entry (omega arith) c.loop-r.invariant (sym w.in-Some.is ∙ c.entry.ensures) w.entries-is
      | in_default w ↦ absurd (not_past (entry_of bs) (routines bs) r (omega arith) (sym w.in_default.is ∙ c.entry.ensures))
    ]

pub returns : goal.returns
returns c =
    let bs = bytes_read c.args.contents in
    fill_by_all (entry_of bs) c.loop-r.entries (routines bs) no_entry (omega arith) (λ k h. c.loop-r.invariant k (omega arith))
