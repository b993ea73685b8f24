use Rattle.std.proofs.Common.{sym, ◌∙◌, arith}
use Rattle.std.proofs.lemmas.List.FromFn.{fill_by_all}
use Rattle.module.specs.Contents.{body_row}
use Rattle.module.specs.Layout.{total}
use Rattle.module.specs.Told.{bytes_read}
use Rattle.packing.specs.Packed.{no_row}
use Rattle.packing.proofs.Filled.{one_more, not_past}
use Rattle.packing.proofs.unpack.write_rows.Goals as goal
use Rattle.packing.proofs.unpack.write_rows.Goals.{in-Some, in_default}

pub loop-k-preserved : goal.loop-k-preserved
loop-k-preserved c =
    let bs = bytes_read c.args.contents in
    let k = c.loop-k.k in
    elim c.match-row.branch [
      | in-Some w ↦ one_more (body_row bs) (total bs) k (omega arith) c.loop-k.rows _ w.in-Some.own no_row (omega arith) c.loop-k.invariant (sym w.in-Some.is ∙ c.row.ensures) w.rows-is
      | in_default w ↦ absurd (not_past (body_row bs) (total bs) k (omega arith) (sym w.in_default.is ∙ c.row.ensures))
    ]

pub returns : goal.returns
returns c =
    let bs = bytes_read c.args.contents in
    fill_by_all (body_row bs) c.loop-k.rows (total bs) no_row (omega arith) (λ k h. c.loop-k.invariant k (omega arith))
