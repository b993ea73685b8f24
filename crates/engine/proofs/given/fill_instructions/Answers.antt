use Rattle.std.proofs.Common.{◌*◌, length, arith}
use Rattle.std.proofs.lemmas.List.FromFn.{fill_by_all}
use Rattle.module.specs.Layout.{row_from}
use Rattle.packing.specs.Packed.{no_row}
use Rattle.engine.proofs.given.fill_instructions.Goals as goal

pub returns : goal.returns
returns c =
    let bs = c.args.bytes.now in
    fill_by_all (λ i. row_from bs (8 * i)) c.loop-i.rows (length c.args.rows.now) no_row (omega arith) (λ k h. c.loop-i.invariant k (omega arith))
