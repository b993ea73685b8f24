use Rattle.std.proofs.Common.{◌*◌, length, arith}
use Rattle.std.proofs.lemmas.List.FromFn.{fill_by_all}
use Rattle.host.specs.Ports.{blank}
use Rattle.engine.specs.Given.{row_at}
use Rattle.engine.proofs.given.fill_rows.Goals as goal

pub returns : goal.returns
returns c =
    let bs = c.args.bytes.now in
    fill_by_all (λ i. row_at bs (18 * i)) c.loop-i.rows (length c.args.rows.now) blank (omega arith) (λ k h. c.loop-i.invariant k (omega arith))
