use Rattle.std.proofs.Common.{◌*◌, length, arith}
use Rattle.std.proofs.lemmas.List.FromFn.{fill_by_all}
use Rattle.engine.specs.Given.{entry_at}
use Rattle.packing.specs.Packed.{no_entry}
use Rattle.engine.proofs.given.fill_entries.Goals as goal

pub returns : goal.returns
returns c =
    let bs = c.args.bytes.now in
    fill_by_all (λ i. entry_at bs (4 * i)) c.loop-i.entries (length c.args.entries.now) no_entry (omega arith) (λ k h. c.loop-i.invariant k (omega arith))
