use Rattle.std.proofs.Common.{ap}
use Rattle.bench.proofs.Decided.{first_decide, decided_of_all}
use Rattle.bench.proofs.read_deciding.Goals as goal

pub returns : goal.returns
returns g c =
    let n = c.deciding_length-most.result in
    decided_of_all n c.take.result.limit (g.R.Read.remaining c.args.input) (g.R.Read.remaining c.take.result.inner) c.new-bytes.result.items _
    (first_decide n c.deciding_length-most.ensures.decides c.deciding_length-most.ensures.whole) c.take.ensures.limit (ap (g.R.Read.remaining) c.take.ensures.inner) c.new-bytes.ensures.items
    c.in_ok-read_to_end.ensures.bytes
