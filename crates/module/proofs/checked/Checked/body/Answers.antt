use Rattle.std.proofs.Common.{ap, arith}
use Rattle.module.proofs.Accepts.{accepts_checked}
use Rattle.module.proofs.Opens.{opened_counts}
use Rattle.module.proofs.checked.Checked.body.Goals as goal

pub invariant_of-result : goal.invariant_of-result
invariant_of-result c =
    let m = c.args.self.now in
    record {
      keeps = accepts_checked m;
      there = omega (arith, c.if-routine-self.false, ap (λ x. x.routines) (opened_counts m.opened));
      placed = c.offset_of.ensures.value;
    }
