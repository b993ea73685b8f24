use Rattle.std.proofs.Common.{refl}
use Rattle.packing.proofs.Passed.{rows_right}
use Rattle.packing.proofs.test.Counted.tested.Goals as goal

pub invariant_of-result : goal.invariant_of-result
invariant_of-result c =
    record { rows = rows_right c.args.self.parts.entries.now c.args.self.parts.rows.now c.args.self.parts.image.now c.args.self.entries c.in_default.ensures.first (c.in_default.ensures.words refl) }
