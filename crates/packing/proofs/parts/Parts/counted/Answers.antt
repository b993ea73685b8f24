use Rattle.std.proofs.Common.{◌≡◌, true, length, sym, ◌∙◌}
use Rattle.module.specs.Layout.{admitted}
use Rattle.packing.proofs.Passed.{entries_right}
use Rattle.packing.proofs.parts.Parts.counted.Goals as goal

pub invariant_of-result : goal.invariant_of-result
invariant_of-result c =
    let p = c.args.self in
    let counts : admitted (length p.entries.now) (length p.image.now) ≡ true = sym c.admit.ensures ∙ c.if-not-admit.false in
    let sum = c.in_ok-total.ensures in
    record { entries = entries_right p.entries.now p.rows.now p.image.now counts c.in_ok-total.total sum.verdict sum.short c.if-rows-total.false }
