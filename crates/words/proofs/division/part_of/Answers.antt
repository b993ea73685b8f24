use Rattle.std.proofs.Common.{sym, ap, ◌∙◌}
use Rattle.words.specs.Words.{divided}
use Rattle.words.proofs.Quotients.{remainder_is}
use Rattle.words.proofs.division.part_of.Goals as goal

pub returns-in-Remainder : goal.returns-in-Remainder
returns-in-Remainder c =
    let k = c.args.kind in
    let b = c.args.b in
    let d = c.args.c in
    remainder_is k b d c.quotient-q.result c.ranges.b.fits c.ranges.c.fits c.if-c-eq0.false c.quotient-q.ensures
    ∙ ap (λ p. divided p k b d) (sym c.in-Remainder.is)
