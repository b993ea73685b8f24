use Rattle.std.proofs.Common.{◌+◌, ◌/◌, ◌%◌, min, nat_abs, ap, ◌∙◌, arith, w32}
use Rattle.std.proofs.lemmas.Int.{ints, to_z-of_z}
use Rattle.words.proofs.Quotients.{downwards_is}
use Rattle.words.proofs.division.divide_downwards.Goals as goal

pub returns-else-x-y : goal.returns-else-x-y
returns-else-x-y c =
    let x = c.args.x in
    let y = c.args.y in
    let fx = c.ranges.x in
    let fy = c.ranges.y in
    let ax = c.unsigned_abs.ensures.value ∙ ap nat_abs (to_z-of_z w32 x fx) in
    let ay = c.unsigned_abs-else-x-y.ensures.value ∙ ap nat_abs (to_z-of_z w32 y fy) in
    downwards_is x y c.div_ceil.result c.wrapping_neg.result (simp to_z-of_z at c.if-x-y.false)
    (omega (arith, ints)) c.div_ceil.type_inv c.wrapping_neg.type_inv
    (c.div_ceil.ensures ∙ (λ i. ax i / ay i + min 1 (ax i % ay i))) c.wrapping_neg.ensures
