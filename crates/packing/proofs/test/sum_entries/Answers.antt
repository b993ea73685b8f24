use Rattle.std.proofs.Common.{◌≡◌, ◌+◌, ◌≤◌, true, length, Ok, sym, ap, ◌∙◌, add-one, arith}
use Rattle.std.proofs.lemmas.Bool.Decides.{nat_tests}
use Rattle.module.specs.Layout.{right, unless_wrong}
use Rattle.module.proofs.Firsts.{first_more, first_stop}
use Rattle.packing.specs.Pack.{entry_right}
use Rattle.packing.specs.Packed.{nth_entry, before, total}
use Rattle.packing.proofs.test.sum_entries.Goals as goal

pub returns-then-not-is_right-clause-verdict : goal.returns-then-not-is_right-clause-verdict
returns-then-not-is_right-clause-verdict c =
    let es = c.args.entries.now in
    let r = c.loop-routine.routine in
    let wrong = sym (c.is_right.ensures ∙ ap (right (nth_entry es r) r) c.loop-routine.invariant.0) ∙ c.if-not-is_right.true in
    ap (λ o. unless_wrong o (Ok (total es))) (sym (first_stop (entry_right es) (length es) r c.loop-routine-test.true wrong) ∙ c.loop-routine.invariant.2)

pub loop-routine-preserved : goal.loop-routine-preserved
loop-routine-preserved c =
    let es = c.args.entries.now in
    let r = c.loop-routine.routine in
    let ok : entry_right es r ≡ true = sym (c.is_right.ensures ∙ ap (right (nth_entry es r) r) c.loop-routine.invariant.0) ∙ c.if-not-is_right.false in
    let short : before es r + (nth_entry es r).count ≤ 4096 = grind (arith, nat_tests) in
    let more = ap (before es) (add-one r) in (
      omega (arith, more, c.from-sum.ensures, c.loop-routine.invariant.0),
      omega (arith, short, c.from-sum.ensures, c.loop-routine.invariant.0),
      sym (first_more (entry_right es) (length es) r c.loop-routine-test.true ok) ∙ c.loop-routine.invariant.2,
    )
