use Rattle.std.proofs.Common.{◌≡◌, ◌+◌, ◌≤◌, true, false, Ok, sym, ap, ◌∙◌, add-one, arith}
use Rattle.std.proofs.lemmas.Bool.Decides.{nat_tests}
use Rattle.module.specs.Layout.{before, count, entry_right, unless_wrong}
use Rattle.module.proofs.Firsts.{first_more, first_stop}
use Rattle.module.proofs.Opens.{entry_misplaced, entry_wrong, entry_passed}
use Rattle.module.proofs.open.sum_entries.Goals as goal
use Rattle.module.proofs.open.sum_entries.Goals.{then-offset_of-at-via-then-offset_of-at, then-offset_of-at-via-else-offset_of-at+then-not-is_right}

pub returns-then-offset_of-at-clause-verdict : goal.returns-then-offset_of-at-clause-verdict
returns-then-offset_of-at-clause-verdict c =
    let bs = c.args.bytes.now in
    let n = c.args.routines in
    let r = c.loop-routine.routine in
    let all = c.requires.all in
    let sum = c.loop-routine.invariant.0 in
    let at = c.offset_of.ensures.value in
    let entry = c.entry_of-entry.ensures in
    let wrong : entry_right bs r ≡ false = elim c.then-offset_of-at.branch [
      | then-offset_of-at-via-then-offset_of-at w ↦ entry_misplaced bs n r _ _ _ all sum at entry w.if-offset_of-at.true
      | then-offset_of-at-via-else-offset_of-at+then-not-is_right w ↦ entry_wrong bs n r _ _ _ all sum at entry (sym w.is_right.ensures ∙ w.if-not-is_right.true)
    ] in
    let e = first_stop (entry_right bs) n r c.loop-routine-test.true wrong in
    ap (λ o. unless_wrong o (Ok (before bs n))) (sym e ∙ c.loop-routine.invariant.2)

pub loop-routine-preserved : goal.loop-routine-preserved
loop-routine-preserved c =
    let bs = c.args.bytes.now in
    let r = c.loop-routine.routine in
    let entry = c.entry_of-entry.ensures in
    let ok : entry_right bs r ≡ true = entry_passed bs c.args.routines r _ _ _ c.requires.all c.loop-routine.invariant.0 c.offset_of.ensures.value entry c.if-offset_of-at.false (sym c.is_right.ensures ∙ c.if-not-is_right.false) in
    let sum : before bs r + count bs r ≤ 4096 = grind (arith, nat_tests) in
    let more = ap (before bs) (add-one r) in
    let read : c.from-sum.result ≡ count bs r = c.from-sum.ensures ∙ ap (λ x. x.count) entry in (
      omega (arith, more, read, c.loop-routine.invariant.0),
      omega (arith, sum, read, c.loop-routine.invariant.0),
      sym (first_more (entry_right bs) c.args.routines r c.loop-routine-test.true ok) ∙ c.loop-routine.invariant.2,
    )
