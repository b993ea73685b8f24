use Rattle.std.proofs.Common.{◌≡◌, ◌<◌, length, take, drop, Some, None, sym, ap, ◌∙◌, subst, add-one, arith, length-drop}
use Rattle.std.proofs.lemmas.List.{drop-drop}
use Rattle.module.specs.Layout.{routines, count, before}
use Rattle.module.specs.Ready.{EarlierHold}
use Rattle.module.specs.Rules.{holds}
use Rattle.module.specs.Shape.{routine_rows, rows_before}
use Rattle.module.specs.Verdict.{breach_in}
use Rattle.module.proofs.Firsts.{first_in, place_step}
use Rattle.module.proofs.Opens.{opened_laid, opened_entry, opened_routines}
use Rattle.module.proofs.Passes.{rows_before_long, rows_part}
use Rattle.module.proofs.opened.Opened.breach.Goals as goal
use Rattle.module.proofs.opened.Opened.breach.Goals.{After-count, After-breach}

within : (c : After-count) → c.loop-index.index < routines c.args.self.now.bytes.now
within c = omega (arith, c.loop-index-test.true, opened_routines c.args.self.now)

counted : (c : After-count) → c.count.result ≡ count c.args.self.now.bytes.now c.loop-index.index
counted c = c.count.ensures ∙ (λ i. count (c.routine-routine.ensures.bytes i) (c.routine-routine.ensures.index i))

broken : (c : After-breach) → c.breach.result ≡ breach_in c.args.rule c.args.self.now.bytes.now c.loop-index.index
broken c = c.breach.ensures ∙ (λ i. breach_in c.args.rule (c.routine-routine.ensures.bytes i) (c.routine-routine.ensures.index i))

pub split_at-requires : goal.split_at-requires
split_at-requires c =
    let bs = c.args.self.now.bytes.now in
    let r = c.loop-index.index in
    let n = routines bs in
    let long = ap length c.loop-index.invariant.0 ∙ length-drop (before bs r) (rows_before bs n) in
    omega (arith, (opened_entry c.args.self.now r c.loop-index-test.true).inside, long, rows_before_long bs n, counted (goal.at.split_at-requires c).After-count)

pub breach-requires : goal.breach-requires
breach-requires c =
    let bs = c.args.self.now.bytes.now in
    let r = c.loop-index.index in
    let at = (goal.at.breach-requires c).After-count in
    let t = c.routine-routine.ensures in
    let own : c.split_at.result.0.now ≡ routine_rows bs r
    = c.split_at.ensures.front ∙ (λ i. take (counted at i) (c.loop-index.invariant.0 i)) ∙ rows_part bs (routines bs) r (within at) in
    record {
      earlier = subst (EarlierHold c.args.rule) (sym t.bytes) c.requires.earlier;
      filled = own ∙ sym (λ i. routine_rows (t.bytes i) (t.index i));
    }

pub overflow_cast-result-in-Some : goal.overflow_cast-result-in-Some
overflow_cast-result-in-Some c =
    let o = c.args.self.now in
    let bs = o.bytes.now in
    let r = c.loop-index.index in
    omega (arith, first_in (holds c.args.rule bs r) (count bs r) 0 c.in-Some.i (sym (broken (goal.at.overflow_cast-result-in-Some c).After-breach) ∙ c.in-Some.is), (opened_entry o r c.loop-index-test.true).inside, (opened_laid o).short)

pub returns-in-Some : goal.returns-in-Some
returns-in-Some c =
    let bs = c.args.self.now.bytes.now in
    let r = c.loop-index.index in
    let at = goal.at.returns-in-Some c in
    let first = sym c.in-Some.is ∙ broken at.After-breach in
    sym (place_step (holds c.args.rule bs) (count bs) (routines bs) r (Some c.in-Some.i) (within at.After-count) first) ∙ c.loop-index.invariant.1

pub loop-index-preserved : goal.loop-index-preserved
loop-index-preserved c =
    let bs = c.args.self.now.bytes.now in
    let r = c.loop-index.index in
    let at = goal.at.loop-index-preserved c in
    let first = sym c.in_default.is ∙ broken at.After-breach in
    let all = rows_before bs (routines bs) in (
      c.split_at.ensures.back ∙ (λ i. drop (counted at.After-count i) (c.loop-index.invariant.0 i)) ∙ drop-drop (count bs r) (before bs r) all ∙ ap (λ n. drop (before bs n) all) (sym (add-one r)),
      sym (place_step (holds c.args.rule bs) (count bs) (routines bs) r None (within at.After-count) first) ∙ c.loop-index.invariant.1,
    )
