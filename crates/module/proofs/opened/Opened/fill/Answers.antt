use Rattle.std.proofs.Common.{◌≡◌, ◌≤◌, ◌++◌, length, sym, ap, ◌∙◌, add-one, arith}
use Rattle.std.proofs.lemmas.Slice.{take-put_mid}
use Rattle.module.specs.Layout.{count, before}
use Rattle.module.specs.Shape.{routine_rows, rows_before}
use Rattle.module.proofs.Opens.{opened_laid, opened_entry}
use Rattle.module.proofs.opened.Opened.fill.Goals as goal
use Rattle.module.proofs.opened.Opened.fill.Goals.{After-count}

counted : (c : After-count) → c.count.result ≡ count c.args.self.now.bytes.now c.loop-index.index
counted c = c.count.ensures ∙ (λ i. count (c.routine-routine.ensures.bytes i) (c.routine-routine.ensures.index i))

pub overflow_add-end : goal.overflow_add-end
overflow_add-end c =
    let o = c.args.self.now in
    omega (arith, (opened_laid o).short, (opened_entry o c.loop-index.index c.loop-index-test.true).inside, c.loop-index.invariant.0, counted (goal.at.overflow_add-end c).After-count)

pub offset_bounds-rows-start : goal.offset_bounds-rows-start
offset_bounds-rows-start c =
    let o = c.args.self.now in
    omega (arith, (opened_laid o).short, (opened_entry o c.loop-index.index c.loop-index-test.true).inside, c.loop-index.invariant.0)

pub slice_bounds-fill-end : goal.slice_bounds-fill-end
slice_bounds-fill-end c =
    omega (arith, (opened_entry c.args.self.now c.loop-index.index c.loop-index-test.true).inside, c.requires, c.loop-index.invariant.0, counted (goal.at.slice_bounds-fill-end c).After-count)

pub loop-index-preserved : goal.loop-index-preserved
loop-index-preserved c =
    let bs = c.args.self.now.bytes.now in
    let r = c.loop-index.index in
    let start = c.loop-index.start in
    let inside = (opened_entry c.args.self.now r c.loop-index-test.true).inside in
    let count = counted (goal.at.loop-index-preserved c).After-count in
    let filled = c.fill.new.rows in
    let own : filled ≡ routine_rows bs r = c.fill.ensures ∙ (λ i. routine_rows (c.routine-routine.ensures.bytes i) (c.routine-routine.ensures.index i)) in
    let long : length filled ≡ c.count.result = omega arith in
    let room : start ≤ length c.loop-index.rows = omega (arith, inside, c.requires, c.loop-index.invariant.0, count) in (
      omega (arith, ap (before bs) (add-one r), c.loop-index.invariant.0, count),
      take-put_mid start _ c.loop-index.rows filled _ (omega (arith, long)) room
          ∙ (λ i. c.loop-index.invariant.1 i ++ own i)
          ∙ ap (rows_before bs) (sym (add-one r)),
    )
