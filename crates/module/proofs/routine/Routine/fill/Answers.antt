use Rattle.std.proofs.Common.{◌<◌, ◌≢◌, length, sym, ap, ◌∙◌, add-one, arith, get_or-set_other, get_or-set_same, below_more}
use Rattle.std.proofs.lemmas.List.FromFn.{fill_by_all}
use Rattle.module.specs.Layout.{count}
use Rattle.module.specs.Shape.{after, shape, row_of, sheet_row}
use Rattle.module.specs.Told.{bytes_in}
use Rattle.module.specs.Verdict.{blank}
use Rattle.module.proofs.Depths.{depth_grows}
use Rattle.module.proofs.Opens.{opened_laid, routine_in, routine_entered}
use Rattle.module.proofs.ShapeRows.{entered, shape_row}
use Rattle.module.proofs.routine.Routine.fill.Goals as goal

pub loop-i-init : goal.loop-i-init
loop-i-init c =
    (ap (λ d. shape_row d 0) (c.from.ensures ∙ ap (λ g. g.arguments) c.signature.ensures) ∙ entered _, λ k h. absurd (omega arith))

pub after-shape-requires : goal.after-shape-requires
after-shape-requires c =
    let t = c.args.self.now in
    let ok = opened_laid t.module.now in
    omega (arith, ap (λ g. g.depth) c.loop-i.invariant.0, depth_grows ok t.index (routine_in t) c.loop-i.i, ok.short, (routine_entered t).inside, c.requires)

pub loop-i-preserved : goal.loop-i-preserved
loop-i-preserved c =
    let bs = bytes_in c.args.self.now in
    let r = c.args.self.now.index in
    let i = c.loop-i.i in
    let here = c.loop-i.invariant.0 in (
      c.after-shape.ensures (shape bs r i) here ∙ ap (λ o. row_of (after o (shape bs r i))) (c.instr.ensures.inside (omega arith)) ∙ ap (sheet_row bs r) (sym (add-one i)),
      below_more _ _
          (λ k h. let ne : k ≢ i = omega arith in rw get_or-set_other (c.loop-i.invariant.1 k h))
          (let lt : i < length c.loop-i.rows = omega arith in rw get_or-set_same here),
    )

pub returns : goal.returns
returns c =
    let t = c.args.self.now in
    let bs = bytes_in t in
    fill_by_all (sheet_row bs t.index) c.loop-i.rows (count bs t.index) blank (omega arith) (λ k h. c.loop-i.invariant.1 k (omega arith))
