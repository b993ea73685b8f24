use Rattle.std.proofs.Common.{◌≡◌, ◌&&◌, eqb, ltb, length, get_or, sym, ap, ◌∙◌, ⊎_elim, arith}
use Rattle.std.proofs.lemmas.Bool.{cases_lt, and_left, le-ltb}
use Rattle.std.proofs.lemmas.Grind.{common_steps}
use Rattle.module.specs.First.{passes}
use Rattle.module.specs.Layout.{count}
use Rattle.module.specs.Rules.{same_shape}
use Rattle.module.specs.Shape.{shape}
use Rattle.module.specs.Verdict.{blank}
use Rattle.module.proofs.Lookup.{rows_long, row_at_lem}
use Rattle.module.proofs.Spans.{same_rows}
use Rattle.module.proofs.rules.target_holds.Goals as goal

pub returns-in-Some : goal.returns-in-Some
returns-in-Some c = λ bs r s e p h k.
    let n = c.in-Some.n in
    let rows = c.args.rows.now in
    let row = get_or rows n blank in
    let said : c.is_some_and.result ≡ (ltb n (length rows) && (eqb row.depth c.args.here.depth && eqb row.mask c.args.here.mask)) = grind (arith, common_steps) in
    let long = rows_long bs r rows e in
    let there : c.is_some_and.result ≡ (ltb n (count bs r) && same_shape (shape bs r n) s)
    = said ∙ ap (λ m. ltb n m && (eqb row.depth c.args.here.depth && eqb row.mask c.args.here.mask)) long
    ∙ ⊎_elim
    (λ lt. ap (λ b. ltb n (count bs r) && b) (same_rows row c.args.here (shape bs r n) s (row_at_lem bs r rows e n lt) p (k n lt) h))
    (λ past. and_left _ _ (le-ltb n (count bs r) past) ∙ sym (and_left _ _ (le-ltb n (count bs r) past)))
    (cases_lt n (count bs r)) in
    there ∙ ap (passes (λ m. ltb m (count bs r) && same_shape (shape bs r m) s)) c.in-Some.ensures
