use Rattle.std.proofs.Common.{◌≡◌, [], ◌∷◌, ◌++◌, length, take, drop, refl, sym, ap, ◌∙◌, subst, arith}
use Rattle.std.proofs.lemmas.List.{length_push, length-drop, length-map, take_all}
use Rattle.faults.specs.Causes.{trip_of}
use Rattle.faults.specs.Faults.{values_of, unmarked}
use Rattle.faults.specs.Lists.{MarkedFirst}
use Rattle.faults.specs.Tables.{rows_of}
use Rattle.faults.proofs.Marks.{first-drop, first-push}
use Rattle.faults.proofs.list.FaultList.add.Goals as goal

-- a full list
pub invariant_of-self-clause-sorted : goal.invariant_of-self-clause-sorted
invariant_of-self-clause-sorted c =
    let list = c.args.self.now in
    let rows = rows_of list.table in
    let new = unmarked (trip_of c.args.cause c.args.place) in
    let whole : length rows ≡ list.count = omega (arith, length-map list.table.rows values_of) in
    let sorted = subst MarkedFirst (take_all list.count rows (omega arith)) list.sorted in
    let all = take_all list.count (drop 1 rows ++ (new ∷ [])) (omega (arith, length_push (drop 1 rows) new, length-drop 1 rows)) in
    let pushed = ap (take list.count) c.push_out.ensures ∙ all in
    subst MarkedFirst (sym pushed) (first-push new refl (drop 1 rows) (first-drop 1 rows sorted))
