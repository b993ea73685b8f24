use Rattle.std.proofs.Common.{◌≡◌, ◌-◌, ◌<◌, ◌≤◌, ◌++◌, length, not, List, map, take, drop, filter, sym, ap, ◌∙◌, subst, arith, rules}
use Rattle.std.proofs.lemmas.List.{length-map, length-take}
use Rattle.std.proofs.lemmas.List.Sorted.{IsPartitionPoint-from_clause}
use Rattle.faults.specs.Faults.{FaultValues, no_fault, values_of, marked, is_marked}
use Rattle.faults.specs.Lists.{MarkedFirst}
use Rattle.faults.specs.Tables.{rows_of}
use Rattle.host.proofs.Sweep.{swept_more, take-swept}
use Rattle.faults.proofs.Marks.{first_rows, left_after}
use Rattle.faults.proofs.Rows.{brought_front}
use Rattle.faults.proofs.table.FaultTable.cycle.Goals as goal

pub loop-i-preserved : goal.loop-i-preserved
loop-i-preserved c =
    let begun = map values_of c.copy_within.new.self in
    let in-begun : c.loop-i.i < length begun = omega (arith, length-map c.copy_within.new.self values_of) in
    c.mark.ensures ∙ swept_more marked no_fault c.loop-i.i begun (rows_of c.loop-i.self) in-begun c.loop-i.invariant

pub returns-clause-left : goal.returns-clause-left
returns-clause-left c =
    let first = c.first.result.now in
    let gone = c.partition_point-gone.result in
    let count = c.args.count - gone in
    let parted = first_rows first (subst MarkedFirst (sym c.first.ensures) c.requires.sorted) in
    let point = IsPartitionPoint-from_clause (λ fault. fault.marked) first gone c.partition_point-gone.ensures.partitioned parted (λ a r q k. search rules) in
    let Left : List FaultValues → Type 0 = λ faults. filter (λ fault. not (is_marked fault)) faults ≡ drop gone faults in
    let left = subst Left c.first.ensures (left_after gone first point.0 point.1) in
    let rows = rows_of c.args.self.now in
    let begun = map values_of c.copy_within.new.self in
    let few : gone ≤ c.args.count = omega (arith, ap length c.first.ensures, length-map first values_of, length-take c.args.count rows) in
    let stand = brought_front gone c.args.count c.args.self.now.rows c.copy_within.new.self few (omega arith) c.copy_within.ensures.after in
    let all : c.loop-i.i ≡ count = omega arith in
    let done = c.loop-i.invariant ∙ ap (λ i. map marked (take i begun) ++ drop i begun) all in
    ap (take count) done ∙ take-swept marked count begun ∙ ap (map marked) (stand ∙ sym left)
