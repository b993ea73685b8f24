use Rattle.std.proofs.Common.{set, ap, ◌∙◌, arith}
use Rattle.std.proofs.lemmas.List.{length-map, map-set}
use Rattle.faults.specs.Faults.{values_of}
use Rattle.faults.specs.Tables.{rows_of}
use Rattle.faults.proofs.Rows.{turned_rows, turned_put}
use Rattle.faults.proofs.table.FaultTable.push_out.Goals as goal

pub returns : goal.returns
returns c =
    let rows = c.args.self.now.rows in
    let new = values_of c.args.fault in
    let turned = turned_rows 1 rows c.rotate_left.new.self c.rotate_left.ensures.after in
    map-set values_of c.rotate_left.new.self 15 c.args.fault
    ∙ ap (λ rs. set rs 15 new) turned
    ∙ turned_put 15 (rows_of c.args.self.now) new (omega (arith, length-map rows values_of))
