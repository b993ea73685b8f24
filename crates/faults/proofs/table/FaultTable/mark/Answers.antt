use Rattle.std.proofs.Common.{arith}
use Rattle.faults.proofs.Rows.{row_marked}
use Rattle.faults.proofs.table.FaultTable.mark.Goals as goal

pub returns : goal.returns
returns c = row_marked c.args.self.now.rows c.args.i _ (omega arith)
