use Rattle.std.proofs.lemmas.List.{map-set}
use Rattle.faults.proofs.table.FaultTable.put.Goals as goal

pub returns : goal.returns
returns c = simp map-set
