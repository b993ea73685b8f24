use Rattle.std.proofs.lemmas.List.{take-map}
use Rattle.faults.proofs.table.FaultTable.first.Goals as goal

pub returns : goal.returns
returns c = simp take-map
