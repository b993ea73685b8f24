use Rattle.std.proofs.Common.{length, ap, arith}
use Rattle.std.proofs.lemmas.List.{length-map}
use Rattle.faults.specs.Faults.{values_of}
use Rattle.faults.proofs.list.FaultList.len.Goals as goal

pub returns-clause-length : goal.returns-clause-length
returns-clause-length c = omega (arith, ap length c.faults.ensures, length-map c.faults.result.now values_of)
