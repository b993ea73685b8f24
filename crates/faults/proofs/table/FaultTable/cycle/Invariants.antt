use Rattle.std.proofs.Common.{◌≡◌, ◌++◌, map, take, drop}
use Rattle.faults.specs.Faults.{marked}
use Rattle.faults.specs.Tables.{rows_of}
use Rattle.faults.proofs.table.FaultTable.cycle.Given as goal

abbrev pub invariant-loop-i : goal.invariant-loop-i
invariant-loop-i l = rows_of l.self ≡ map marked (take l.i (rows_of l.initial.self)) ++ drop l.i (rows_of l.initial.self)
