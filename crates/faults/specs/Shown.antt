-- What a fault list shows.
use Rattle.std.specs.Prelude.{List, take, Option}
use Rattle.std.specs.Option.{option_map}
use Rattle.faults.specs.declared.fault.Fault.{Fault}
use Rattle.faults.specs.declared.list.FaultList.{FaultList}
use Rattle.faults.specs.Faults.{FaultValues, values_of}
use Rattle.faults.specs.Tables.{rows_of}

-- the list that it stands for, the oldest fault first
abbrev pub faults_of : FaultList → List FaultValues
faults_of list = take list.count (rows_of list.table)

-- an answer, with its fault by the six numbers
abbrev pub shown : Option Fault → Option FaultValues
shown answer = option_map values_of answer
