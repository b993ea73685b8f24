-- The rows of a table, by the numbers of their faults.
use Rattle.std.specs.Prelude.{ℕ, List, map, slice_index_or}
use Rattle.faults.specs.declared.table.FaultTable.{FaultTable}
use Rattle.faults.specs.Faults.{FaultValues, no_fault, values_of}

-- all rows, those that no fault was put into too
abbrev pub rows_of : FaultTable → List FaultValues
rows_of table = map values_of table.rows

-- row i; no fault where there is no such row
abbrev pub row_at : FaultTable → ℕ → FaultValues
row_at table i = slice_index_or (rows_of table) i no_fault
