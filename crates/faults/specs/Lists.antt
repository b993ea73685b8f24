-- Lists of faults, the oldest first, and what becomes of them.
use Rattle.std.specs.Prelude.{ℕ, ◌-◌, not, List, map, length, drop, filter}
use Rattle.std.specs.List.Sorted.{IsPartitionedBy}
use Rattle.faults.specs.Faults.{FaultValues, marked, is_marked}

-- the most faults that are kept
abbrev pub most_faults : ℕ
most_faults = 16

-- the last ones, as many as are kept
abbrev pub newest : List FaultValues → List FaultValues
newest faults = drop (length faults - most_faults) faults

-- over a power cycle the marked faults go, and the others get their mark
abbrev pub cycled : List FaultValues → List FaultValues
cycled faults = map marked (filter (λ fault. not (is_marked fault)) faults)

-- no marked fault stands after one without a mark
abbrev pub MarkedFirst : List FaultValues → Type 0
MarkedFirst faults = IsPartitionedBy is_marked faults
