-- The six numbers of a fault, by which every promise speaks of it.
use Rattle.std.specs.Prelude.{ℕ, Bool, ◌==◌}
use Rattle.std.specs.Int.{from_bool}
use Rattle.faults.specs.declared.fault.Fault.{Fault}
use Rattle.faults.specs.Causes.{Trip, trip_of}

-- The five numbers of its trip, and its mark: 1 once a power cycle has passed, and 0 before.
pub record FaultValues : Type 0 where
  pub cause : ℕ
  pub layer : ℕ
  pub routine : ℕ
  pub instruction : ℕ
  pub detail : ℕ
  pub mark : ℕ

-- a trip, as a fault with this mark
abbrev pub with_mark : Trip → ℕ → FaultValues
with_mark trip mark =
    record {
      cause = trip.cause;
      layer = trip.layer;
      routine = trip.routine;
      instruction = trip.instruction;
      detail = trip.detail;
      mark = mark;
    }

-- the fault of a trip before any power cycle
abbrev pub unmarked : Trip → FaultValues
unmarked trip = with_mark trip 0

-- the same fault with its mark
abbrev pub marked : FaultValues → FaultValues
marked fault =
    record {
      cause = fault.cause;
      layer = fault.layer;
      routine = fault.routine;
      instruction = fault.instruction;
      detail = fault.detail;
      mark = 1;
    }

-- a power cycle has passed since the trip
abbrev pub is_marked : FaultValues → Bool
is_marked fault = fault.mark == 1

-- what the definitions read where there is no fault; no answer shows it
abbrev pub no_fault : FaultValues
no_fault = record { cause = 0; layer = 0; routine = 0; instruction = 0; detail = 0; mark = 0 }

-- the six numbers of a fault
abbrev pub values_of : Fault → FaultValues
values_of fault = with_mark (trip_of fault.cause fault.place) (from_bool fault.marked)
