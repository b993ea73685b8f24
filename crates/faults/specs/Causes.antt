-- The numbers of a cause, and of a trip.
use Rattle.std.specs.Prelude.{ℕ}
use Rattle.host.specs.Refusals.{values_of}
use Rattle.refusal.specs.declared.Layer.TheVariants.{Engine}
use Rattle.refusal.specs.declared.Place.{Place}
use Rattle.refusal.specs.Values.{layer_number}
use Rattle.faults.specs.declared.cause.Cause.{Cause}
use Rattle.faults.specs.declared.cause.Cause.TheVariants.{ZeroDivisor, MemoryPassed, TooDeep, Host}

-- the three numbers of a cause, by which every promise speaks of it
pub record CauseValues : Type 0 where
  pub number : ℕ
  pub layer : ℕ
  pub detail : ℕ

-- a cause of the engine's, by its number and detail
abbrev pub by_engine : ℕ → ℕ → CauseValues
by_engine number detail = record { number = number; layer = layer_number Engine; detail = detail }

-- the numbers of a cause; a refusal of the host's has its own number and layer, and the port is its detail
abbrev pub cause_of : Cause → CauseValues
cause_of ZeroDivisor = by_engine 1 0
cause_of (MemoryPassed address) = by_engine 2 address
cause_of TooDeep = by_engine 3 0
cause_of (Host refusal port) = record { number = (values_of refusal).number; layer = (values_of refusal).layer; detail = port }

-- The five numbers of a trip, by which every promise speaks of it: those of its cause, and the place.
pub record Trip : Type 0 where
  pub cause : ℕ
  pub layer : ℕ
  pub routine : ℕ
  pub instruction : ℕ
  pub detail : ℕ

-- a trip for this cause, at this place
abbrev pub trip_of : Cause → Place → Trip
trip_of cause place =
    record {
      cause = (cause_of cause).number;
      layer = (cause_of cause).layer;
      routine = place.routine;
      instruction = place.instruction;
      detail = (cause_of cause).detail;
    }
