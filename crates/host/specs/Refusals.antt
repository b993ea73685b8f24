-- The numbers of a host's refusals, by which every promise speaks of them.
use Rattle.std.specs.Prelude.{ℕ, Result}
use Rattle.std.specs.Result.{result_map_both}
use Rattle.refusal.specs.declared.Layer.TheVariants.{Host}
use Rattle.refusal.specs.Values.{Values, layer_number}
use Rattle.host.specs.declared.port.HostRefusal.{HostRefusal}
use Rattle.host.specs.declared.port.HostRefusal.TheVariants.{NoPort, SensePort, OutOfLimits}

-- a refusal that the host causes: it has no place
abbrev pub by_host : ℕ → Values
by_host number = record { number = number; layer = layer_number Host; routine = 0; instruction = 0 }

-- the numbers of each refusal
abbrev pub values_of : HostRefusal → Values
values_of NoPort = by_host 4
values_of SensePort = by_host 5
values_of OutOfLimits = by_host 6

-- an answer, with a refusal by its numbers
abbrev pub told : {X : Type 0} → Result X HostRefusal → Result X Values
told answer = result_map_both (λ x. x) values_of answer
