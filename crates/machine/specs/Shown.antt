-- What a machine shows of itself.
use Rattle.std.specs.Prelude.{ℕ, List, Option}
use Rattle.std.specs.List.{slice_get}
use Rattle.std.specs.Option.{option_map, option_and_then}
use Rattle.machine.specs.Level.{Level, value_of}

-- register k of a routine, if there is one
abbrev pub register_of : Level → ℕ → Option ℕ
register_of l k = option_map value_of (slice_get l.registers k)

-- the running routine, if there is one: the first of those that are nested
abbrev pub running_in : List Level → Option Level
running_in levels = slice_get levels 0

-- register k of the running routine, if there is one
abbrev pub register_at : List Level → ℕ → Option ℕ
register_at levels k = option_and_then (λ l. register_of l k) (running_in levels)

-- byte i of memory, if there is one
abbrev pub byte_at : List ℕ → ℕ → Option ℕ
byte_at memory i = slice_get memory i
