-- What a drive answers to questions.
use Rattle.std.specs.Prelude.{ℕ, List, length, Some, None, Ok, Err, Option, Result}
use Rattle.std.specs.Option.{option_map, unwrap_or}
use Rattle.refusal.specs.declared.Place.{Place}
use Rattle.refusal.specs.Values.{Values, caller}
use Rattle.machine.specs.Level.{Level}
use Rattle.machine.specs.Shown.{running_in}

-- the answer to a question: what was asked for, or 18 where it is absent
abbrev pub asked : {X : Type 0} → Option X → Result X Values
asked None = Err (caller 18)
asked (Some x) = Ok x

-- the place of the running routine, if there is one
abbrev pub place_in : List Level → Option Place
place_in levels = option_map (λ l. record { routine = l.routine; instruction = l.pc }) (running_in levels)

-- how many registers the running routine has; none after the end
abbrev pub depth_in : List Level → ℕ
depth_in levels = unwrap_or (option_map (λ l. length l.registers) (running_in levels)) 0
