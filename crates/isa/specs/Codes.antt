-- What a conversion of a number in a row answers.
use Rattle.std.specs.Prelude.{Bool, cond, Ok, Err, Result}
use Rattle.isa.specs.declared.row.Malformed.{Malformed}

-- the refusal of a number that names nothing of its kind
abbrev pub malformed : Malformed
malformed = record {}

-- x if the test holds, and else that refusal
abbrev pub formed_if : {X : Type 0} → Bool → X → Result X Malformed
formed_if test x = cond test (Ok x) (Err malformed)
