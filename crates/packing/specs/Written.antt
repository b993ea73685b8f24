-- What lent slices hold afterwards.
use Rattle.std.specs.Prelude.{Bool, cond, List, ◌++◌, length, drop}

-- xs from the start, and what lies past them as it was; where the test fails, all as it was
abbrev pub written_if : {X : Type 0} → Bool → List X → List X → List X
written_if test xs lent = cond test (xs ++ drop (length xs) lent) lent
