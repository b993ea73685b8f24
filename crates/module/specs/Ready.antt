-- What is known where a rule is tried.
use Rattle.std.specs.Prelude.{◌≡◌, ℕ, ◌<◌, ◌≤◌, true, List, length}
use Rattle.module.specs.declared.routine.Routine.{Routine}
use Rattle.module.specs.declared.rule.Rule.{Rule}
use Rattle.module.specs.declared.shape.ShapeRow.{ShapeRow}
use Rattle.module.specs.Layout.{routines, count}
use Rattle.module.specs.Rules.{holds, rule_number}
use Rattle.module.specs.Shape.{shape, routine_rows}
use Rattle.module.specs.Told.{bytes_in}

-- every instruction of the module keeps the rule
abbrev pub Everywhere : Rule → List ℕ → Type 0
Everywhere q bs = (r i : ℕ) → r < routines bs → i < count bs r → holds q bs r i ≡ true

-- every instruction of the module keeps the rules that are tried before this one
abbrev pub EarlierHold : Rule → List ℕ → Type 0
EarlierHold q bs = (p : Rule) → rule_number p < rule_number q → Everywhere p bs

-- no shape of routine r has more than 32 registers
abbrev pub Shallow : List ℕ → ℕ → Type 0
Shallow bs r = (i : ℕ) → i < count bs r → length (shape bs r i) ≤ 32

-- it is rule q's turn in a routine: the rules before it hold everywhere, and these are the routine's rows of the sheet
pub record InTurn (q : Rule) (t : Routine) (rows : List ShapeRow) : Type 0 where
  pub earlier : EarlierHold q (bytes_in t)
  pub filled : rows ≡ routine_rows (bytes_in t) t.index
