-- What check answers, and what it leaves in the sheet.
use Rattle.std.specs.Prelude.{ℕ, cond, ◌&&◌, List, [], ◌∷◌, ◌++◌, length, drop, replicate, is_ok, Ok, Err, Option, Result, nat_le}
use Rattle.std.specs.Result.{result_and}
use Rattle.refusal.specs.Values.{Values, author_at, caller}
use Rattle.refusal.specs.declared.Place.{Place}
use Rattle.module.specs.declared.rule.Rule.{Rule}
use Rattle.module.specs.declared.shape.ShapeRow.{ShapeRow}
use Rattle.module.specs.First.{first_failing, first_place}
use Rattle.module.specs.Layout.{routines, count, total, opening, provided, unless}
use Rattle.module.specs.Rules.{holds, rule_number, rules}
use Rattle.module.specs.Shape.{rows_before}

-- the first instruction of routine r that breaks the rule
abbrev pub breach_in : Rule → List ℕ → ℕ → Option ℕ
breach_in q bs r = first_failing (holds q bs r) (count bs r) 0

-- the first place that breaks the rule, in so many routines from r on
abbrev pub breach : Rule → List ℕ → ℕ → ℕ → Option Place
breach q bs left r = first_place (holds q bs) (count bs) left r

-- the next rule, unless this one is broken
abbrev pub or_next : Rule → Option Place → Result (Unit {0}) Values → Result (Unit {0}) Values
or_next q place next = unless (author_at (rule_number q)) place next

-- what rules in turn answer, each tried over the whole module
abbrev pub tried : List Rule → List ℕ → Result (Unit {0}) Values
tried [] bs = Ok tt
tried (q ∷ qs) bs = or_next q (breach q bs (routines bs) 0) (tried qs bs)

-- what check answers over a sheet of so many rows; of bytes that do not open, what open answers
abbrev pub checking : List ℕ → ℕ → Result (Unit {0}) Values
checking bs rows = result_and (opening bs) (provided (nat_le (total bs) rows) (caller 12) (tried rules bs))

-- a row that is cleared
abbrev pub blank : ShapeRow
blank = record { depth = 0; mask = 0 }

-- the first rows of the sheet after the rules were tried: the shape at every instruction, or cleared rows if a rule is broken
abbrev pub first_rows : List ℕ → Result (Unit {0}) Values → List ShapeRow
first_rows bs (Ok u) = rows_before bs (routines bs)
first_rows bs (Err e) = replicate (total bs) blank

-- the sheet after check, as it was where the bytes do not open or it is too short
abbrev pub sheet_after : List ℕ → List ShapeRow → List ShapeRow
sheet_after bs sheet =
    cond (is_ok (opening bs) && nat_le (total bs) (length sheet)) (first_rows bs (tried rules bs) ++ drop (total bs) sheet) sheet
