-- An opened module in the terms of the layout.
use Rattle.std.specs.Prelude.{ℕ, List, Result}
use Rattle.std.specs.Result.{result_map_both}
use Rattle.refusal.specs.Values.{Values, values_of}
use Rattle.refusal.specs.declared.Refusal.{Refusal}
use Rattle.isa.specs.declared.row.Row.{Row}
use Rattle.module.specs.Layout.{row_from}
use Rattle.module.specs.declared.body.Body.{Body}
use Rattle.module.specs.declared.contents.Contents.{Contents}
use Rattle.module.specs.declared.contents.RowAt.{RowAt}
use Rattle.module.specs.declared.opened.Counts.{Counts}
use Rattle.module.specs.declared.opened.Opened.{Opened}
use Rattle.module.specs.declared.refused.Refused.{Refused}
use Rattle.module.specs.declared.routine.Routine.{Routine}

-- the bytes that it shows
abbrev pub bytes_of : Opened → List ℕ
bytes_of o = o.bytes.now

-- the bytes of the module that a routine is of
abbrev pub bytes_in : Routine → List ℕ
bytes_in t = bytes_of t.module.now

-- the bytes of the module that a body is of, and which of its routines that is
abbrev pub bytes_behind : Body → List ℕ
bytes_behind t = t.bytes.now

abbrev pub routine_of : Body → ℕ
routine_of t = t.routine

-- the bytes of which entries and rows are read
abbrev pub bytes_read : Contents → List ℕ
bytes_read t = t.bytes.now

-- the row that begins at a byte
abbrev pub row_of : RowAt → Row
row_of t = row_from t.bytes.now t.at

-- an answer without what it gives, with a refusal by its four numbers
abbrev pub verdict_of : {X : Type 0} → Result X Refusal → Result (Unit {0}) Values
verdict_of answer = result_map_both (λ _. tt) values_of answer

-- the same of an answer of check
abbrev pub verdict_on : {X M : Type 0} → Result X (Refused M) → Result (Unit {0}) Values
verdict_on answer = result_map_both (λ _. tt) (λ r. values_of r.refusal) answer

-- an answer of open, with the module by its counts and a refusal by its four numbers
abbrev pub by_counts : Result Opened Refusal → Result Counts Values
by_counts answer = result_map_both (λ (o : Opened). o.counts) values_of answer
