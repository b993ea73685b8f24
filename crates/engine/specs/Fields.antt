-- What is written: numbers of some bytes each.
use Rattle.std.specs.Prelude.{◌≡◌, ℕ, List, [], ◌∷◌, ◌++◌, take, Ok, Err, Result, Option, Some, None, unwrap_or}
use Rattle.std.specs.List.{flat_map}
use Rattle.std.specs.Int.{w16, w32, w64, to_le_bytes}
use Rattle.refusal.specs.declared.Place.{Place}
use Rattle.refusal.specs.Values.{Values}
use Rattle.isa.specs.declared.row.Row.{Row}
use Rattle.module.specs.declared.entry.Entry.{Entry}
use Rattle.module.specs.declared.shape.ShapeRow.{ShapeRow}
use Rattle.host.specs.declared.port.Port.{Port}
use Rattle.host.specs.Ports.{by_flag}
use Rattle.faults.specs.Causes.{Trip}
use Rattle.faults.specs.Faults.{FaultValues}
use Rattle.machine.specs.World.{Phase, running, ended, tripped}
use Rattle.engine.specs.declared.field.Field.{Field}
use Rattle.engine.specs.declared.field.Field.TheVariants.{One, Two, Four, Eight}

-- a number has its lowest byte first
abbrev pub field_bytes : Field → List ℕ
field_bytes (One v) = v ∷ []
field_bytes (Two v) = to_le_bytes w16 v
field_bytes (Four v) = to_le_bytes w32 v
field_bytes (Eight v) = to_le_bytes w64 v

-- numbers, one after the other
abbrev pub fields_bytes : List Field → List ℕ
fields_bytes fields = flat_map field_bytes fields

-- a refusal by its four numbers
abbrev pub refusal_fields : Values → List Field
refusal_fields e = One e.number ∷ One e.layer ∷ Two e.routine ∷ Two e.instruction ∷ []

-- a 1, and the refusal
abbrev pub refused_fields : Values → List Field
refused_fields e = One 1 ∷ refusal_fields e

-- a trip: its cause, its place and its detail
abbrev pub trip_fields : Trip → List Field
trip_fields t = One t.cause ∷ One t.layer ∷ Two t.routine ∷ Two t.instruction ∷ Eight t.detail ∷ []

-- a state: 0 running, 1 ended, 2 tripped, with the trip
abbrev pub state_fields : Phase → List Field
state_fields running = One 0 ∷ []
state_fields ended = One 1 ∷ []
state_fields (tripped t) = One 2 ∷ trip_fields t

-- what a call answered: the steps and the state, or a refusal
abbrev pub answer_fields : Result (ℕ × Phase) Values → List Field
answer_fields (Ok answer) = One 0 ∷ Four answer.0 ∷ state_fields answer.1
answer_fields (Err e) = refused_fields e

-- where the next instruction stands, or the refusal
abbrev pub place_fields : Result Place Values → List Field
place_fields (Ok place) = One 0 ∷ Two place.routine ∷ Two place.instruction ∷ []
place_fields (Err e) = refused_fields e

-- a fault of the list: its trip, and its mark
abbrev pub fault_fields : FaultValues → List Field
fault_fields f = One f.cause ∷ One f.layer ∷ Two f.routine ∷ Two f.instruction ∷ Eight f.detail ∷ One f.mark ∷ []

-- 1 for a rest value, and 0 for none
abbrev pub has_rest : Option ℕ → ℕ
has_rest None = 0
has_rest (Some v) = 1

-- a row of a table; without a rest value 0 stands for it
abbrev pub row_fields : Port → List Field
row_fields p = Four p.value ∷ Four p.low ∷ Four p.high ∷ One (by_flag p.flag 0 1) ∷ One (has_rest p.rest) ∷ Four (unwrap_or p.rest 0) ∷ []

-- what was answered to a call, where anything was
abbrev pub said_fields : Option (Result (ℕ × Phase) Values) → List Field
said_fields None = []
said_fields (Some answer) = answer_fields answer

-- a row of a sheet: the depth, and the mask
abbrev pub shape_fields : ShapeRow → List Field
shape_fields row = Two row.depth ∷ Four row.mask ∷ []

-- an entry
abbrev pub entry_fields : Entry → List Field
entry_fields e = Two e.count ∷ One e.arguments ∷ One e.results ∷ []

-- an instruction as it stands in a module: its opcode and its fields
abbrev pub instruction_fields : Row → List Field
instruction_fields r = One r.op ∷ One r.a ∷ One r.b ∷ One r.c ∷ Four r.n ∷ []

-- how many bytes are written at most; what comes after them is left out
abbrev pub room : ℕ
room = 40960

-- a text with more behind it, as much as there is room for
abbrev pub added : List ℕ → List ℕ → List ℕ
added before more = take room (before ++ more)

-- After is before with more added: whatever is added next stands behind it.
abbrev pub Added : List ℕ → List ℕ → List ℕ → Type 0
Added before more after = (next : List ℕ) → added after next ≡ added before (more ++ next)
