-- The four numbers of a refusal, by which every promise speaks of it.
use Rattle.std.specs.Prelude.{ℕ, Option, Result}
use Rattle.std.specs.Option.{unwrap_or}
use Rattle.std.specs.Result.{result_map_both}
use Rattle.refusal.specs.declared.Layer.{Layer}
use Rattle.refusal.specs.declared.Layer.TheVariants.{Caller, Author, Engine, Host}
use Rattle.refusal.specs.declared.Place.{Place}
use Rattle.refusal.specs.declared.Refusal.{Refusal}
use Rattle.refusal.specs.declared.Refusal.TheVariants.{Truncated, Counts, Entry, Length, Form, Stack, Callee, Register, Constant, Target, Ending, Sheet, Room, Fuel, Ended, Tripped, Running, Absent}

-- Routine and instruction are 0 where the refusal has no place; a wrong entry has its routine, and instruction 0.
pub record Values : Type 0 where
  pub number : ℕ
  pub layer : ℕ
  pub routine : ℕ
  pub instruction : ℕ

abbrev pub layer_number : Layer → ℕ
layer_number Caller = 0
layer_number Author = 1
layer_number Engine = 2
layer_number Host = 3

-- the place 0 0 stands for none
abbrev pub placed : Option Place → Place
placed place = unwrap_or place (record { routine = 0; instruction = 0 })

-- a refusal that the module's author causes, of this number, at this routine and instruction
abbrev pub author : ℕ → ℕ → ℕ → Values
author number routine instruction = record { number = number; layer = layer_number Author; routine = routine; instruction = instruction }

-- the same, at a place
abbrev pub author_at : ℕ → Place → Values
author_at number place = author number place.routine place.instruction

-- a refusal that the caller causes: it has no place
abbrev pub caller : ℕ → Values
caller number = record { number = number; layer = layer_number Caller; routine = 0; instruction = 0 }

-- the four numbers of each refusal
abbrev pub values_of : Refusal → Values
values_of Truncated = author 1 0 0
values_of Counts = author 2 0 0
values_of (Entry routine) = author 3 routine 0
values_of Length = author 4 0 0
values_of (Form p) = author_at 5 p
values_of (Stack p) = author_at 6 p
values_of (Callee p) = author_at 7 p
values_of (Register p) = author_at 8 p
values_of (Constant p) = author_at 9 p
values_of (Target p) = author_at 10 p
values_of (Ending p) = author_at 11 p
values_of Sheet = caller 12
values_of Room = caller 13
values_of Fuel = caller 14
values_of Ended = caller 15
values_of Tripped = caller 16
values_of Running = caller 17
values_of Absent = caller 18

-- an answer, with a refusal by its four numbers
abbrev pub told : {X : Type 0} → Result X Refusal → Result X Values
told answer = result_map_both (λ x. x) values_of answer
