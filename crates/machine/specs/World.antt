-- The machine of the rules: what runs, where a step has a rule, and what the step does.
use Rattle.std.specs.Prelude.{ℕ, ◌+◌, ◌-◌, Bool, true, false, cond, not, ◌&&◌, ◌||◌, List, [], ◌∷◌, ◌++◌, map, length, take, Some, None, Ok, Err, Option, Result, ◌==◌, nat_lt}
use Rattle.refusal.specs.Values.{Values}
use Rattle.isa.specs.declared.instr.Instr.{Instr}
use Rattle.isa.specs.declared.instr.Instr.TheVariants.{New, Def, Kill, Mov, Swap, Calc, Divide, Load, Store, Bal, Branch, Call, Ret, Get, Put, Tick}
use Rattle.isa.specs.Access.{callee}
use Rattle.words.specs.Words.{calculated, divided, passing}
use Rattle.module.specs.Layout.{arguments, results}
use Rattle.module.specs.Places.{instr_at}
use Rattle.module.specs.Rules.{stacks, calls, access_in, registers, constants}
use Rattle.host.specs.declared.port.Port.{Port}
use Rattle.host.specs.Ports.{reading, writing, written}
use Rattle.faults.specs.Causes.{CauseValues, Trip, by_engine}
use Rattle.machine.specs.declared.frame.Register.{Register}
use Rattle.machine.specs.declared.frame.Register.TheVariants.{Variable, Constant}
use Rattle.machine.specs.Level.{Level, level, is_constant, value, onward, wrote, swapped, jumped, copied, values_from, given}
use Rattle.machine.specs.Memory.{fits, loading, stored}

-- A phase: a machine runs, or has ended, or has tripped, with the five numbers of the trip.
pub data Phase : Type 0 where
  running : Phase
  ended : Phase
  tripped : Trip → Phase

-- A world is what runs on a module: its phase, the nested routines, the running one first, memory, and the ports of the host.
pub record World : Type 0 where
  pub phase : Phase
  pub levels : List Level
  pub memory : List ℕ
  pub ports : List Port

-- the world of these four
abbrev pub world : Phase → List Level → List ℕ → List Port → World
world phase levels memory ports = record { phase = phase; levels = levels; memory = memory; ports = ports }

-- A move is what an instruction comes to: the run goes on with these routines, memory and ports, or ends, or trips for a cause.
pub data Move : Type 0 where
  goes : List Level → List ℕ → List Port → Move
  ends : Move
  trips : CauseValues → Move

-- what follows of a value, or a trip for this cause where there is none
abbrev pub or_trip : Option ℕ → CauseValues → (ℕ → Move) → Move
or_trip (Some v) cause next = next v
or_trip None cause next = trips cause

-- what follows of the host's answer, or a trip for its refusal, with the port as its detail
abbrev pub or_refused : {X : Type 0} → Result X Values → ℕ → (X → Move) → Move
or_refused (Ok x) port next = next x
or_refused (Err e) port next = trips (record { number = e.number; layer = e.layer; detail = port })

-- where the instruction at which a routine waits wants its results: from the first register on that it writes; 0 where there is none
unfoldable pub into : List ℕ → ℕ → Option Instr → ℕ
into bs r None = 0
into bs r (Some x) = (access_in bs r x).writes.0.first

-- the routine that a call begins, with its arguments from register b of the caller on
unfoldable pub entered : List ℕ → ℕ → ℕ → Level → Level
entered bs b n l = level n 0 (copied l.registers b (arguments bs n))

-- a routine that waited goes on with these results
unfoldable pub resumed : List ℕ → Level → List ℕ → Level
resumed bs g vs = onward g (given g.registers (into bs g.routine (instr_at bs g.routine g.pc)) vs)

-- these results go back to the newest of the routines that wait; the run ends where none waits
unfoldable pub handed : List ℕ → List ℕ → List Level → List ℕ → List Port → Move
handed bs vs [] memory ports = ends
handed bs vs (g ∷ gs) memory ports = goes (resumed bs g vs ∷ gs) memory ports

-- What an instruction of the module bs does in the routine l, while the routines ls wait, over a host with this tick rule. A
-- waiting routine stands at its CALL.
unfoldable pub effect : List ℕ → (List Port → List Port) → Instr → Level → List Level → List ℕ → List Port → Move
effect bs rule New l ls memory ports = goes (onward l (l.registers ++ (Variable 0 ∷ [])) ∷ ls) memory ports
effect bs rule (Def n) l ls memory ports = goes (onward l (l.registers ++ (Constant n ∷ [])) ∷ ls) memory ports
effect bs rule Kill l ls memory ports = goes (onward l (take (length l.registers - 1) l.registers) ∷ ls) memory ports
effect bs rule (Mov a b) l ls memory ports = goes (wrote l a (value l b) ∷ ls) memory ports
effect bs rule (Swap a b) l ls memory ports = goes (swapped l a b ∷ ls) memory ports
effect bs rule (Calc o a b c) l ls memory ports = goes (wrote l a (calculated o (value l b) (value l c)) ∷ ls) memory ports
effect bs rule (Divide p k a b c) l ls memory ports =
    or_trip (divided p k (value l b) (value l c)) (by_engine 1 0) (λ v. goes (wrote l a v ∷ ls) memory ports)
effect bs rule (Load w a b n) l ls memory ports =
    or_trip (loading memory (value l b + n) w) (by_engine 2 (value l b + n)) (λ v. goes (wrote l a v ∷ ls) memory ports)
effect bs rule (Store w a b n) l ls memory ports =
    cond (fits (value l b + n) w)
    (goes (onward l l.registers ∷ ls) (stored memory (value l b + n) w (value l a)) ports)
    (trips (by_engine 2 (value l b + n)))
effect bs rule (Bal n) l ls memory ports = goes (jumped l n ∷ ls) memory ports
effect bs rule (Branch t a b n) l ls memory ports =
    goes (cond (passing t (value l a) (value l b)) (jumped l n) (onward l l.registers) ∷ ls) memory ports
effect bs rule (Call a b n) l ls memory ports =
    cond (nat_lt (length ls) 31) (goes (entered bs b n l ∷ (l ∷ ls)) memory ports) (trips (by_engine 3 0))
effect bs rule (Ret a) l ls memory ports =
    cond (l.routine == 0) ends (handed bs (values_from l.registers a (results bs l.routine)) ls memory ports)
effect bs rule (Get a c) l ls memory ports = or_refused (reading ports c) c (λ v. goes (wrote l a v ∷ ls) memory ports)
effect bs rule (Put b c) l ls memory ports =
    or_refused (writing ports c (value l b)) c (λ _. goes (onward l l.registers ∷ ls) memory (written ports c (value l b)))
effect bs rule Tick l ls memory ports = goes (onward l l.registers ∷ ls) memory (rule ports)

-- the shape of registers: which of them are constants
abbrev pub shape_of : List Register → List Bool
shape_of rs = map is_constant rs

-- an instruction of routine r has a rule at registers of this shape: KILL finds a register, NEW and DEF find at most 31, CALL names
-- a routine that there is, every register that is read or written is there, and no constant is written
unfoldable pub allowed : List ℕ → ℕ → Instr → List Bool → Bool
allowed bs r x s = stacks (length s) x && (calls bs x && (registers bs r (length s) x && constants bs r s x))

-- there is an instruction, and it has a rule at the registers of the routine l
unfoldable pub allowed_at : List ℕ → Level → Option Instr → Bool
allowed_at bs l None = false
allowed_at bs l (Some x) = allowed bs l.routine x (shape_of l.registers)

-- the instruction at which a routine stands; none if there is no such place, or the row there is not well formed
abbrev pub here : List ℕ → Level → Option Instr
here bs l = instr_at bs l.routine l.pc

-- a routine is called, and it is routine r
abbrev pub is_callee : ℕ → Option ℕ → Bool
is_callee r None = false
is_callee r (Some n) = n == r

-- there is an instruction, and it calls routine r
unfoldable pub calls_routine : ℕ → Option Instr → Bool
calls_routine r None = false
calls_routine r (Some x) = is_callee r (callee x)

-- the newest of the routines that wait stands at a call of routine r that has a rule there
unfoldable pub awaited : List ℕ → ℕ → List Level → Bool
awaited bs r [] = false
awaited bs r (g ∷ gs) = allowed_at bs g (here bs g) && calls_routine r (here bs g)

-- there is an instruction, and it is RET
unfoldable pub is_return : Option Instr → Bool
is_return None = false
is_return (Some New) = false
is_return (Some (Def n)) = false
is_return (Some Kill) = false
is_return (Some (Mov a b)) = false
is_return (Some (Swap a b)) = false
is_return (Some (Calc o a b c)) = false
is_return (Some (Divide p k a b c)) = false
is_return (Some (Load w a b n)) = false
is_return (Some (Store w a b n)) = false
is_return (Some (Bal n)) = false
is_return (Some (Branch t a b n)) = false
is_return (Some (Call a b n)) = false
is_return (Some (Ret a)) = true
is_return (Some (Get a c)) = false
is_return (Some (Put b c)) = false
is_return (Some Tick) = false

-- The routine l has a step while ls wait: it stands at an instruction of its routine that is well formed and has a rule
-- there. RET needs a routine that waits for it, unless it is in routine 0.
unfoldable pub able : List ℕ → Level → List Level → Bool
able bs l ls =
    allowed_at bs l (here bs l)
    && (not (is_return (here bs l)) || (l.routine == 0 || awaited bs l.routine ls))

-- the trip for a cause, where the routine l stands
abbrev pub trip_at : CauseValues → Level → Trip
trip_at cause l = record { cause = cause.number; layer = cause.layer; routine = l.routine; instruction = l.pc; detail = cause.detail }

-- The world w after the move of its running routine l. A trip leaves all but the phase as it was; after the end no routine is left.
unfoldable pub after : World → Level → Move → World
after w l (goes levels memory ports) = world running levels memory ports
after w l ends = world ended [] w.memory w.ports
after w l (trips cause) = world (tripped (trip_at cause l)) w.levels w.memory w.ports

-- what the instruction at which a routine stands comes to; where there is none the definition says the end, and no step shows it
abbrev pub effect_here : List ℕ → (List Port → List Port) → Option Instr → Level → List Level → List ℕ → List Port → Move
effect_here bs rule None l ls memory ports = ends
effect_here bs rule (Some x) l ls memory ports = effect bs rule x l ls memory ports

-- one step where these routines are nested, the running one first; none if there is none, or if it has no step
unfoldable pub step_in : List ℕ → (List Port → List Port) → World → List Level → Option World
step_in bs rule w [] = None
step_in bs rule w (l ∷ ls) =
    cond (able bs l ls) (Some (after w l (effect_here bs rule (here bs l) l ls w.memory w.ports))) None

-- the next world while a machine runs; none after the end or a trip
abbrev pub while_running : Phase → Option World → Option World
while_running running next = next
while_running ended next = None
while_running (tripped trip) next = None

-- one step of a world; none where it does not run, or where no rule has a step
unfoldable pub step : List ℕ → (List Port → List Port) → World → Option World
step bs rule w = while_running w.phase (step_in bs rule w w.levels)
