-- The whole of what is written, and what becomes of the place that it is written to.
use Rattle.std.specs.Prelude.{ℕ, ◌/◌, ◌%◌, List, [], ◌∷◌, ◌++◌, map, length, take, drop, Ok, Err, Result, min, cond, nat_lt}
use Rattle.std.specs.List.{flat_map}
use Rattle.std.specs.Option.{option_map, unwrap_or}
use Rattle.refusal.specs.Values.{Values}
use Rattle.host.specs.declared.port.Port.{Port}
use Rattle.host.specs.Axis.{axis_rule, new_axis}
use Rattle.host.specs.Ports.{most_ports}
use Rattle.host.specs.Table.{table_rule}
use Rattle.module.specs.declared.shape.ShapeRow.{ShapeRow}
use Rattle.module.specs.declared.opened.Counts.{Counts}
use Rattle.module.specs.Layout.{counts}
use Rattle.module.specs.Verdict.{checking, sheet_after}
use Rattle.faults.specs.Faults.{FaultValues}
use Rattle.machine.specs.Level.{Level, value_of}
use Rattle.machine.specs.Shown.{running_in}
use Rattle.machine.specs.World.{Phase, World}
use Rattle.machine.specs.Fuel.{TickRule}
use Rattle.drive.specs.declared.call.Call.{Call}
use Rattle.drive.specs.Log.{Log, new_log, log_after, answers, fault_list}
use Rattle.drive.specs.Questions.{asked, place_in, depth_in}
use Rattle.engine.specs.declared.field.Field.{Field}
use Rattle.engine.specs.declared.field.Field.TheVariants.{One, Two, Four}
use Rattle.engine.specs.Given.{calls_in, rows_in}
use Rattle.engine.specs.Fields.{fields_bytes, refused_fields, state_fields, answer_fields, place_fields, fault_fields, row_fields, shape_fields, room}
use Rattle.engine.specs.Lent.{lent, lent_shape}

-- the values of the running routine's registers
abbrev pub registers_in : List Level → List ℕ
registers_in levels = unwrap_or (option_map (λ l. map value_of l.registers) (running_in levels)) []

-- the lowest byte of the depth, which is 32 at most, and the registers of the running routine
abbrev pub register_fields : List Level → List Field
register_fields levels = One (depth_in levels % 256) ∷ map Four (registers_in levels)

-- the lowest byte of how many faults there are, sixteen at most, and the faults
abbrev pub faults_fields : List FaultValues → List Field
faults_fields faults = One (length faults % 256) ∷ flat_map fault_fields faults

-- the value of a port
abbrev pub value_field : Port → Field
value_field p = Four p.value

-- how many ports there are, and their values
abbrev pub port_fields : List Port → List Field
port_fields ports = Two (length ports % 65536) ∷ map value_field ports

-- memory has this size
abbrev pub memory_size : ℕ
memory_size = 4096

-- state, place, registers and memory of a world, and then faults
abbrev pub world_fields : World → List FaultValues → List Field
world_fields w faults =
    state_fields w.phase
    ++ (place_fields (asked (place_in w.levels))
    ++ (register_fields w.levels
    ++ (map One (take memory_size w.memory)
    ++ faults_fields faults)))

-- how many calls were made, and what each of them answered
abbrev pub answers_fields : List (Result (ℕ × Phase) Values) → List Field
answers_fields answers = Four (length answers % 4294967296) ∷ flat_map answer_fields answers

-- answers, and then the world, the faults and the ports of a log
abbrev pub log_fields : List (Result (ℕ × Phase) Values) → Log → List Field
log_fields answers l = answers_fields answers ++ (world_fields l.world (fault_list l.entries) ++ port_fields l.world.ports)

-- of calls to a new drive of the module bs, over a host with this tick rule and these first ports
abbrev pub run_fields : List ℕ → TickRule → List Port → List Call → List Field
run_fields bs rule first calls = log_fields (answers bs rule calls (new_log bs first)) (log_after bs rule calls (new_log bs first))

-- a 0 and these numbers, or the refusal
abbrev pub unless_refused : Result (Unit {0}) Values → List Field → List Field
unless_refused (Ok u) fields = One 0 ∷ fields
unless_refused (Err e) fields = refused_fields e

-- N, T and D of a module
abbrev pub counts_fields : Counts → List Field
counts_fields c = Four (c.routines % 4294967296) ∷ Four (c.total % 4294967296) ∷ Four (c.image % 4294967296) ∷ []

-- the most rows of a sheet
abbrev pub most_rows : ℕ
most_rows = 4096

-- what check answers of bs over so many rows: N, T and D, or the refusal
abbrev pub verdict_fields : List ℕ → ℕ → List Field
verdict_fields bs rows = unless_refused (checking bs rows) (counts_fields (counts bs))

-- of bs that is checked over this sheet: the answer, and all rows as they are then
abbrev pub sheet_fields : List ℕ → List ShapeRow → List Field
sheet_fields bs sheet = verdict_fields bs (length sheet) ++ flat_map shape_fields (sheet_after bs sheet)

-- what bench_check writes, of so many rows that are lent
abbrev pub checked_fields : List ℕ → ℕ → List Field
checked_fields bs rows = sheet_fields bs (lent lent_shape most_rows rows)

-- the most calls that are read
abbrev pub most_calls : ℕ
most_calls = 256

-- the calls that stand in these bytes; what is left at the end makes no call
abbrev pub given_calls : List ℕ → List Call
given_calls bs = calls_in bs (min (length bs / 5) most_calls)

-- the most rows of a table that are read
abbrev pub most_given_rows : ℕ
most_given_rows = 512

-- the rows that stand in these bytes
abbrev pub given_rows : List ℕ → List Port
given_rows bs = rows_in bs (min (length bs / 18) most_given_rows)

-- what calls to a drive of bs write, over a new axis
abbrev pub axis_fields : List ℕ → List Call → List Field
axis_fields bs calls = unless_refused (checking bs most_rows) (run_fields bs axis_rule new_axis calls)

-- and over a table of these rows, which stand behind; rows past the ports stay as they are
abbrev pub table_fields : List ℕ → List Port → List Call → List Field
table_fields bs rows calls =
    unless_refused (checking bs most_rows)
    (run_fields bs table_rule (take most_ports rows) calls
    ++ flat_map row_fields ((log_after bs table_rule calls (new_log bs (take most_ports rows))).world.ports ++ drop most_ports rows))

-- no byte stands for a new axis, and otherwise the bytes after the first for a table
abbrev pub host_fields : List ℕ → List ℕ → List Call → List Field
host_fields bs host calls = cond (nat_lt 0 (length host)) (table_fields bs (given_rows (drop 1 host)) calls) (axis_fields bs calls)

-- what bench_run writes, by the bytes that it is given
abbrev pub ran_fields : List ℕ → List ℕ → List ℕ → List Field
ran_fields bs host calls = host_fields bs host (given_calls calls)

-- as much of what is to be written as fits
abbrev pub fitting : List ℕ → List Field → List ℕ
fitting out fields = take (length out) (take room (fields_bytes fields))

-- the output afterwards: what fits stands at its start, and all beyond it stays
abbrev pub laid : List ℕ → List Field → List ℕ
laid out fields = fitting out fields ++ drop (length (fitting out fields)) out
