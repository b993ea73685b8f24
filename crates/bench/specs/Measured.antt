-- What bench prints of a module, from the log of its run.
use Rattle.std.specs.Prelude.{◌≡◌, ℕ, List, [], ◌∷◌, ◌++◌, Ok, Err, Result}
use Rattle.std.specs.List.{flat_map}
use Rattle.refusal.specs.Text.{refused}
use Rattle.refusal.specs.Values.{Values}
use Rattle.host.specs.declared.port.Port.{Port}
use Rattle.host.specs.Axis.{axis_rule, new_axis}
use Rattle.module.specs.Verdict.{checking}
use Rattle.drive.specs.declared.call.Call.{Call}
use Rattle.drive.specs.declared.call.Call.TheVariants.{Grant}
use Rattle.drive.specs.Log.{Log, new_log, log_after, answers, fault_list}
use Rattle.machine.specs.World.{Phase}
use Rattle.machine.specs.Fuel.{TickRule}
use Rattle.bench.specs.Text.{line, answer_text, port_lines, fault_lines}

-- the lines of answers, and then those of the ports and of the faults of a log
abbrev pub log_text : List (Result (ℕ × Phase) Values) → Log → List ℕ
log_text answers l = flat_map (λ answer. line (answer_text answer)) answers ++ (port_lines 0 l.world.ports ++ fault_lines (fault_list l.entries))

-- the lines of calls to a new drive of the module bs, over a host with this tick rule and these first ports
abbrev pub run_text : List ℕ → TickRule → List Port → List Call → List ℕ
run_text bs rule first calls = log_text (answers bs rule calls (new_log bs first)) (log_after bs rule calls (new_log bs first))

-- a text, or the line of the refusal in its place where there is one
abbrev pub or_refusal : Result (Unit {0}) Values → List ℕ → List ℕ
or_refusal (Ok u) text = text
or_refusal (Err e) text = line (refused e)

-- the same, where the module is opened and checked first, over a sheet of so many rows
abbrev pub module_text : List ℕ → ℕ → TickRule → List Port → List Call → List ℕ
module_text bs rows rule first calls = or_refusal (checking bs rows) (run_text bs rule first calls)

-- what bench prints: a grant of 10,000 over a new axis, with as many rows as the longest module has instructions
abbrev pub printed : List ℕ → List ℕ
printed bs = module_text bs 4096 axis_rule new_axis (Grant 10000 ∷ [])

-- These bytes decide what is printed: however an input goes on after them, it is the same.
abbrev pub DecidedBy : List ℕ → Type 0
DecidedBy bs = (more : List ℕ) → printed (bs ++ more) ≡ printed bs
