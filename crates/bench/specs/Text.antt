-- The lines that bench prints, byte by byte, each with its end.
use Rattle.std.specs.Prelude.{ℕ, ◌+◌, List, [], ◌∷◌, ◌++◌, Ok, Err, codes, decimal, Result}
use Rattle.std.specs.List.{flat_map}
use Rattle.refusal.specs.Text.{three, refused}
use Rattle.refusal.specs.Values.{Values}
use Rattle.host.specs.declared.port.Port.{Port}
use Rattle.faults.specs.Faults.{FaultValues}
use Rattle.machine.specs.World.{Phase, running, ended, tripped}

-- a text with the end of its line
abbrev pub line : List ℕ → List ℕ
line text = text ++ codes "\n"

-- a number, after a space
abbrev pub number_text : ℕ → List ℕ
number_text n = codes " " ++ decimal n

-- a state, in one word
abbrev pub state_text : Phase → List ℕ
state_text running = codes "running"
state_text ended = codes "ended"
state_text (tripped trip) = codes "tripped"

-- what a call answered: the state with the steps, or the refusal
abbrev pub answer_text : Result (ℕ × Phase) Values → List ℕ
answer_text (Ok answer) = state_text answer.1 ++ number_text answer.0
answer_text (Err e) = refused e

-- `port`, its number and its value
abbrev pub port_text : ℕ → ℕ → List ℕ
port_text p value = codes "port" ++ (number_text p ++ number_text value)

-- the lines of ports, from port p on
abbrev pub port_lines : ℕ → List Port → List ℕ
port_lines p [] = []
port_lines p (port ∷ ports) = line (port_text p port.value) ++ port_lines (p + 1) ports

-- `fault` and its six numbers
abbrev pub fault_text : FaultValues → List ℕ
fault_text fault = codes "fault" ++ (three fault.cause fault.layer fault.routine ++ three fault.instruction fault.detail fault.mark)

-- the lines of faults, in the order of the list
abbrev pub fault_lines : List FaultValues → List ℕ
fault_lines faults = flat_map (λ fault. line (fault_text fault)) faults
