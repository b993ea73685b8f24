-- The parts of a machine as the rules see them.
use Rattle.std.specs.Prelude.{List, [], ◌∷◌}
use Rattle.host.specs.declared.port.Port.{Port}
use Rattle.faults.specs.Causes.{trip_of}
use Rattle.machine.specs.declared.machine.State.{State}
use Rattle.machine.specs.declared.machine.State.TheVariants.{Running, Ended, Tripped}
use Rattle.machine.specs.declared.memory.Memory.{Memory}
use Rattle.machine.specs.declared.stack.Stack.{Stack}
use Rattle.machine.specs.Level.{Level}
use Rattle.machine.specs.Nested.{running_routine, waiting}
use Rattle.machine.specs.World.{Phase, running, ended, tripped, World, world}

-- the phase of a machine in this state
abbrev pub phase_of : State → Phase
phase_of Running = running
phase_of Ended = ended
phase_of (Tripped cause place) = tripped (trip_of cause place)

-- the nested routines of a machine in this state, the running one first; after the end none is left
abbrev pub levels_in : State → Stack → List Level
levels_in Running stack = running_routine stack ∷ waiting stack
levels_in Ended stack = []
levels_in (Tripped cause place) stack = running_routine stack ∷ waiting stack

-- the world of a machine of these parts, with the ports of its host
abbrev pub world_from : State → Stack → Memory → List Port → World
world_from state stack memory ports = world (phase_of state) (levels_in state stack) memory.bytes ports
