use Rattle.std.proofs.Common.{refl}
use Rattle.machine.specs.Nested.{running_routine, waiting}
use Rattle.machine.proofs.stack.Stack.first.Goals as goal

pub returns : goal.returns
unfolding running_routine waiting
returns c = record { running = c.new.ensures; waiting = refl }
