use Rattle.std.proofs.Common.{sym, arith}
use Rattle.machine.proofs.Frames.{running_is}
use Rattle.machine.proofs.stack.Stack.running.Goals as goal

pub returns : goal.returns
returns c = sym (running_is c.args.self.now c.index-self-self.result (omega arith))
