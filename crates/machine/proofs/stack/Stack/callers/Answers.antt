use Rattle.std.proofs.Common.{sym}
use Rattle.machine.specs.Nested.{waiting}
use Rattle.machine.proofs.Frames.{length-below}
use Rattle.machine.proofs.stack.Stack.callers.Goals as goal

pub returns : goal.returns
unfolding waiting
returns c = sym (length-below c.args.self.now.frames c.args.self.now.top.index)
