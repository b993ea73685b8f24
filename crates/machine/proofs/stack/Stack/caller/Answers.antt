use Rattle.std.proofs.Common.{sym, arith}
use Rattle.machine.proofs.Frames.{some_waits, first_waiting}
use Rattle.machine.proofs.stack.Stack.caller.Goals as goal

pub overflow_sub-result : goal.overflow_sub-result
overflow_sub-result c = some_waits c.args.self.now c.requires

pub returns : goal.returns
returns c =
    let s = c.args.self.now in
    sym (first_waiting s c.index-self-self.result (some_waits s c.requires) (omega arith))
