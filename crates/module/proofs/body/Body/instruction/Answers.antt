use Rattle.std.proofs.Common.{sym, arith}
use Rattle.module.proofs.At.{no_instruction}
use Rattle.module.proofs.body.Body.instruction.Goals as goal

pub returns-then-i-count : goal.returns-then-i-count
returns-then-i-count c =
    let t = c.args.self in
    sym (no_instruction t.bytes.now t.routine c.args.i (omega (arith, c.count.ensures)))
