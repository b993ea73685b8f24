use Rattle.std.proofs.Common.{sym, ap, ◌∙◌, arith}
use Rattle.isa.specs.Form.{decoded}
use Rattle.module.specs.Told.{bytes_in}
use Rattle.module.proofs.At.{an_instruction, no_instruction}
use Rattle.module.proofs.Opens.{routine_in}
use Rattle.module.proofs.routine.Routine.instr.Goals as goal

pub returns-then-instruction-count-clause-anywhere : goal.returns-then-instruction-count-clause-anywhere
returns-then-instruction-count-clause-anywhere c =
    let t = c.args.self.now in sym (no_instruction (bytes_in t) t.index c.args.instruction (omega (arith, c.count.ensures)))

pub returns-clause-anywhere : goal.returns-clause-anywhere
returns-clause-anywhere c =
    let t = c.args.self.now in
    c.decode.ensures ∙ ap decoded c.row.ensures
    ∙ sym (an_instruction (bytes_in t) t.index c.args.instruction (routine_in t) (omega (arith, c.count.ensures)))
