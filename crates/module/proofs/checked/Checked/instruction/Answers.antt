use Rattle.std.proofs.Common.{sym, ◌∙◌}
use Rattle.module.specs.Told.{bytes_of}
use Rattle.module.proofs.At.{no_routine}
use Rattle.module.proofs.checked.Checked.instruction.Goals as goal

pub returns-in_err-body : goal.returns-in_err-body
returns-in_err-body c = c.from_residual.ensures ∙ sym (no_routine (bytes_of c.args.self.now.opened) c.args.routine c.args.instruction c.in_err-body.ensures)
