use Rattle.std.proofs.Common.{ap, ◌∙◌}
use Rattle.isa.specs.Form.{decoded}
use Rattle.isa.proofs.Rows.{row_decoded, row_unique}
use Rattle.isa.proofs.encode.encode.Goals as goal

pub returns-clause-again : goal.returns-clause-again
returns-clause-again c = ap decoded c.from.ensures ∙ row_decoded c.args.instr

pub returns-clause-undoes : goal.returns-clause-undoes
returns-clause-undoes c = λ x e. c.from.ensures ∙ row_unique c.args.instr x e
