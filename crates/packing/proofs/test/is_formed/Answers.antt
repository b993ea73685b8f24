use Rattle.std.proofs.Common.{◌≡◌, Bool, true, false, cond, is_some, Some, None, refl, ap, ◌∙◌}
use Rattle.isa.specs.declared.instr.Instr.{Instr}
use Rattle.isa.specs.Form.{well_formed, instruction}
use Rattle.packing.proofs.test.is_formed.Goals as goal

-- a row decodes if it is well formed
decodes : (b : Bool) (x : Instr) → is_some (cond b (Some x) None) ≡ b
decodes true x = refl
decodes false x = refl

pub returns-clause-formed : goal.returns-clause-formed
returns-clause-formed c = c.is_some.ensures ∙ ap is_some c.decode.ensures ∙ decodes (well_formed c.args.row) (instruction c.args.row)
