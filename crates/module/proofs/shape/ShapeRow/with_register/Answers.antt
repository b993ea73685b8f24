use Rattle.std.proofs.Common.{[], ◌∷◌, ◌++◌, sym, ap, ◌∙◌}
use Rattle.module.specs.Shape.{row_of}
use Rattle.module.proofs.ShapeRows.{variable_added, constant_added, constant_past}
use Rattle.module.proofs.shape.ShapeRow.with_register.Goals as goal
use Rattle.module.proofs.shape.ShapeRow.with_register.Goals.{else-constant-via-then-constant+else-self-lt-REGISTERS, else-constant-via-else-constant}

pub returns-then-self-lt-REGISTERS : goal.returns-then-self-lt-REGISTERS
returns-then-self-lt-REGISTERS c = λ s e.
    constant_added c.args.self s e c.if-self-lt-REGISTERS.true ∙ ap (λ f. row_of (s ++ (f ∷ []))) (sym c.if-constant.true)

pub returns : goal.returns
returns c = λ s e. elim c.else-constant.branch [
  | else-constant-via-then-constant+else-self-lt-REGISTERS w ↦ constant_past c.args.self s e w.if-self-lt-REGISTERS.false ∙ ap (λ f. row_of (s ++ (f ∷ []))) (sym w.if-constant.true)
  | else-constant-via-else-constant w ↦ variable_added c.args.self s e ∙ ap (λ f. row_of (s ++ (f ∷ []))) (sym w.if-constant.false)
]
