use Rattle.std.proofs.Common.{take, ap, ◌∙◌}
use Rattle.std.proofs.lemmas.List.{get_or_default}
use Rattle.machine.specs.declared.frame.Register.TheVariants.{Variable}
use Rattle.machine.specs.Level.{value_of, value}
use Rattle.machine.proofs.frame.Frame.read.Goals as goal

pub returns : goal.returns
unfolding value
returns c =
    let f = c.args.self.now in
    rw c.registers.ensures at c.value.ensures
    ∙ ap value_of (get_or_default (take f.depth f.registers) c.args.a _ (Variable 0) c.requires)
