use Rattle.std.proofs.Common.{Some, sym, ap, inl, inr, ◌∙◌}
use Rattle.machine.specs.declared.machine.State.{State}
use Rattle.machine.specs.Shown.{running_in}
use Rattle.machine.specs.Parts.{levels_in}
use Rattle.machine.specs.View.{world_of}
use Rattle.machine.proofs.machine.Machine.running.Goals as goal

pub returns-in-Ended : goal.returns-in-Ended
unfolding world_of
returns-in-Ended c = λ ports. ap (λ state. running_in (levels_in state c.args.self.now.stack)) (sym c.in-Ended.is)

pub returns-in-Running : goal.returns-in-Running
unfolding world_of
returns-in-Running c = λ ports.
    let shown = λ (state : State). running_in (levels_in state c.args.self.now.stack) in
    let of_top = ap Some c.running.ensures in
    elim c.in-Running.is [
      | inl is ↦ of_top ∙ ap shown (sym is)
      | inr (cause, place, is) ↦ of_top ∙ ap shown (sym is)
    ]
