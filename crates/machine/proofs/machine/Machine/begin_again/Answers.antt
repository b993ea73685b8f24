use Rattle.std.proofs.Common.{◌-◌, [], ◌∷◌, ◌++◌, length, replicate, ap, ◌∙◌}
use Rattle.module.proofs.Accepts.{accepts_checked}
use Rattle.machine.specs.Foretold.{as_foretold}
use Rattle.machine.specs.View.{module_of, world_of}
use Rattle.machine.specs.World.{world, running}
use Rattle.machine.proofs.Soundness.{never_stuck}
use Rattle.machine.proofs.machine.Machine.begin_again.Goals as goal

pub invariant_of-self : goal.invariant_of-self
invariant_of-self c =
    let m = c.args.self.now in
    record {
      foretold =
          ap (as_foretold (module_of m)) (λ i.
          world running
          (c.first-self.ensures.running i ∷ c.first-self.ensures.waiting i)
          ((c.holding-self.ensures ∙ ap (λ image. image ++ replicate (4096 - length image) 0) c.image.ensures) i)
          [])
          ∙ (never_stuck (module_of m) (accepts_checked m.checked)).begins [];
    }

pub returns-clause-begun : goal.returns-clause-begun
unfolding world_of
returns-clause-begun c = λ ports i.
    world running
    (c.first-self.ensures.running i ∷ c.first-self.ensures.waiting i)
    ((c.holding-self.ensures ∙ ap (λ image. image ++ replicate (4096 - length image) 0) c.image.ensures) i)
    ports
