use Rattle.std.proofs.Common.{◌-◌, [], ◌∷◌, ◌++◌, length, replicate, ap, ◌∙◌}
use Rattle.module.specs.Told.{bytes_of}
use Rattle.module.proofs.Accepts.{accepts_checked}
use Rattle.machine.specs.Foretold.{as_foretold}
use Rattle.machine.specs.View.{world_of}
use Rattle.machine.specs.World.{world, running}
use Rattle.machine.proofs.Soundness.{never_stuck}
use Rattle.machine.proofs.machine.Machine.begin.Goals as goal

pub invariant_of-result : goal.invariant_of-result
invariant_of-result c =
    let bs = bytes_of c.args.checked.opened in
    record {
      foretold =
          ap (as_foretold bs) (λ i.
          world running
          (c.first.ensures.running i ∷ c.first.ensures.waiting i)
          ((c.holding.ensures ∙ ap (λ image. image ++ replicate (4096 - length image) 0) c.image.ensures) i)
          [])
          ∙ (never_stuck bs (accepts_checked c.args.checked)).begins [];
    }

pub returns-clause-never_stuck : goal.returns-clause-never_stuck
returns-clause-never_stuck c = never_stuck (bytes_of c.args.checked.opened) (accepts_checked c.args.checked)

pub returns-clause-begun : goal.returns-clause-begun
unfolding world_of
returns-clause-begun c = λ ports i.
    world running
    (c.first.ensures.running i ∷ c.first.ensures.waiting i)
    ((c.holding.ensures ∙ ap (λ image. image ++ replicate (4096 - length image) 0) c.image.ensures) i)
    ports
