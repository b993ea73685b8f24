use Rattle.std.proofs.Common.{take, set, ap, ◌∙◌, arith}
use lib.Seq.{take-set-lt}
use Rattle.machine.specs.declared.frame.Register.TheVariants.{Variable}
use Rattle.machine.specs.Level.{level}
use Rattle.machine.proofs.Frames.{depth_is}
use Rattle.machine.proofs.frame.Frame.put.Goals as goal

pub returns : goal.returns
returns c =
    let f = c.args.self.now in
    (λ i. level f.routine f.pc (take f.depth (set f.registers c.args.k (c.set.ensures i))))
    ∙ ap (level f.routine f.pc) (take-set-lt f.depth f.registers c.args.k (Variable c.args.v) (omega (arith, depth_is f (omega arith), c.requires.there)))
