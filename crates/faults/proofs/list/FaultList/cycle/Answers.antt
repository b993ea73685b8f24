use Rattle.faults.specs.Shown.{faults_of}
use Rattle.faults.proofs.Marks.{first-cycled}
use Rattle.faults.proofs.list.FaultList.cycle.Goals as goal

pub invariant_of-self-clause-sorted : goal.invariant_of-self-clause-sorted
invariant_of-self-clause-sorted c = rw c.cycle-self.ensures.left (first-cycled (faults_of c.args.self.now))
