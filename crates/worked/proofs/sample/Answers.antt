use Rattle.worked.proofs.Cases.{worked}
use Rattle.worked.proofs.sample.Goals as goal

pub returns-clause-worked : goal.returns-clause-worked
returns-clause-worked c = worked
