use Rattle.drive.specs.View.{by_values}
use Rattle.drive.proofs.Grants.{granted_if}
use Rattle.drive.proofs.drive.Drive.grant.Goals as goal

pub returns-clause-granted : goal.returns-clause-granted
returns-clause-granted g c = granted_if (by_values c.call.result) c.call.ensures.called
