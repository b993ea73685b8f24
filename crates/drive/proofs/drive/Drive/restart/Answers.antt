use Rattle.drive.proofs.Restarts.{over_any_host}
use Rattle.drive.specs.View.{by_values}
use Rattle.host.specs.Table.{table_rule, table_ports}
use Rattle.drive.proofs.drive.Drive.restart.Goals as goal

pub returns : goal.returns
returns c = over_any_host table_rule c.args.self.now (table_ports c.new.result) (by_values c.call.result) c.call.new.self (table_ports c.call.new.host) c.call.ensures.called
