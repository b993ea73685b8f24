use Rattle.std.proofs.Common.{take}
use Rattle.host.specs.Ports.{most_ports, blank, at_rest}
use Rattle.host.proofs.Sweep.{swept_more, swept_front, swept_back}
use Rattle.host.proofs.table.rest_ports.Goals as goal

pub loop-port-preserved : goal.loop-port-preserved
loop-port-preserved c =
    let ports = take c.min-count.result c.args.rows.now in
    rw c.rest.ensures (swept_more at_rest blank c.loop-port.port-index ports c.loop-port.port-items c.loop-port-test.true c.loop-port.invariant)

pub returns-clause-ports : goal.returns-clause-ports
returns-clause-ports c = swept_front at_rest most_ports _ _ c.args.rows.now _ c.min-count.ensures c.loop-port-test.false c.loop-port.invariant

pub returns-clause-past : goal.returns-clause-past
returns-clause-past c = swept_back at_rest most_ports _ _ c.args.rows.now _ c.min-count.ensures c.loop-port-test.false c.loop-port.invariant
