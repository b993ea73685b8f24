use Rattle.std.proofs.Common.{◌≡◌, ◌++◌, map, take, drop}
use Rattle.host.specs.Ports.{at_rest}
use Rattle.host.proofs.table.rest_ports.Given as goal

abbrev pub invariant-loop-port : goal.invariant-loop-port
invariant-loop-port l = l.port-items ≡ map at_rest (take l.port-index l.initial.port-items) ++ drop l.port-index l.initial.port-items
