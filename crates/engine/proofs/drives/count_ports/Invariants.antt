use Rattle.std.proofs.Common.{◌≤◌, length}
use Rattle.engine.proofs.drives.count_ports.Given as goal

abbrev pub invariant-loop-p : goal.invariant-loop-p
invariant-loop-p g l = l.p ≤ length (g.H.Host.ports l.initial.host)
