use Rattle.std.proofs.Common.{map, drop}
use Rattle.engine.specs.Fields.{fields_bytes}
use Rattle.engine.specs.Whole.{value_field}
use Rattle.engine.proofs.Adding.{Left}
use Rattle.engine.proofs.drives.add_ports.Given as goal

abbrev pub invariant-loop-p : goal.invariant-loop-p
invariant-loop-p g l =
    let ports = g.H.Host.ports l.initial.host in
    Left l.initial.text.items (fields_bytes (map value_field ports)) l.text.items (fields_bytes (map value_field (drop l.p ports)))
