use Rattle.std.proofs.Common.{◌≡◌, ◌++◌, string_bytes, drop}
use Rattle.bench.specs.Text.{port_lines}
use Rattle.bench.proofs.lines.add_ports.Given as goal

-- with the lines of the ports that are left, the text is whole
abbrev pub invariant-loop-p : goal.invariant-loop-p
invariant-loop-p g l =
    let ports = g.H.Host.ports l.initial.host in
    string_bytes l.text ++ port_lines l.p-counter (drop l.p-counter ports) ≡ string_bytes l.initial.text ++ port_lines 0 ports
