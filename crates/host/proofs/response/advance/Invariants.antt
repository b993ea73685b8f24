use Rattle.std.proofs.Common.{◌≡◌}
use Rattle.host.specs.Response.{ticked}
use Rattle.host.proofs.response.advance.Given as goal

abbrev pub invariant-loop-tick : goal.invariant-loop-tick
invariant-loop-tick g l =
    let m = g.H.Host in
    record {
      ports : m.ports l.host ≡ ticked l._tick (m.rule (m.base l.initial.host)) (m.ports l.initial.host);
      base : m.base l.host ≡ m.base l.initial.host;
    }
