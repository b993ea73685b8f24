use Rattle.std.proofs.Common.{◌≡◌, map, take}
use Rattle.drive.specs.Law.{Leads}
use Rattle.drive.specs.View.{call_of, said_of}
use Rattle.drive.proofs.run.run.Given as goal

abbrev pub invariant-loop-turn : goal.invariant-loop-turn
invariant-loop-turn g l =
    let m = g.H.Host in
    let rule = m.rule (m.base l.initial.host) in
    let calls = map call_of l.initial.turn-items in
    record {
      leads : Leads rule (take l.turn-index calls) (map said_of (take l.turn-index l.turn-items)) l.initial.drive (m.ports l.initial.host) l.drive (m.ports l.host);
      calls : map call_of l.turn-items ≡ calls;
      base : m.base l.host ≡ m.base l.initial.host;
    }
