use Rattle.std.proofs.Common.{◌≡◌, ◌-◌, ◌≤◌}
use Rattle.module.specs.Told.{bytes_behind}
use Rattle.machine.specs.Level.{level_of, jumped}
use Rattle.machine.specs.Within.{MakesOwn}
use Rattle.machine.proofs.frame.Frame.run.Given as goal

abbrev pub decreases-loop-left : goal.decreases-loop-left
decreases-loop-left g l = l.left

abbrev pub invariant-loop-left : goal.invariant-loop-left
invariant-loop-left g l =
    let h = g.H.Host in
    record {
      own : MakesOwn (bytes_behind l.initial.code) (h.rule (h.base l.initial.host)) (l.fuel - l.left) (level_of l.initial.self) l.initial.memory.bytes (h.ports l.initial.host) (jumped (level_of l.self) l.pc) l.memory.bytes (h.ports l.host);
      few : l.left ≤ l.fuel;
      base : h.base l.host ≡ h.base l.initial.host;
    }
