use Rattle.std.proofs.Common.{◌≡◌, ◌-◌, ◌≤◌}
use Rattle.machine.specs.Fuel.{Goes}
use Rattle.machine.specs.View.{module_of, world_of, RunsBody}
use Rattle.machine.proofs.machine.Machine.run.Given as goal

abbrev pub decreases-loop-left : goal.decreases-loop-left
decreases-loop-left g l = l.left

abbrev pub invariant-loop-left : goal.invariant-loop-left
invariant-loop-left g l =
    let h = g.H.Host in
    let bs = module_of l.initial.self in
    record {
      goes : Goes bs (h.rule (h.base l.initial.host)) (l.fuel - l.left) (world_of l.initial.self (h.ports l.initial.host)) (world_of l.self (h.ports l.host));
      few : l.left ≤ l.fuel;
      runs : RunsBody bs l.self l.code;
      base : h.base l.host ≡ h.base l.initial.host;
    }
