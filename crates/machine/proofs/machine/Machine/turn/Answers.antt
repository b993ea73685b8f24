use Rattle.std.proofs.Common.{◌≡◌, ◌+◌, ◌-◌, [], sym, ◌∙◌, subst, arith}
use Rattle.module.specs.Told.{bytes_behind}
use Rattle.module.proofs.Accepts.{accepts_body}
use Rattle.machine.specs.Fuel.{Goes}
use Rattle.machine.specs.Nested.{running_routine}
use Rattle.machine.specs.View.{world_of}
use Rattle.machine.specs.Within.{StopsWith}
use Rattle.machine.proofs.Fuel.{goes_one, goes_then}
use Rattle.machine.proofs.Runs.{foretold_over, any_ports, phase_running}
use Rattle.machine.proofs.Soundness.{never_stuck}
use Rattle.machine.proofs.machine.Machine.turn.Goals as goal

pub returns-clause-goes : goal.returns-clause-goes
returns-clause-goes g c =
    let h = g.H.Host in
    let bs = bytes_behind c.args.code in
    let rule = h.rule (h.base c.args.host.now) in
    let m = c.within-left.new.self in
    let n = c.pass-next.new.self in
    let ports = h.ports c.within-left.new.host in
    let left = c.within-left.result.0 in
    let before = any_ports bs m [] ports (foretold_over m c.within-left.ensures.runs) in
    let never = never_stuck bs (accepts_body c.args.code) in
    let stop = subst (StopsWith bs rule left (running_routine m.stack) m.memory.bytes ports) c.in-Some.is c.within-left.ensures.stop in
    let all : c.args.fuel - left + 1 ≡ c.args.fuel - (left - 1) = omega (arith, stop.0, c.within-left.ensures.few) in
    subst (λ k. Goes bs rule k (world_of c.args.self.now (h.ports c.args.host.now)) (world_of n ports)) all
    (goes_then bs rule c.within-left.ensures.goes (goes_one bs rule (world_of m ports) (world_of n ports) (phase_running bs never m ports before c.within-left.ensures.runs.running) (c.pass-next.ensures.step rule ports stop.1)))

pub returns-clause-bytes : goal.returns-clause-bytes
returns-clause-bytes g c = c.pass-next.ensures.bytes ∙ c.within-left.ensures.runs.upon ∙ sym c.requires.runs.upon
