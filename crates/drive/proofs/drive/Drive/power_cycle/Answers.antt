use Rattle.std.proofs.Common.{refl, ◌∙◌}
use Rattle.drive.specs.declared.call.Call.TheVariants.{PowerCycle}
use Rattle.drive.proofs.Outcomes.{cycles}
use Rattle.drive.proofs.drive.Drive.power_cycle.Goals as goal

pub returns-clause-called : goal.returns-clause-called
returns-clause-called g c =
    let m = g.H.Host in
    let b = c.begin in
    cycles (m.rule (m.base c.args.host.now)) PowerCycle c.args.self.now (m.ports c.args.host.now) b.new.self b.result b.ensures.answer b.ensures.world b.ensures.bytes
    (m.ports c.rest.new.self) refl c.rest.ensures.ports (b.ensures.faults ∙ c.cycle.ensures)
