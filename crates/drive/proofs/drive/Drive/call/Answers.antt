use Rattle.std.proofs.Common.{sym}
use Rattle.drive.proofs.Outcomes.{when_ended, when_tripped, when_running, not_while_running, after_the_end, after_a_trip}
use Rattle.drive.proofs.drive.Drive.call.Goals as goal

pub returns-in-Running-Grant-clause-called : goal.returns-in-Running-Grant-clause-called
returns-in-Running-Grant-clause-called g c =
    let m = g.H.Host in
    let s = c.spend in
    when_running (m.rule (m.base c.args.host.now)) c.args.call c.args.self.now (m.ports c.args.host.now) c.in_default-Grant.fuel c.in_default-Grant.is-1
    (sym c.if-not-may_grant.ensures) s.new.self (m.ports s.new.host) s.result c.in-Running-Grant.is-0 s.ensures.made s.ensures.world s.ensures.state s.ensures.faults s.ensures.bytes

pub returns-in-Ended-Grant-clause-called : goal.returns-in-Ended-Grant-clause-called
returns-in-Ended-Grant-clause-called g c =
    let m = g.H.Host in
    when_ended (m.rule (m.base c.args.host.now)) c.args.call c.args.self.now (m.ports c.args.host.now) c.in_default-Grant.fuel c.in_default-Grant.is-1
    (sym c.if-not-may_grant.ensures) c.in-Ended-Grant.is-0

pub returns-in-Tripped-Grant-clause-called : goal.returns-in-Tripped-Grant-clause-called
returns-in-Tripped-Grant-clause-called g c =
    let m = g.H.Host in
    when_tripped (m.rule (m.base c.args.host.now)) c.args.call c.args.self.now (m.ports c.args.host.now) c.in_default-Grant.fuel c.in_default-Grant.is-1
    (sym c.if-not-may_grant.ensures) c.in-Tripped-Grant.is-0

pub returns-in-Running-Restart-clause-called : goal.returns-in-Running-Restart-clause-called
returns-in-Running-Restart-clause-called g c =
    let m = g.H.Host in
    not_while_running (m.rule (m.base c.args.host.now)) c.args.call c.args.self.now (m.ports c.args.host.now) c.in-Running-Restart.is-1 c.in-Running-Restart.is-0

pub returns-in-Ended-Restart-clause-called : goal.returns-in-Ended-Restart-clause-called
returns-in-Ended-Restart-clause-called g c =
    let m = g.H.Host in
    let b = c.begin in
    after_the_end (m.rule (m.base c.args.host.now)) c.args.call c.args.self.now (m.ports c.args.host.now) b.new.self b.result b.ensures.answer b.ensures.world b.ensures.bytes
    c.in-Ended-Restart.is-1 c.in-Ended-Restart.is-0 b.ensures.faults

pub returns-in-Tripped-Restart-clause-called : goal.returns-in-Tripped-Restart-clause-called
returns-in-Tripped-Restart-clause-called g c =
    let m = g.H.Host in
    let b = c.begin-in-Tripped-Restart in
    after_a_trip (m.rule (m.base c.args.host.now)) c.args.call c.args.self.now (m.ports c.args.host.now) b.new.self b.result b.ensures.answer b.ensures.world b.ensures.bytes
    c.in-Tripped-Restart.is-1 c.in-Tripped-Restart.is-0 b.ensures.faults
