use Rattle.std.proofs.Common.{◌≤◌, ◌+◌, length, arith}
use Rattle.engine.proofs.OneByOne.{port_there, port_none}
use Rattle.engine.proofs.drives.count_ports.Goals as goal

pub loop-p-preserved : goal.loop-p-preserved
loop-p-preserved g c =
    let ports = g.H.Host.ports c.args.host.now in
    let there = port_there ports c.loop-p.p c.in-Ok._value c.in-Ok.ensures.answer in
    let next : c.loop-p.p + 1 ≤ length ports = omega (arith, there.0) in
    next

pub returns-in_default : goal.returns-in_default
returns-in_default g c =
    let ports = g.H.Host.ports c.args.host.now in
    let past = port_none ports c.loop-p.p _ c.in_default.ensures.answer in
    let before : c.loop-p.p ≤ length ports = c.loop-p.invariant in
    omega arith
