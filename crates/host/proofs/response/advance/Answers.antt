use Rattle.host.proofs.Ticks.{ticked_senses}
use Rattle.host.proofs.response.advance.Goals as goal

pub returns-clause-senses : goal.returns-clause-senses
returns-clause-senses g c =
    let m = g.H.Host in
    rw c.loop-tick.invariant.ports (ticked_senses m.base m.ports m.rule g.met.H.Host.lawful c.loop-tick._tick c.args.host.now)
