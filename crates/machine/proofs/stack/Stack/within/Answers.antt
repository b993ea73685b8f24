use Rattle.std.proofs.Common.{◌-◌, get_or, sym, ap, ◌∙◌, subst, arith}
use Rattle.module.specs.Told.{bytes_behind}
use Rattle.machine.specs.Foretold.{AsForetold}
use Rattle.machine.specs.Level.{level_of}
use Rattle.machine.specs.Nested.{running_routine}
use Rattle.machine.specs.Within.{MakesOwn, StopsWith}
use Rattle.machine.proofs.Frames.{running_is, with_frame, frame_runs, frame_waits}
use Rattle.machine.proofs.stack.Stack.within.Goals as goal

pub run-requires-clause-routine : goal.run-requires-clause-routine
run-requires-clause-routine g c =
    c.requires.routine ∙ ap (λ l. l.routine) (running_is c.args.self.now c.index-self-self.result (omega arith))

pub run-requires-clause-foretold : goal.run-requires-clause-foretold
run-requires-clause-foretold g c =
    subst (AsForetold (bytes_behind c.args.code)) (running_is c.args.self.now c.index-self-self.result (omega arith)) c.requires.foretold

pub returns-clause-made : goal.returns-clause-made
returns-clause-made g c =
    let h = g.H.Host in
    let bs = bytes_behind c.args.code in
    let s = c.args.self.now in
    let rule = h.rule (h.base c.args.host.now) in
    let n = c.args.fuel - c.run.result.0 in
    let memory = c.args.memory.now.bytes in
    let ports = h.ports c.args.host.now in
    let memory' = c.run.new.memory.bytes in
    let ports' = h.ports c.run.new.host in
    subst (λ l. MakesOwn bs rule n l memory ports (running_routine (with_frame s c.run.new.self)) memory' ports') (sym (running_is s c.index-self-self.result (omega arith)))
    (subst (λ l. MakesOwn bs rule n (level_of (get_or s.frames s.top.index c.index-self-self.result)) memory ports l memory' ports') (sym (frame_runs s (omega arith) c.run.new.self)) c.run.ensures.made)

pub returns-clause-waiting : goal.returns-clause-waiting
returns-clause-waiting g c = frame_waits c.args.self.now (omega arith) c.run.new.self

pub returns-clause-stop : goal.returns-clause-stop
returns-clause-stop g c =
    let h = g.H.Host in
    subst (λ l. StopsWith (bytes_behind c.args.code) (h.rule (h.base c.args.host.now)) c.run.result.0 l c.run.new.memory.bytes (h.ports c.run.new.host) c.run.result.1) (sym (frame_runs c.args.self.now (omega arith) c.run.new.self)) c.run.ensures.stop
