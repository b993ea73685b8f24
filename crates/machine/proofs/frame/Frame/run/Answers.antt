use Rattle.std.proofs.Common.{◌≡◌, ◌+◌, ◌-◌, refl, ◌∙◌, subst, arith}
use Rattle.module.specs.Told.{bytes_behind}
use Rattle.machine.specs.Level.{level_of, jumped}
use Rattle.machine.specs.Within.{Moves, MakesOwn}
use Rattle.machine.proofs.Fuel.{goes_one, goes_then}
use Rattle.machine.proofs.frame.Frame.run.Goals as goal

pub loop-left-preserved : goal.loop-left-preserved
loop-left-preserved g c =
    let h = g.H.Host in
    let bs = bytes_behind c.args.code in
    let rule = h.rule (h.base c.args.host.now) in
    let inv = c.loop-left.invariant in
    let l = jumped (level_of c.loop-left.self) c.loop-left.pc in
    let later = jumped (level_of c.perform.new.self) c.in-Some.next in
    let memory = c.perform.new.memory.bytes in
    let ports = h.ports c.perform.new.host in
    let moves = subst (λ b. Moves bs (h.rule b) l c.loop-left.memory.bytes (h.ports c.loop-left.host) later memory ports) inv.base c.in-Some.ensures.moves in
    let more : MakesOwn bs rule (c.args.fuel - c.loop-left.left + 1) (level_of c.args.self.now) c.args.memory.now.bytes (h.ports c.args.host.now) later memory ports
    = record {
      steps = λ ls. goes_then bs rule (inv.own.steps ls) (goes_one bs rule _ _ refl (moves.steps ls));
      foretold = moves.foretold;
      routine = moves.routine ∙ inv.own.routine;
    } in
    record {
      own = subst (λ n. MakesOwn bs rule n (level_of c.args.self.now) c.args.memory.now.bytes (h.ports c.args.host.now) later memory ports) (omega (arith, inv.few)) more;
      few = omega (arith, inv.few);
      base = c.perform.ensures.base ∙ inv.base;
    }

pub returns-clause-made : goal.returns-clause-made
returns-clause-made g c =
    let h = g.H.Host in
    let all : c.args.fuel - c.loop-left.left ≡ c.args.fuel - 0 = omega arith in
    subst (λ n. MakesOwn (bytes_behind c.args.code) (h.rule (h.base c.args.host.now)) n (level_of c.args.self.now) c.args.memory.now.bytes (h.ports c.args.host.now) (jumped (level_of c.loop-left.self) c.loop-left.pc) c.loop-left.memory.bytes (h.ports c.loop-left.host)) all c.loop-left.invariant.own
