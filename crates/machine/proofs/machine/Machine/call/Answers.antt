use Rattle.std.proofs.Common.{◌≡◌, ◌<◌, true, ltb, List, [], length, subst, sym, refl, ap, ◌∙◌, arith}
use Rattle.std.proofs.lemmas.Bool.{cond-true, cond-false, lt-ltb, le-ltb, ltb-true}
use Rattle.host.specs.declared.port.Port.{Port}
use Rattle.isa.specs.declared.access.Signature.{Signature}
use Rattle.isa.specs.declared.instr.Instr.TheVariants.{Call}
use Rattle.module.proofs.Accepts.{accepts_body}
use Rattle.module.specs.Layout.{routines, signature}
use Rattle.module.specs.Told.{bytes_behind}
use Rattle.machine.specs.Level.{level, copied}
use Rattle.machine.specs.Nested.{running_routine, waiting}
use Rattle.machine.specs.Foretold.{as_foretold}
use Rattle.machine.specs.Parts.{world_from}
use Rattle.machine.specs.View.{world_of, effect_in}
use Rattle.machine.specs.World.{after, effect, entered}
use Rattle.machine.proofs.Frames.{few_waiting}
use Rattle.machine.proofs.Legal.{stands_ready}
use Rattle.machine.proofs.Runs.{foretold_over, after_foretold}
use Rattle.machine.proofs.Soundness.{never_stuck}
use Rattle.machine.proofs.Steps.{went}
use Rattle.machine.proofs.machine.Machine.call.Goals as goal

pub returns-then-callers-clause-tripped : goal.returns-then-callers-clause-tripped
unfolding effect
returns-then-callers-clause-tripped c = λ rule ports.
    let n = length (waiting c.args.self.now.stack) in
    cond-false (ltb n 31) _ _ (le-ltb n 31 (omega (arith, c.callers.ensures)))

pub invariant_of-named : goal.invariant_of-named
invariant_of-named c =
    let r = stands_ready c.args.code c.args.self.now _ c.requires.stands.able c.requires.stands.stands refl in
    record { there = ltb-true c.args.n (routines (bytes_behind c.args.code)) r.legal.called }

pub enter-requires-clause-room : goal.enter-requires-clause-room
enter-requires-clause-room c = omega (arith, few_waiting c.args.self.now.stack, c.callers.ensures, c.if-callers.false)

pub enter-requires-clause-there : goal.enter-requires-clause-there
enter-requires-clause-there c =
    let bs = bytes_behind c.args.code in
    let r = stands_ready c.args.code c.args.self.now _ c.requires.stands.able c.requires.stands.stands refl in
    let told = c.signature.ensures ∙ (λ i. signature (c.body-callee.ensures.bytes i) (c.body-callee.ensures.routine i)) in
    omega (arith, r.legal.fit.read, ap (λ (x : Signature). x.arguments) told)

-- the world that is left
left : (c : goal.After-enter) (rule : List Port → List Port) (ports : List Port) →
    world_from c.args.self.now.state c.enter.new.self c.args.self.now.memory ports
    ≡ after (world_of c.args.self.now ports) (running_routine c.args.self.now.stack) (effect_in (bytes_behind c.args.code) rule (Call c.args.a c.args.b c.args.n) c.args.self.now ports)
unfolding effect entered
left c rule ports =
    let s = c.args.self.now.stack in
    let n = length (waiting s) in
    let told = c.signature.ensures ∙ (λ i. signature (c.body-callee.ensures.bytes i) (c.body-callee.ensures.routine i)) in
    let begun = c.enter.ensures.running ∙ ap (λ (x : Signature). level c.args.n 0 (copied (running_routine s).registers c.args.b x.arguments)) told in
    let room : n < 31 = omega (arith, few_waiting s, c.callers.ensures, c.if-callers.false) in
    went (bytes_behind c.args.code) rule c.args.self.now ports c.enter.new.self c.args.self.now.memory (Call c.args.a c.args.b c.args.n) c.requires.stands.running refl (cond-true (ltb n 31) _ _ (lt-ltb n 31 room)) begun c.enter.ensures.waiting refl refl

pub invariant_of-self : goal.invariant_of-self
invariant_of-self c =
    let m = c.args.self.now in
    let bs = bytes_behind c.args.code in
    let told = after_foretold bs (never_stuck bs (accepts_body c.args.code)) m _ (foretold_over m c.requires.runs) c.requires.stands in
    record { foretold = subst (λ b. as_foretold b (world_from m.state c.enter.new.self m.memory []) ≡ true) (sym c.requires.runs.upon) (ap (as_foretold bs) (left c (λ ps. ps) []) ∙ told) }

pub returns-clause-done : goal.returns-clause-done
unfolding world_of
returns-clause-done c = λ rule ports. record { leaves = left c.before rule ports }

pub returns-clause-runs : goal.returns-clause-runs
returns-clause-runs c =
    record {
      running = c.requires.runs.running;
      bytes = c.body-callee.ensures.bytes;
      upon = c.requires.runs.upon;
      routine = c.body-callee.ensures.routine ∙ ap (λ l. l.routine) (sym c.enter.ensures.running);
    }
