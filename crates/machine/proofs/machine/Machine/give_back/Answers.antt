use Rattle.std.proofs.Common.{◌≡◌, ℕ, ◌<◌, List, [], eqb, true, subst, false, Some, sym, refl, ap, ◌∙◌, arith}
use Rattle.std.proofs.lemmas.Bool.{cond-true, cond-false, eqb-false}
use Rattle.host.specs.declared.port.Port.{Port}
use Rattle.isa.specs.declared.access.Signature.{Signature}
use Rattle.isa.specs.declared.instr.Instr.{Instr}
use Rattle.isa.specs.declared.instr.Instr.TheVariants.{Call, Ret}
use Rattle.module.specs.declared.body.Body.{Body}
use Rattle.module.specs.Layout.{routines, count, results, signature}
use Rattle.module.specs.Places.{instr_at}
use Rattle.module.specs.Told.{bytes_behind, routine_of}
use Rattle.module.proofs.Accepts.{accepts_body}
use Rattle.machine.specs.declared.frame.Frame.{Frame}
use Rattle.machine.specs.declared.machine.Machine.{Machine}
use Rattle.machine.specs.Level.{level_of, onward, given, values_from}
use Rattle.machine.specs.Nested.{running_routine, waiting, newest_of}
use Rattle.machine.specs.Foretold.{as_foretold}
use Rattle.machine.specs.Parts.{world_from}
use Rattle.machine.specs.World.{able, after, effect, handed, resumed, into, here}
use Rattle.machine.specs.View.{world_of, effect_in, RunsBody}
use Rattle.machine.proofs.Legal.{Ready, Waits, placed, stands_ready, first_spare, returning}
use Rattle.machine.proofs.Frames.{split_first}
use Rattle.machine.proofs.Runs.{foretold_over, after_foretold, end_foretold}
use Rattle.machine.proofs.Soundness.{never_stuck}
use Rattle.machine.proofs.Steps.{went, has_ended}
use Rattle.machine.proofs.machine.Machine.give_back.Goals as goal

-- how many results the running routine gives
gives : (bs : List ℕ) (m : Machine) (t : Body) → RunsBody bs m t → (s : Signature) → s ≡ signature (bytes_behind t) (routine_of t) → s.results ≡ results bs (running_routine m.stack).routine
gives bs m t runs s e = ap (λ (x : Signature). x.results) (e ∙ (λ i. signature (runs.bytes i) (runs.routine i)))

-- a routine other than 0 that stands at its RET, over a body of its module
module _ (code : Body) (m : Machine) (a : ℕ) (can : able (bytes_behind code) (running_routine m.stack) (waiting m.stack) ≡ true)
    (stands : here (bytes_behind code) (running_routine m.stack) ≡ Some (Ret a)) where
  ret : Ready (bytes_behind code) (running_routine m.stack) (Ret a)
  ret = stands_ready code m (Ret a) can stands refl

  module _ (other : false ≡ eqb (running_routine m.stack).routine 0) where
    waits : Waits (bytes_behind code) (running_routine m.stack).routine (waiting m.stack)
    waits = returning (bytes_behind code) (accepts_body code) (running_routine m.stack) (waiting m.stack) a can stands (eqb-false _ 0 (sym other))

    -- the frame of the routine that waits for it, and its body
    module _ (f : Frame) (first : level_of f ≡ newest_of (waiting m.stack)) where
      there : (f.routine < routines (bytes_behind code)) × (f.pc < count (bytes_behind code) f.routine)
      there = placed (bytes_behind code) f.routine f.pc _ (ap (here (bytes_behind code)) first ∙ waits.caller.stands)

      module _ (t : Body) (bytes : bytes_behind t ≡ bytes_behind code) (routine : routine_of t ≡ f.routine) where
        inside_body : f.pc < count (bytes_behind t) (routine_of t)
        inside_body =
            let same : count (bytes_behind t) (routine_of t) ≡ count (bytes_behind code) f.routine = λ i. count (bytes i) (routine i) in
            omega (arith, same, there.1)

        stands_there : (x : Instr) → instr_at (bytes_behind t) (routine_of t) f.pc ≡ Some x → x ≡ Call waits.a waits.b (running_routine m.stack).routine
        stands_there x e =
            let both : Some x ≡ Some (Call waits.a waits.b (running_routine m.stack).routine)
            = sym e ∙ (λ i. instr_at (bytes i) (routine i) f.pc) ∙ ap (here (bytes_behind code)) first ∙ waits.caller.stands in
            cc

pub returns-then-ends_run-clause-done : goal.returns-then-ends_run-clause-done
unfolding effect world_of
returns-then-ends_run-clause-done c = λ rule ports. record {
  leaves = has_ended (bytes_behind c.args.code) rule c.args.self.now ports c.args.self.now.stack c.args.self.now.memory (Ret c.args.a) c.requires.stands.running (cond-true (eqb (running_routine c.args.self.now.stack).routine 0) _ _ (sym c.if-ends_run.ensures)) refl refl;
}

pub invariant_of-self : goal.invariant_of-self
invariant_of-self c = record { foretold = end_foretold _ c.args.self.now.stack c.args.self.now.memory }

pub caller-caller-requires : goal.caller-caller-requires
caller-caller-requires c = (waits c.args.code c.args.self.now c.args.a c.requires.stands.able c.requires.stands.stands c.if-ends_run.ensures).some

pub invariant_of-waiting : goal.invariant_of-waiting
invariant_of-waiting c =
    record { there = (there c.args.code c.args.self.now c.args.a c.requires.stands.able c.requires.stands.stands c.if-ends_run.ensures c.caller-caller.result.now c.caller-caller.ensures).0 }

pub invariant_of-call : goal.invariant_of-call
invariant_of-call c =
    record { there = inside_body c.args.code c.args.self.now c.args.a c.requires.stands.able c.requires.stands.stands c.if-ends_run.ensures c.caller-caller.result.now c.caller-caller.ensures c.body-below.result c.body-below.ensures.bytes c.body-below.ensures.routine }

pub unreachable-requires : goal.unreachable-requires
unreachable-requires c =
    c.in_default.not-Call _ _ _ (stands_there c.args.code c.args.self.now c.args.a c.requires.stands.able c.requires.stands.stands c.if-ends_run.ensures c.caller-caller.result.now c.caller-caller.ensures c.body-below.result c.body-below.ensures.bytes c.body-below.ensures.routine c.instruction.result c.instruction.ensures)

pub leave-requires : goal.leave-requires
leave-requires c =
    let bs = bytes_behind c.args.code in
    let r = ret c.args.code c.args.self.now c.args.a c.requires.stands.able c.requires.stands.stands in
    let w = waits c.args.code c.args.self.now c.args.a c.requires.stands.able c.requires.stands.stands c.if-ends_run.ensures in
    let n = gives bs c.args.self.now c.args.code c.requires.runs c.signature.result c.signature.ensures in
    let call = stands_there c.args.code c.args.self.now c.args.a c.requires.stands.able c.requires.stands.stands c.if-ends_run.ensures c.caller-caller.result.now c.caller-caller.ensures c.body-below.result c.body-below.ensures.bytes c.body-below.ensures.routine c.instruction.result c.instruction.ensures in
    let at = c.in-Call.is in
    let first : c.in-Call.into ≡ w.a = cc in
    record {
      some = w.some;
      there = omega (arith, n, r.legal.fit.read);
      room = omega (arith, n, first, w.caller.legal.fit.write);
      variables = λ k low high. first_spare w.caller k (omega (arith, n, first, low, high)) (omega (arith, n, first, high, w.caller.legal.fit.write));
      place = omega (arith, w.caller.place_low);
    }

-- the world that is left
left : (c : goal.After-leave) (rule : List Port → List Port) (ports : List Port) →
    world_from c.args.self.now.state c.leave.new.self c.args.self.now.memory ports
    ≡ after (world_of c.args.self.now ports) (running_routine c.args.self.now.stack) (effect_in (bytes_behind c.args.code) rule (Ret c.args.a) c.args.self.now ports)
unfolding effect handed resumed into
left c rule ports =
    let bs = bytes_behind c.args.code in
    let m = c.args.self.now in
    let l = running_routine m.stack in
    let g = newest_of (waiting m.stack) in
    let w = waits c.args.code m c.args.a c.requires.stands.able c.requires.stands.stands c.if-ends_run.ensures in
    let n = gives bs m c.args.code c.requires.runs c.signature.result c.signature.ensures in
    let call = stands_there c.args.code m c.args.a c.requires.stands.able c.requires.stands.stands c.if-ends_run.ensures c.caller-caller.result.now c.caller-caller.ensures c.body-below.result c.body-below.ensures.bytes c.body-below.ensures.routine c.instruction.result c.instruction.ensures in
    let at = c.in-Call.is in
    let first : c.in-Call.into ≡ w.a = cc in
    let wants : into bs g.routine (here bs g) ≡ w.a = ap (into bs g.routine) w.caller.stands in
    let vs = values_from l.registers c.args.a (results bs l.routine) in
    went bs rule m ports c.leave.new.self m.memory (Ret c.args.a) c.requires.stands.running refl
    (cond-false (eqb l.routine 0) _ _ (sym c.if-ends_run.ensures) ∙ ap (λ ls. handed bs vs ls m.memory.bytes ports) (split_first (waiting m.stack) w.some))
    (c.leave.ensures.running ∙ (λ i. onward g (given g.registers ((first ∙ sym wants) i) (values_from l.registers c.args.a (n i)))))
    c.leave.ensures.waiting refl refl

pub invariant_of-self-2 : goal.invariant_of-self-2
invariant_of-self-2 c =
    let m = c.args.self.now in
    let bs = bytes_behind c.args.code in
    let told = after_foretold bs (never_stuck bs (accepts_body c.args.code)) m _ (foretold_over m c.requires.runs) c.requires.stands in
    record { foretold = subst (λ b. as_foretold b (world_from m.state c.leave.new.self m.memory []) ≡ true) (sym c.requires.runs.upon) (ap (as_foretold bs) (left c (λ ps. ps) []) ∙ told) }

pub returns-clause-done : goal.returns-clause-done
unfolding world_of
returns-clause-done c = λ rule ports. record { leaves = left c.before rule ports }

pub returns-clause-runs : goal.returns-clause-runs
returns-clause-runs c =
    record {
      running = c.requires.stands.running;
      bytes = c.body-below.ensures.bytes;
      upon = c.requires.runs.upon;
      routine = c.body-below.ensures.routine ∙ ap (λ l. l.routine) c.caller-caller.ensures ∙ ap (λ l. l.routine) (sym c.leave.ensures.running);
    }
