use Rattle.std.proofs.Common.{[], Some, sym, ap, ◌∙◌, subst}
use Rattle.faults.specs.Causes.{cause_of}
use Rattle.isa.specs.declared.instr.Instr.TheVariants.{Call, Ret}
use Rattle.module.specs.Told.{bytes_behind}
use Rattle.module.proofs.Accepts.{accepts_body}
use Rattle.machine.specs.declared.machine.Machine.{Machine}
use Rattle.machine.specs.Nested.{running_routine, waiting}
use Rattle.machine.specs.View.{module_of, world_of}
use Rattle.machine.specs.Within.{StandsAtStop, Why}
use Rattle.machine.specs.World.{after, trips}
use Rattle.machine.proofs.Runs.{foretold_over, has_step, running_foretold, tripped_rests, ended_rests}
use Rattle.machine.proofs.Soundness.{never_stuck, foretold_ready}
use Rattle.machine.proofs.Steps.{machine_step_goes, none_then}
use Rattle.machine.proofs.machine.Machine.pass.Goals as goal

pub call-requires : goal.call-requires
call-requires c =
    let bs = bytes_behind c.args.code in
    let m = c.args.self.now in
    record {
      stands = record {
        running = c.requires.runs.running;
        stands = subst (StandsAtStop bs (running_routine m.stack)) c.in-Call.is c.requires.stands;
        able = has_step bs (never_stuck bs (accepts_body c.args.code)) m [] (foretold_over m c.requires.runs) c.requires.runs.running;
      };
      runs = c.requires.runs;
    }

pub give_back-requires : goal.give_back-requires
give_back-requires c =
    let bs = bytes_behind c.args.code in
    let m = c.args.self.now in
    record {
      stands = record {
        running = c.requires.runs.running;
        stands = subst (StandsAtStop bs (running_routine m.stack)) c.in-Return.is c.requires.stands;
        able = has_step bs (never_stuck bs (accepts_body c.args.code)) m [] (foretold_over m c.requires.runs) c.requires.runs.running;
      };
      runs = c.requires.runs;
    }

pub trip-requires-clause-routine : goal.trip-requires-clause-routine
trip-requires-clause-routine c =
    let bs = bytes_behind c.args.code in
    let m = c.args.self.now in
    let ready = foretold_ready bs (accepts_body c.args.code) (running_routine m.stack) (running_foretold bs m (foretold_over m c.requires.runs) c.requires.runs.running) in
    rw c.in-Err.ensures.unchanged ready.2.routine_low

pub trip-requires-clause-instruction : goal.trip-requires-clause-instruction
trip-requires-clause-instruction c =
    let bs = bytes_behind c.args.code in
    let m = c.args.self.now in
    let ready = foretold_ready bs (accepts_body c.args.code) (running_routine m.stack) (running_foretold bs m (foretold_over m c.requires.runs) c.requires.runs.running) in
    rw c.in-Err.ensures.unchanged ready.2.place_low

pub trip-requires-in-Trip-clause-routine : goal.trip-requires-in-Trip-clause-routine
trip-requires-in-Trip-clause-routine c =
    let bs = bytes_behind c.args.code in
    let m = c.args.self.now in
    (foretold_ready bs (accepts_body c.args.code) (running_routine m.stack) (running_foretold bs m (foretold_over m c.requires.runs) c.requires.runs.running)).2.routine_low

pub trip-requires-in-Trip-clause-instruction : goal.trip-requires-in-Trip-clause-instruction
trip-requires-in-Trip-clause-instruction c =
    let bs = bytes_behind c.args.code in
    let m = c.args.self.now in
    (foretold_ready bs (accepts_body c.args.code) (running_routine m.stack) (running_foretold bs m (foretold_over m c.requires.runs) c.requires.runs.running)).2.place_low

pub returns-in-Err-clause-step : goal.returns-in-Err-clause-step
returns-in-Err-clause-step c = λ rule ports stops.
    let bs = bytes_behind c.args.code in
    let m = c.args.self.now in
    let can = has_step bs (never_stuck bs (accepts_body c.args.code)) m [] (foretold_over m c.requires.runs) c.requires.runs.running in
    machine_step_goes bs rule m ports c.requires.runs.running (Call c.in-Call.a c.in-Call.b c.in-Call.n) can (subst (StandsAtStop bs (running_routine m.stack)) c.in-Call.is c.requires.stands)
    ∙ ap (λ e. Some (after (world_of m ports) (running_routine m.stack) e)) (c.in-Err.ensures.tripped rule ports)
    ∙ ap (λ (n : Machine). Some (after (world_of n ports) (running_routine n.stack) (trips (cause_of c.in-Err.cause)))) (sym c.in-Err.ensures.unchanged)
    ∙ ap Some (sym (c.trip.ensures.trips ports))

pub returns-in-Ok-clause-step : goal.returns-in-Ok-clause-step
returns-in-Ok-clause-step c = λ rule ports stops.
    let bs = bytes_behind c.args.code in
    let m = c.args.self.now in
    let can = has_step bs (never_stuck bs (accepts_body c.args.code)) m [] (foretold_over m c.requires.runs) c.requires.runs.running in
    machine_step_goes bs rule m ports c.requires.runs.running (Call c.in-Call.a c.in-Call.b c.in-Call.n) can (subst (StandsAtStop bs (running_routine m.stack)) c.in-Call.is c.requires.stands)
    ∙ ap Some (sym (c.in-Ok.ensures.done rule ports).leaves)

pub returns-in-Return-clause-step : goal.returns-in-Return-clause-step
returns-in-Return-clause-step c = λ rule ports stops.
    let bs = bytes_behind c.args.code in
    let m = c.args.self.now in
    let can = has_step bs (never_stuck bs (accepts_body c.args.code)) m [] (foretold_over m c.requires.runs) c.requires.runs.running in
    machine_step_goes bs rule m ports c.requires.runs.running (Ret c.in-Return.a) can (subst (StandsAtStop bs (running_routine m.stack)) c.in-Return.is c.requires.stands)
    ∙ ap Some (sym (c.give_back.ensures.done rule ports).leaves)

pub returns-in-Trip-clause-step : goal.returns-in-Trip-clause-step
returns-in-Trip-clause-step c = λ rule ports stops.
    let bs = bytes_behind c.args.code in
    let m = c.args.self.now in
    let can = has_step bs (never_stuck bs (accepts_body c.args.code)) m [] (foretold_over m c.requires.runs) c.requires.runs.running in
    let why = subst (Why bs rule (running_routine m.stack) m.memory.bytes ports stops.instr) c.in-Trip.is stops.why in
    machine_step_goes bs rule m ports c.requires.runs.running stops.instr can stops.stands
    ∙ ap (λ e. Some (after (world_of m ports) (running_routine m.stack) e)) (why (waiting m.stack))
    ∙ ap Some (sym (c.trip-in-Trip.ensures.trips ports))

pub returns-in-Err-clause-stopped : goal.returns-in-Err-clause-stopped
returns-in-Err-clause-stopped c =
    tripped_rests (world_of c.call.new.self []) _ (running_routine c.call.new.self.stack) (cause_of c.in-Err.cause) (c.trip.ensures.trips [])

pub returns-in-Return-clause-stopped : goal.returns-in-Return-clause-stopped
returns-in-Return-clause-stopped c =
    none_then c.give_back.result c.give_back.ensures.ended (ended_rests c.give_back.new.self [])

pub returns-in-Trip-clause-stopped : goal.returns-in-Trip-clause-stopped
returns-in-Trip-clause-stopped c =
    tripped_rests (world_of c.args.self.now []) _ (running_routine c.args.self.now.stack) (cause_of c.in-Trip.cause) (c.trip-in-Trip.ensures.trips [])

pub returns-in-Ok-clause-bytes : goal.returns-in-Ok-clause-bytes
returns-in-Ok-clause-bytes c = c.in-Ok.ensures.runs.upon ∙ sym c.requires.runs.upon

pub returns-in-Err-clause-bytes : goal.returns-in-Err-clause-bytes
returns-in-Err-clause-bytes c = c.trip.ensures.bytes ∙ ap module_of c.in-Err.ensures.unchanged
