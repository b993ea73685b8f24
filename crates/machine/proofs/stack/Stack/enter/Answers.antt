use Rattle.std.proofs.Common.{length, get_or, ap, ◌∙◌, arith}
use Rattle.machine.specs.Level.{level, as_variables, copied}
use Rattle.machine.specs.Nested.{running_routine, waiting}
use Rattle.machine.proofs.Frames.{room_above, few_registers, calling, begun_running, begun_waiting}
use Rattle.machine.proofs.stack.Stack.enter.Goals as goal

pub bounds-above-0 : goal.bounds-above-0
bounds-above-0 c = omega (arith, room_above c.args.self.now c.requires.room)

pub span-requires : goal.span-requires
span-requires c =
    let s = c.args.self.now in
    let caller = calling s (omega arith) _ _ (room_above s c.requires.room) c.split_at_mut-below.ensures.front c.split_at_mut-below.ensures.back c.index-below-caller.result in
    omega (arith, ap (λ l. length l.registers) caller)

pub begin-requires : goal.begin-requires
begin-requires c =
    let s = c.args.self.now in
    let caller = calling s (omega arith) _ _ (room_above s c.requires.room) c.split_at_mut-below.ensures.front c.split_at_mut-below.ensures.back c.index-below-caller.result in
    omega (arith, ap (λ l. length l.registers) caller, few_registers (get_or c.split_at_mut-below.result.0.now s.top.index c.index-below-caller.result))

pub invariant_of-self : goal.invariant_of-self
invariant_of-self c = record { nested = omega (arith, room_above c.args.self.now c.requires.room) }

pub returns : goal.returns
unfolding running_routine waiting
returns c =
    let s = c.args.self.now in
    let room = room_above s c.requires.room in
    let front = c.split_at_mut-below.ensures.front in
    let back = c.split_at_mut-below.ensures.back in
    let caller = calling s (omega arith) _ _ room front back c.index-below-caller.result in
    record {
      running = begun_running s (omega arith) _ _ room front back c.begin.new.self ∙ c.begin.ensures ∙ ap (λ rs. level c.args.routine 0 (as_variables rs)) c.span.ensures.registers ∙ ap (λ l. level c.args.routine 0 (copied l.registers c.args.b c.args.count)) caller;
      waiting = begun_waiting s (omega arith) _ _ room front back c.begin.new.self;
    }
