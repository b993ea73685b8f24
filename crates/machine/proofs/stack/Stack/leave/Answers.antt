use Rattle.std.proofs.Common.{length, get_or, map, take, drop, ap, ◌∙◌, arith}
use Rattle.machine.specs.declared.frame.Register.TheVariants.{Variable}
use Rattle.machine.specs.Level.{is_constant, value_of, onward, given}
use Rattle.machine.specs.Nested.{running_routine, waiting}
use Rattle.machine.proofs.Frames.{some_waits, ending, going_on, ended_running, ended_waiting}
use Rattle.machine.proofs.stack.Stack.leave.Goals as goal

pub overflow_sub-index : goal.overflow_sub-index
overflow_sub-index c = some_waits c.args.self.now c.requires.some

pub bounds-below-index : goal.bounds-below-index
bounds-below-index c = omega (arith, some_waits c.args.self.now c.requires.some, c.split_at_mut-below.ensures.front_len)

pub span-requires : goal.span-requires
span-requires c =
    let s = c.args.self.now in
    let ended = ending s (omega arith) _ _ (some_waits s c.requires.some) c.split_at_mut-below.ensures.front c.split_at_mut-below.ensures.back c.index-above-0.result in
    omega (arith, ap (λ l. length l.registers) ended)

pub take-requires : goal.take-requires
take-requires c =
    let s = c.args.self.now in
    let caller = going_on s (omega arith) _ _ (some_waits s c.requires.some) c.split_at_mut-below.ensures.front c.split_at_mut-below.ensures.back c.index-below-index.result in
    record {
      there = omega (arith, ap (λ l. length l.registers) caller, c.span.ensures.length, c.requires.room);
      variables = λ k low high.
          ap (λ l. is_constant (get_or l.registers k (Variable 0))) caller
          ∙ c.requires.variables k low (omega (arith, high, c.span.ensures.length));
    }

pub skip-requires : goal.skip-requires
skip-requires c =
    let s = c.args.self.now in
    let caller = going_on s (omega arith) _ _ (some_waits s c.requires.some) c.split_at_mut-below.ensures.front c.split_at_mut-below.ensures.back c.index-below-index.result in
    omega (arith, ap (λ l. l.pc) caller, ap (λ l. l.pc) c.take.ensures)

pub returns : goal.returns
unfolding running_routine waiting
returns c =
    let s = c.args.self.now in
    let some = some_waits s c.requires.some in
    let front = c.split_at_mut-below.ensures.front in
    let back = c.split_at_mut-below.ensures.back in
    let ended = ending s (omega arith) _ _ some front back c.index-above-0.result in
    let caller = going_on s (omega arith) _ _ some front back c.index-below-index.result in
    let results = c.span.ensures.registers ∙ ap (λ l. take c.args.count (drop c.args.a l.registers)) ended in
    record {
      running =
          ended_running s (omega arith) _ _ some front back c.skip.new.self
          ∙ c.skip.ensures
          ∙ ap (λ l. onward l l.registers) c.take.ensures
          ∙ (λ i. onward (caller i) (given (caller i).registers c.args.into (map value_of (results i))));
      waiting = ended_waiting s (omega arith) _ _ some front back c.skip.new.self;
    }
