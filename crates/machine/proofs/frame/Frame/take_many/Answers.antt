use Rattle.std.proofs.Common.{◌+◌, map, length, get_or, take, set, sym, ap, ◌∙◌, arith}
use Rattle.machine.specs.declared.frame.Register.TheVariants.{Variable}
use Rattle.machine.specs.Level.{level_of, is_constant, value_of, still, given}
use Rattle.machine.proofs.Copies.{front_more, front_length, given_more, given_length, given_variable}
use Rattle.machine.proofs.frame.Frame.take_many.Goals as goal

pub put-requires : goal.put-requires
put-requires c =
    let rs = (level_of c.args.self.now).registers in
    let into = c.args.into in
    let k = c.loop-k.k in
    let vs = map value_of (take k c.args.results.now) in
    record {
      there = omega (arith, ap (λ l. length l.registers) c.loop-k.invariant, given_length vs rs into);
      variable =
          ap (λ l. is_constant (get_or l.registers (into + k) (Variable 0))) c.loop-k.invariant
          ∙ given_variable vs rs into (into + k) (c.requires.variables (into + k) (omega arith) (omega arith));
    }

pub loop-k-preserved : goal.loop-k-preserved
loop-k-preserved c =
    let l = level_of c.args.self.now in
    let into = c.args.into in
    let k = c.loop-k.k in
    let xs = c.args.results.now in
    let vs = map value_of (take k xs) in
    let count = front_length value_of xs k (omega arith) in
    c.put.ensures
    ∙ ap (λ g. still g (set g.registers (into + k) (Variable c.value.result))) c.loop-k.invariant
    ∙ ap (still l)
    ((λ i. set (given l.registers into vs) (into + sym count i) (Variable (c.value.ensures i)))
    ∙ sym (given_more vs l.registers into _)
    ∙ ap (given l.registers into) (sym (front_more value_of xs k _ (omega arith))))
