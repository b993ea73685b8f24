use Rattle.std.proofs.Common.{◌<◌, sym, ap, ◌∙◌, arith}
use Rattle.module.specs.declared.rule.Rule.TheVariants.{Stack, Callee}
use Rattle.module.specs.Rules.{holds, rule_number}
use Rattle.module.proofs.Keeps.{here_is, calls_here, shallow, stack_kept, registers_kept, constants_kept, target_kept, ending_kept}
use Rattle.module.proofs.Lookup.{rows_long}
use Rattle.module.proofs.routine.Routine.keeps.Goals as goal

pub bounds-rows-i : goal.bounds-rows-i
bounds-rows-i c = omega (arith, rows_long c.args.self.now.module.now.bytes.now c.args.self.now.index c.args.rows.now c.requires.turn.filled)

pub ending_holds-requires : goal.ending_holds-requires
ending_holds-requires c = omega (arith, rows_long c.args.self.now.module.now.bytes.now c.args.self.now.index c.args.rows.now c.requires.turn.filled)

pub access-requires : goal.access-requires
access-requires c =
    let w = c.requires.turn in
    let late : rule_number Callee < rule_number c.args.rule = omega (arith, ap rule_number c.in-Registers.is) in
    calls_here _ _ _ w _ c.requires.index _ (c.in-Some.ensures.inside c.requires.index) late

pub access-requires-in-Constants : goal.access-requires-in-Constants
access-requires-in-Constants c =
    let w = c.requires.turn in
    let late : rule_number Callee < rule_number c.args.rule = omega (arith, ap rule_number c.in-Constants.is) in
    calls_here _ _ _ w _ c.requires.index _ (c.in-Some.ensures.inside c.requires.index) late

pub returns-in-Stack : goal.returns-in-Stack
returns-in-Stack c =
    stack_kept _ _ _ c.requires.turn _ c.requires.index _ (c.in-Some.ensures.inside c.requires.index) _ c.stack_holds.ensures
    ∙ ap (λ q. holds q c.args.self.now.module.now.bytes.now c.args.self.now.index c.args.i) (sym c.in-Stack.is)

pub returns-in-Registers : goal.returns-in-Registers
returns-in-Registers c =
    registers_kept _ _ _ c.requires.turn _ c.requires.index _ (c.in-Some.ensures.inside c.requires.index) _ _ c.access.ensures c.registers_hold.ensures
    ∙ ap (λ q. holds q c.args.self.now.module.now.bytes.now c.args.self.now.index c.args.i) (sym c.in-Registers.is)

pub returns-in-Constants : goal.returns-in-Constants
returns-in-Constants c =
    let w = c.requires.turn in
    let late : rule_number Stack < rule_number c.args.rule = omega (arith, ap rule_number c.in-Constants.is) in
    let deep = shallow _ _ _ w _ c.requires.index _ (c.in-Some.ensures.inside c.requires.index) late c.args.i c.requires.index in
    let row = here_is _ _ _ w _ c.requires.index _ (c.in-Some.ensures.inside c.requires.index) in
    constants_kept _ _ _ w _ c.requires.index _ (c.in-Some.ensures.inside c.requires.index) _ _ c.access-in-Constants.ensures (c.constants_hold.ensures _ row deep)
    ∙ ap (λ q. holds q c.args.self.now.module.now.bytes.now c.args.self.now.index c.args.i) (sym c.in-Constants.is)

pub returns-in-Target : goal.returns-in-Target
returns-in-Target c =
    let w = c.requires.turn in
    let late : rule_number Stack < rule_number c.args.rule = omega (arith, ap rule_number c.in-Target.is) in
    let deep = shallow _ _ _ w _ c.requires.index _ (c.in-Some.ensures.inside c.requires.index) late in
    let row = here_is _ _ _ w _ c.requires.index _ (c.in-Some.ensures.inside c.requires.index) in
    target_kept _ _ _ w _ c.requires.index _ (c.in-Some.ensures.inside c.requires.index) _
    (c.target_holds.ensures c.args.self.now.module.now.bytes.now c.args.self.now.index _ w.filled row (deep c.args.i c.requires.index) deep)
    ∙ ap (λ q. holds q c.args.self.now.module.now.bytes.now c.args.self.now.index c.args.i) (sym c.in-Target.is)

pub returns-in-Ending : goal.returns-in-Ending
returns-in-Ending c =
    ending_kept _ _ _ c.requires.turn _ c.requires.index _ (c.in-Some.ensures.inside c.requires.index) _ c.ending_holds.ensures
    ∙ ap (λ q. holds q c.args.self.now.module.now.bytes.now c.args.self.now.index c.args.i) (sym c.in-Ending.is)
