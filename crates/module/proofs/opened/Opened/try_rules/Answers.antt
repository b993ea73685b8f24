use Rattle.std.proofs.Common.{Some, None, Err, sym, ap, ◌∙◌}
use Rattle.module.proofs.Turns.{rule_step, hold_more}
use Rattle.module.proofs.opened.Opened.try_rules.Goals as goal

pub returns-in-Some : goal.returns-in-Some
returns-in-Some c =
    let bs = c.args.self.now.bytes.now in
    ap Err c.broken.ensures
    ∙ sym (rule_step bs c.loop-rule.rule-index c.loop-rule-test.true (Some c.in-Some.place) c.in-Some.ensures)
    ∙ c.loop-rule.invariant.0

pub loop-rule-preserved : goal.loop-rule-preserved
loop-rule-preserved c =
    let bs = c.args.self.now.bytes.now in
    let i = c.loop-rule.rule-index in
    let lt = c.loop-rule-test.true in
    (sym (rule_step bs i lt None c.in_default.ensures) ∙ c.loop-rule.invariant.0, hold_more bs i lt c.loop-rule.invariant.1 c.in_default.ensures)
