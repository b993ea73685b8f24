use Rattle.std.proofs.Common.{◌≡◌, ◌+◌, ◌<◌, drop}
use Rattle.module.specs.declared.rule.Rule.{Rule}
use Rattle.module.specs.Ready.{Everywhere}
use Rattle.module.specs.Rules.{rule_number, rules}
use Rattle.module.specs.Verdict.{tried}
use Rattle.module.proofs.opened.Opened.try_rules.Given as goal

-- the rules that are left give the verdict, and those before hold everywhere
abbrev pub invariant-loop-rule : goal.invariant-loop-rule
invariant-loop-rule l =
    (tried (drop l.rule-index rules) l.self.bytes.now ≡ tried rules l.self.bytes.now)
    × ((q : Rule) → rule_number q < 5 + l.rule-index → Everywhere q l.self.bytes.now)
