-- One rule after another.
use Rattle.std.proofs.Common.{◌≡◌, ℕ, ◌+◌, ◌-◌, ◌<◌, List, get_or, drop, None, Option, sym, refl, ap, ◌∙◌, subst, ⊎_elim, arith}
use Rattle.std.proofs.lemmas.List.{at_drop_more}
use Rattle.std.proofs.lemmas.Bool.{cases_lt}
use Rattle.refusal.specs.declared.Place.{Place}
use Rattle.module.specs.declared.rule.Rule.{Rule}
use Rattle.module.specs.declared.rule.Rule.TheVariants.{Form, Stack, Callee, Registers, Constants, Target, Ending}
use Rattle.module.specs.Layout.{routines}
use Rattle.module.specs.Ready.{Everywhere}
use Rattle.module.specs.Rules.{rule_number, rules}
use Rattle.module.specs.Verdict.{breach, or_next, tried}
use Rattle.module.proofs.Passes.{everywhere}

-- a rule stands at its number
rule_at : (q : Rule) → get_or rules (rule_number q - 5) Form ≡ q
rule_at Form = refl
rule_at Stack = refl
rule_at Callee = refl
rule_at Registers = refl
rule_at Constants = refl
rule_at Target = refl
rule_at Ending = refl

module _ (bs : List ℕ) (i : ℕ) (lt : i < 7) where
  abbrev rule : Rule
  rule = get_or rules i Form

  -- a turn, where o is the rule's first breach
  pub rule_step : (o : Option Place) → o ≡ breach rule bs (routines bs) 0 → tried (drop i rules) bs ≡ or_next rule o (tried (drop (i + 1) rules) bs)
  rule_step o e = at_drop_more (λ qs. tried qs bs) rules i Form lt ∙ ap (λ x. or_next rule x (tried (drop (i + 1) rules) bs)) (sym e)

  -- one rule more holds everywhere
  pub hold_more : ((q : Rule) → rule_number q < 5 + i → Everywhere q bs) → None ≡ breach rule bs (routines bs) 0 → (q : Rule) → rule_number q < 5 + (i + 1) → Everywhere q bs
  hold_more held e q h =
      ⊎_elim
      (held q)
      (λ g. let s : rule_number q - 5 ≡ i = omega arith in
      let same : rule ≡ q = ap (λ k. get_or rules k Form) (sym s) ∙ rule_at q in
      subst (λ p. Everywhere p bs) same (everywhere rule bs (sym e)))
      (cases_lt (rule_number q) (5 + i))
