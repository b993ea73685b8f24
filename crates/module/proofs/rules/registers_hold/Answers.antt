use Rattle.std.proofs.Common.{◌≡◌, Bool, true, false, ◌&&◌, [], ◌∷◌, refl, ◌∙◌, rules}
use borrow.Author.Tests.{tests}
use Rattle.std.proofs.lemmas.Iterator.{YieldsList-from_slice}
use Rattle.std.proofs.lemmas.Iterator.Search.{all_from_yields_List}
use Rattle.module.specs.Rules.{within_depth}
use Rattle.module.proofs.rules.registers_hold.Goals as goal

four_hold : (a b c d : Bool) → (a && (b && (c && (d && true)))) ≡ ((a && b) && (c && d))
four_hold true true true true = refl
four_hold true true true false = refl
four_hold true true false d = refl
four_hold true false c d = refl
four_hold false b c d = refl

pub returns : goal.returns
returns c =
    let a = c.args.access in
    let all = a.reads.0 ∷ a.reads.1 ∷ a.writes.0 ∷ a.writes.1 ∷ [] in
    let test = within_depth c.args.depth in
    all_from_yields_List test _ _ _ c.all.ensures.ran (YieldsList-from_slice all c.iter.ensures.rest) (λ x b q k. search (rules, tests))
    ∙ four_hold (test a.reads.0) (test a.reads.1) (test a.writes.0) (test a.writes.1)
