use Rattle.std.proofs.Common.{◌≡◌, ◌<◌, length, true, false, ap, ◌∙◌, arith, rules}
use borrow.Author.Tests.{tests}
use Rattle.std.proofs.lemmas.Iterator.{serves_from_Range, first_from_Range}
use Rattle.module.specs.First.{first_failing}
use Rattle.module.specs.Layout.{count}
use Rattle.module.specs.Rules.{holds}
use Rattle.module.specs.Told.{bytes_in}
use Rattle.module.proofs.Firsts.{first_found}
use Rattle.module.proofs.Lookup.{rows_long}
use Rattle.module.proofs.routine.Routine.breach.Goals as goal

pub find-requires-clause-callable : goal.find-requires-clause-callable
find-requires-clause-callable c =
    let t = c.args.self.now in
    let w = c.requires in
    let long = rows_long (bytes_in t) t.index c.args.rows.now w.filled in
    serves_from_Range (λ x q k. search rules) (λ x low high. let lt : x < count (bytes_in t) t.index = omega arith in search rules)

pub returns : goal.returns
returns c =
    let t = c.args.self.now in
    let test = holds c.args.rule (bytes_in t) t.index in
    let long = rows_long (bytes_in t) t.index c.args.rows.now c.requires.filled in
    let found = first_from_Range _ _ _ c.find.result (λ i. test i ≡ false) (λ i. test i ≡ true) c.find.ensures.ran (λ x q k. search (rules, tests)) (λ x q k. search (rules, tests)) in
    first_found test (length c.args.rows.now) c.find.result found ∙ ap (λ n. first_failing test n 0) long
