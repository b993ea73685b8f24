use Rattle.std.proofs.Common.{◌≡◌, ◌+◌, ◌-◌, ◌≤◌, not, length, take, drop, Some, None, sym, refl, ap, ◌∙◌, add-one, arith, length-drop}
use Rattle.std.proofs.lemmas.List.{drop-drop}
use Rattle.std.specs.List.{position_from}
use Rattle.isa.specs.Form.{well_formed}
use Rattle.module.specs.First.{first_failing, first_place}
use Rattle.module.proofs.Firsts.{first_in, place_step}
use Rattle.packing.specs.Pack.{formed}
use Rattle.packing.specs.Packed.{nth_entry, before}
use Rattle.packing.proofs.Bodies.{body_first, words_more}
use Rattle.packing.proofs.Sums.{inside}
use Rattle.packing.proofs.test.Counted.first_malformed.Goals as goal
use Rattle.packing.proofs.test.Counted.first_malformed.Goals.{After-malformed_in}

pub split_at-requires : goal.split_at-requires
split_at-requires c =
    let p = c.args.self.now.parts in
    let es = p.entries.now in
    omega (arith, ap length c.loop-routine.invariant.rest, length-drop (before es c.loop-routine.routine) p.rows.now, inside es c.loop-routine.routine c.loop-routine-test.true, c.args.self.now.entries.all, c.from.ensures)

-- the routine's rows stand among all
within : (c : After-malformed_in) → before c.args.self.now.parts.entries.now c.loop-routine.routine + (nth_entry c.args.self.now.parts.entries.now c.loop-routine.routine).count ≤ length c.args.self.now.parts.rows.now
within c = omega (arith, inside c.args.self.now.parts.entries.now c.loop-routine.routine c.loop-routine-test.true, c.args.self.now.entries.all)

body_is : (c : After-malformed_in) → c.split_at.result.0.now ≡ take (nth_entry c.args.self.now.parts.entries.now c.loop-routine.routine).count c.loop-routine.rest.now
body_is c = c.split_at.ensures.front ∙ ap (λ n. take n c.loop-routine.rest.now) c.from.ensures

-- what malformed_in says of them, by their places
routine_first : (c : After-malformed_in) → position_from (λ row. not (well_formed row)) 0 c.split_at.result.0.now
    ≡ first_failing (formed c.args.self.now.parts.entries.now c.args.self.now.parts.rows.now c.loop-routine.routine) (nth_entry c.args.self.now.parts.entries.now c.loop-routine.routine).count 0
routine_first c =
    body_first c.args.self.now.parts.rows.now _ _ _ _ c.loop-routine.invariant.rest (body_is c) (within c) c.args.self.now.parts.entries.now c.loop-routine.routine refl refl

pub overflow_cast-result-in-Some : goal.overflow_cast-result-in-Some
overflow_cast-result-in-Some c =
    let p = c.args.self.now.parts in
    let es = p.entries.now in
    let r = c.loop-routine.routine in
    let back = (goal.at.overflow_cast-result-in-Some c).After-malformed_in in
    let first = c.in-Some.ensures.first ∙ routine_first back in
    omega (arith, first_in (formed es p.rows.now r) (nth_entry es r).count 0 c.in-Some.i (sym first), within back, c.args.self.now.entries.all, c.args.self.now.entries.short)

pub returns-in-Some-clause-first : goal.returns-in-Some-clause-first
returns-in-Some-clause-first c =
    let p = c.args.self.now.parts in
    let es = p.entries.now in
    let first = c.in-Some.ensures.first ∙ routine_first (goal.at.returns-in-Some-clause-first c).After-malformed_in in
    sym (place_step (formed es p.rows.now) (λ k. (nth_entry es k).count) (length es) c.loop-routine.routine (Some c.in-Some.i) c.loop-routine-test.true first) ∙ c.loop-routine.invariant.first

pub loop-routine-preserved : goal.loop-routine-preserved
loop-routine-preserved c =
    let p = c.args.self.now.parts in
    let es = p.entries.now in
    let rs = p.rows.now in
    let r = c.loop-routine.routine in
    let back = (goal.at.loop-routine-preserved c).After-malformed_in in
    let first = c.in_default.ensures.first ∙ routine_first back in
    let more = ap (before es) (add-one r) in
    record {
      rest = c.split_at.ensures.back ∙ ap (λ n. drop n c.loop-routine.rest.now) c.from.ensures ∙ ap (drop (nth_entry es r).count) c.loop-routine.invariant.rest ∙ drop-drop (nth_entry es r).count (before es r) rs ∙ ap (λ k. drop k rs) (sym more);
      first = sym (place_step (formed es rs) (λ k. (nth_entry es k).count) (length es) r None c.loop-routine-test.true first) ∙ c.loop-routine.invariant.first;
      words = λ k h. words_more rs _ _ _ _ c.loop-routine.invariant.rest (body_is back) (within back) c.loop-routine.invariant.words (c.in_default.ensures.words refl) k (omega (arith, more, h));
    }

pub returns-clause-first : goal.returns-clause-first
returns-clause-first c =
    let es = c.args.self.now.parts.entries.now in
    let r = c.loop-routine.routine in
    let none : length es - r ≡ 0 = omega arith in
    ap (λ left. first_place (formed es c.args.self.now.parts.rows.now) (λ k. (nth_entry es k).count) left r) (sym none) ∙ c.loop-routine.invariant.first

pub returns-clause-words : goal.returns-clause-words
returns-clause-words c =
    let es = c.args.self.now.parts.entries.now in
    let all : c.loop-routine.routine ≡ length es = omega arith in
    λ e k h. c.loop-routine.invariant.words k (omega (arith, h, ap (before es) all, c.args.self.now.entries.all))
