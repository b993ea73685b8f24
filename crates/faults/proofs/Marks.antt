-- Lists in which no marked fault stands after one without a mark.
use Rattle.std.proofs.Common.{◌≡◌, ℕ, zero, suc, ◌+◌, ◌<◌, true, false, not, List, [], ◌∷◌, ◌++◌, map, length, get_or, drop, filter, sym, refl, ap, ◌∙◌, inl, inr, arith}
use Rattle.std.proofs.lemmas.Bool.{cases_lt, both_ways, cond-true, cond-false}
use Rattle.std.proofs.lemmas.List.{length-map, length-drop, length_push, get_or-map, get_or-drop, get_or_append_left}
use Rattle.std.proofs.Math.Seq.{get_or-append_seam}
use Rattle.std.specs.List.{AllWithin}
use Rattle.std.specs.List.Sorted.{IsPartitionedBy}
use Rattle.faults.specs.declared.fault.Fault.{Fault}
use Rattle.faults.specs.Faults.{FaultValues, values_of, marked, is_marked}
use Rattle.faults.specs.Lists.{cycled, MarkedFirst}
use Rattle.faults.proofs.Rows.{mark_is}

pub first-drop : (n : ℕ) (faults : List FaultValues) → MarkedFirst faults → MarkedFirst (drop n faults)
first-drop n faults first i j d le lt m =
    ap is_marked (get_or-drop n faults i d)
    ∙ first (n + i) (n + j) d (omega arith) (omega (arith, length-drop n faults)) (sym (ap is_marked (get_or-drop n faults j d)) ∙ m)

pub first-push : (new : FaultValues) → is_marked new ≡ false → (faults : List FaultValues) → MarkedFirst faults → MarkedFirst (faults ++ (new ∷ []))
first-push new unmarked faults first i j d le lt m = elim (cases_lt j (length faults)) [
  | inl h ↦
      let here : (k : ℕ) → k < length faults → is_marked (get_or (faults ++ (new ∷ [])) k d) ≡ is_marked (get_or faults k d)
      = λ k less. ap is_marked (get_or_append_left faults (new ∷ []) d k less) in
      here i (omega arith) ∙ first i j d le h (sym (here j h) ∙ m)
  | inr h ↦
      let last : j ≡ length faults = omega (arith, length_push faults new) in
      let new-marked = sym (ap is_marked (ap (λ k. get_or (faults ++ (new ∷ [])) k d) last ∙ get_or-append_seam faults new [] d)) ∙ m in
      absurd (both_ways (is_marked new) unmarked new-marked)
]

-- after a power cycle all are marked
pub first-cycled : (faults : List FaultValues) → MarkedFirst (cycled faults)
first-cycled faults i j d le lt m =
    let left = filter (λ fault. not (is_marked fault)) faults in
    ap is_marked (get_or-map marked left i d d (omega (arith, length-map left marked)))

-- the same of rows, by their flags
pub first_rows : (rows : List Fault) → MarkedFirst (map values_of rows) → IsPartitionedBy (λ fault. fault.marked) rows
first_rows rows first i j d le lt m =
    let flag : (k : ℕ) → k < length rows → is_marked (get_or (map values_of rows) k (values_of d)) ≡ (get_or rows k d).marked
    = λ k h. ap is_marked (get_or-map values_of rows k d (values_of d) h) ∙ mark_is (get_or rows k d) in
    sym (flag i (omega arith)) ∙ first i j (values_of d) le (omega (arith, length-map rows values_of)) (flag j lt ∙ m)

-- where the first k rows are marked and the others not, a cycle leaves the others
pub left_after : (k : ℕ) (rows : List Fault)
    → AllWithin (λ fault. fault.marked ≡ true) rows 0 k
    → AllWithin (λ fault. fault.marked ≡ false) rows k (length rows)
    → filter (λ fault. not (is_marked fault)) (map values_of rows) ≡ drop k (map values_of rows)
left_after zero [] before after = refl
left_after (suc k) [] before after = refl
left_after zero (row ∷ rows) before after =
    let here : is_marked (values_of row) ≡ false = mark_is row ∙ after 0 row (omega arith) (omega arith) in
    let later = left_after zero rows (λ k d low high. absurd (omega arith)) (λ k d low high. after (suc k) d (omega arith) (omega arith)) in
    cond-true _ _ _ (ap not here) ∙ ap (λ rest. values_of row ∷ rest) later
left_after (suc k) (row ∷ rows) before after =
    let here : is_marked (values_of row) ≡ true = mark_is row ∙ before 0 row (omega arith) (omega arith) in
    let later = left_after k rows (λ i d low high. before (suc i) d (omega arith) (omega arith)) (λ i d low high. after (suc i) d (omega arith) (omega arith)) in
    cond-false _ _ _ (ap not here) ∙ later
