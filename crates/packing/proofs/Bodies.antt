-- The rows of one routine among all.
use Rattle.std.proofs.Common.{◌≡◌, ℕ, suc, ◌+◌, ◌-◌, ◌^◌, ◌<◌, ◌≤◌, Bool, true, false, cond, not, List, [], ◌∷◌, length, take, drop, Some, refl, ap, ◌∙◌, subst, ⊎_elim, add-zero, arith, length-drop, length-take}
use Rattle.std.proofs.lemmas.List.{get_or-take, get_or-drop}
use Rattle.std.proofs.lemmas.Bool.{cases_lt}
use Rattle.std.specs.List.{position_from}
use Rattle.isa.specs.declared.row.Row.{Row}
use Rattle.isa.specs.Form.{well_formed}
use Rattle.module.specs.declared.entry.Entry.{Entry}
use Rattle.module.specs.First.{first_failing}
use Rattle.packing.specs.Pack.{formed}
use Rattle.packing.specs.Packed.{nth_entry, nth_row, before, no_row}

turned : {X : Type 0} (b : Bool) (x y : X) → cond (not b) x y ≡ cond b y x
turned true x y = refl
turned false x y = refl

-- the first row that is not well formed, where test k is the test of row k
position_first : (test : ℕ → Bool) (rs : List Row) (i : ℕ) → ((k : ℕ) → k < length rs → well_formed (nth_row rs k) ≡ test (i + k))
    → position_from (λ row. not (well_formed row)) i rs ≡ first_failing test (length rs) i
position_first test [] i e = refl
position_first test (x ∷ rs) i e =
    let here : well_formed x ≡ test i = e 0 (omega arith) ∙ ap test (add-zero i) in
    let later = position_first test rs (i + 1) (λ k h. let at : i + suc k ≡ i + 1 + k = omega arith in e (suc k) (omega arith) ∙ ap test at) in
    turned (well_formed x) (Some i) _ ∙ (λ j. cond (here j) (later j) (Some i))

-- a body is the first n of the rows from start on
module _ (rs rest body : List Row) (start n : ℕ) (p : rest ≡ drop start rs) (q : body ≡ take n rest) (room : start + n ≤ length rs) where
  body_long : length body ≡ n
  body_long = omega (arith, ap length p, ap length q, length-take n rest, length-drop start rs)

  body_at : (k : ℕ) → k < n → nth_row body k ≡ nth_row rs (start + k)
  body_at k h = ap (λ l. nth_row l k) q ∙ get_or-take n rest k no_row h ∙ ap (λ l. nth_row l k) p ∙ get_or-drop start rs k no_row

  pub body_first : (es : List Entry) (r : ℕ) → start ≡ before es r → n ≡ (nth_entry es r).count
      → position_from (λ row. not (well_formed row)) 0 body ≡ first_failing (formed es rs r) (nth_entry es r).count 0
  body_first es r e c =
      position_first (formed es rs r) body 0 (λ k h. let at : start + k ≡ before es r + (0 + k) = omega (arith, e) in ap well_formed (body_at k (omega (arith, body_long)) ∙ ap (nth_row rs) at))
      ∙ ap (λ m. first_failing (formed es rs r) m 0) (body_long ∙ c)

  -- words of the rows so far, and of a body after them
  pub words_more : ((k : ℕ) → k < start → (nth_row rs k).n < 2 ^ 32) → ((k : ℕ) → k < length body → (nth_row body k).n < 2 ^ 32) → (k : ℕ) → k < start + n → (nth_row rs k).n < 2 ^ 32
  words_more below part k h =
      ⊎_elim
      (below k)
      (λ g.
      let j = k - start in
      let at : start + j ≡ k = omega arith in
      subst (λ x. x.n < 2 ^ 32) (body_at j (omega arith) ∙ ap (nth_row rs) at) (part j (omega (arith, body_long))))
      (cases_lt k start)
