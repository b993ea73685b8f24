-- A pass of one rule over the routines.
use Rattle.std.proofs.Common.{◌≡◌, ℕ, zero, suc, ◌+◌, ◌-◌, ◌<◌, ◌≤◌, List, length, take, drop, None, refl, ap, ◌∙◌, subst, ⊎_elim, arith, length-append, length-drop}
use Rattle.std.proofs.lemmas.List.FromFn.{length-map-range_with_len}
use Rattle.std.proofs.lemmas.List.{take_all, drop_at, drop-append-le, take-append-le}
use Rattle.std.proofs.lemmas.Bool.{cases_order}
use Rattle.module.specs.declared.rule.Rule.{Rule}
use Rattle.module.specs.Layout.{routines, count, before}
use Rattle.module.specs.Ready.{Everywhere}
use Rattle.module.specs.Rules.{holds}
use Rattle.module.specs.Shape.{sheet_row, routine_rows, rows_before}
use Rattle.module.specs.Verdict.{breach}
use Rattle.module.proofs.Firsts.{place_none, sum_mono}

module _ (bs : List ℕ) where
  pub rows_before_long : (n : ℕ) → length (rows_before bs n) ≡ before bs n
  rows_before_long zero = refl
  rows_before_long (suc n) =
      length-append (rows_before bs n) (routine_rows bs n)
      ∙ (λ i. rows_before_long n i + length-map-range_with_len (sheet_row bs n) 0 (count bs n) i)

  own_part : (r : ℕ) → take (count bs r) (drop (before bs r) (rows_before bs (suc r))) ≡ routine_rows bs r
  own_part r =
      ap (take (count bs r)) (drop_at (rows_before bs r) (routine_rows bs r) (before bs r) (rows_before_long r))
      ∙ take_all (count bs r) (routine_rows bs r) (omega (arith, length-map-range_with_len (sheet_row bs r) 0 (count bs r)))

  -- the rows of one routine among those of n
  pub rows_part : (n r : ℕ) → r < n → take (count bs r) (drop (before bs r) (rows_before bs n)) ≡ routine_rows bs r
  rows_part zero r h = absurd (omega arith)
  rows_part (suc n) r h =
      let l = rows_before_long n in
      ⊎_elim
      (λ e. subst (λ m. take (count bs r) (drop (before bs r) (rows_before bs (suc m))) ≡ routine_rows bs r) e (own_part r))
      (⊎_elim
      (λ lt.
      let sum : before bs (suc r) ≤ before bs (suc r + (n - suc r)) = sum_mono (count bs) (suc r) (n - suc r) in
      let all : suc r + (n - suc r) ≡ n = omega arith in
      let room : before bs r + count bs r ≤ length (rows_before bs n) = omega (arith, sum, ap (before bs) all, l) in
      ap (take (count bs r)) (drop-append-le (before bs r) (rows_before bs n) (routine_rows bs n) (omega arith))
      ∙ take-append-le (count bs r) (drop (before bs r) (rows_before bs n)) (routine_rows bs n) (omega (arith, length-drop (before bs r) (rows_before bs n), room))
      ∙ rows_part n r lt)
      (λ gt. absurd (omega arith)))
      (cases_order r n)

-- a rule without a breach holds everywhere
pub everywhere : (q : Rule) (bs : List ℕ) → breach q bs (routines bs) 0 ≡ None → Everywhere q bs
everywhere q bs e r i h k = place_none (holds q bs) (count bs) (routines bs) 0 e r i (omega arith) (omega arith) k
