-- The rows of a routine, one by one.
use Rattle.std.proofs.Common.{◌≡◌, ℕ, ◌<◌, List, length, get_or, ap, ◌∙◌, arith}
use Rattle.std.proofs.lemmas.List.FromFn.{length-map-range_with_len, get_or-map-range_with_len}
use Rattle.module.specs.declared.shape.ShapeRow.{ShapeRow}
use Rattle.module.specs.Layout.{count}
use Rattle.module.specs.Shape.{sheet_row, routine_rows}
use Rattle.module.specs.Verdict.{blank}

module _ (bs : List ℕ) (r : ℕ) (rows : List ShapeRow) (e : rows ≡ routine_rows bs r) where
  pub rows_long : length rows ≡ count bs r
  rows_long = ap length e ∙ length-map-range_with_len (sheet_row bs r) 0 (count bs r)

  pub row_at_lem : (i : ℕ) → i < count bs r → get_or rows i blank ≡ sheet_row bs r i
  row_at_lem i h = ap (λ l. get_or l i blank) e ∙ get_or-map-range_with_len (sheet_row bs r) 0 (count bs r) i i blank h (omega arith)
