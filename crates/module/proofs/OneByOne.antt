-- Entries and rows of a checked module, read one by one.
use Rattle.std.proofs.Common.{◌≡◌, ℕ, ◌+◌, ◌*◌, ◌<◌, ◌≤◌, List, map, slice_get, Some, None, ap, sym, ◌∙◌, arith}
use Rattle.std.proofs.lemmas.List.FromFn.{length-map-range_with_len, get_or-map-range_with_len}
use Rattle.std.proofs.lemmas.Option.{slice_get-get_or, slice_get_past}
use Rattle.std.specs.List.{range_with_len}
use Rattle.module.specs.declared.contents.Contents.{Contents}
use Rattle.module.specs.Contents.{body_row, entries, rows}
use Rattle.module.specs.Layout.{entry_of, row_from}
use Rattle.module.specs.Told.{bytes_read}
use Rattle.module.proofs.Opens.{counts_opened}

-- a list that has what f gives of each number below n, as entries and rows are
module _ {X : Type 0} (f : ℕ → X) (n k : ℕ) where
  pub read_past : n ≤ k → slice_get (map f (range_with_len 0 n)) k ≡ None
  read_past h = slice_get_past (map f (range_with_len 0 n)) k (omega (arith, length-map-range_with_len f 0 n))

  pub read_there : k < n → slice_get (map f (range_with_len 0 n)) k ≡ Some (f k)
  read_there h =
      slice_get-get_or (map f (range_with_len 0 n)) k (f k) (omega (arith, length-map-range_with_len f 0 n))
      ∙ ap Some (get_or-map-range_with_len f 0 n k k (f k) h (omega arith))

module _ (t : Contents) (k : ℕ) where
  abbrev bs : List ℕ
  bs = bytes_read t

  pub no_entry : t.counts.routines ≤ k → slice_get (entries bs) k ≡ None
  no_entry h = read_past (entry_of bs) _ k (omega (arith, h, ap (λ x. x.routines) (counts_opened bs t.counts t.opens)))

  pub an_entry : k < t.counts.routines → slice_get (entries bs) k ≡ Some (entry_of bs k)
  an_entry h = read_there (entry_of bs) _ k (omega (arith, h, ap (λ x. x.routines) (counts_opened bs t.counts t.opens)))

  pub no_row : t.counts.total ≤ k → slice_get (rows bs) k ≡ None
  no_row h = read_past (body_row bs) _ k (omega (arith, h, ap (λ x. x.total) (counts_opened bs t.counts t.opens)))

  pub a_row : k < t.counts.total → slice_get (rows bs) k ≡ Some (row_from bs (4 + 8 * t.counts.routines + 8 * k))
  a_row h =
      let counted = counts_opened bs t.counts t.opens in
      read_there (body_row bs) _ k (omega (arith, h, ap (λ x. x.total) counted))
      ∙ ap (λ x. Some (row_from bs (4 + 8 * x.routines + 8 * k))) (sym counted)
