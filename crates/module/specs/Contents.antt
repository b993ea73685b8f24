-- What a module has: the entries of its routines, the rows of all bodies, and the image.
use Rattle.std.specs.Prelude.{ℕ, ◌+◌, ◌*◌, List, map, drop}
use Rattle.std.specs.List.{range_with_len}
use Rattle.isa.specs.declared.row.Row.{Row}
use Rattle.module.specs.declared.entry.Entry.{Entry}
use Rattle.module.specs.Layout.{routines, entry_of, total, row_from}

-- row k of all, in order of place: bodies stand one after the other
abbrev pub body_row : List ℕ → ℕ → Row
body_row bs k = row_from bs (4 + 8 * routines bs + 8 * k)

abbrev pub entries : List ℕ → List Entry
entries bs = map (entry_of bs) (range_with_len 0 (routines bs))

abbrev pub rows : List ℕ → List Row
rows bs = map (body_row bs) (range_with_len 0 (total bs))

abbrev pub image : List ℕ → List ℕ
image bs = drop (4 + 8 * routines bs + 8 * total bs) bs
