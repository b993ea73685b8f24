-- What the tests of pack find of entries, rows and image that pass them.
use Rattle.std.specs.Prelude.{◌≡◌, ℕ, ◌^◌, ◌<◌, ◌≤◌, true, List, length}
use Rattle.isa.specs.declared.row.Row.{Row}
use Rattle.isa.specs.Form.{well_formed}
use Rattle.module.specs.declared.entry.Entry.{Entry}
use Rattle.packing.specs.Pack.{entry_right}
use Rattle.packing.specs.Packed.{nth_row, total}

-- the number of entries and the length of the image are in range, every entry is right, and the entries count the rows
pub record EntriesRight (es : List Entry) (rs : List Row) (im : List ℕ) : Type 0 where
  pub some : 1 ≤ length es
  pub few : length es ≤ 64
  pub small : length im ≤ 4096
  pub right : (r : ℕ) → r < length es → entry_right es r ≡ true
  pub short : total es ≤ 4096
  pub all : length rs ≡ total es

-- every row is well formed, and its n has 32 bits
pub record RowsRight (rs : List Row) : Type 0 where
  pub formed : (k : ℕ) → k < length rs → well_formed (nth_row rs k) ≡ true
  pub words : (k : ℕ) → k < length rs → (nth_row rs k).n < 2 ^ 32
