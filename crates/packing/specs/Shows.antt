-- What a packed module shows.
use Rattle.std.specs.Prelude.{◌≡◌, ℕ, ◌<◌, true, List, length, Ok}
use Rattle.isa.specs.declared.row.Row.{Row}
use Rattle.isa.specs.Form.{well_formed}
use Rattle.module.specs.declared.entry.Entry.{Entry}
use Rattle.module.specs.Contents.{entries, rows, image}
use Rattle.module.specs.Layout.{opening, counts}
use Rattle.packing.specs.Pack.{size}
use Rattle.packing.specs.Packed.{nth_row}

-- the bytes are as long as a module of these parts is, open, and show these entries, rows and image; and every row is well formed
pub record Shows (bs : List ℕ) (es : List Entry) (rs : List Row) (im : List ℕ) : Type 0 where
  pub long : length bs ≡ size es im
  pub opens : opening bs ≡ Ok (counts bs)
  pub contents : entries bs ≡ es
  pub bodies : rows bs ≡ rs
  pub last : image bs ≡ im
  pub formed : (k : ℕ) → k < length rs → well_formed (nth_row rs k) ≡ true
