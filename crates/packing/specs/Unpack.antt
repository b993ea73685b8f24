-- What unpack and repack answer of the module bs, and what unpack leaves in entries and rows.
use Rattle.std.specs.Prelude.{ℕ, Bool, ◌&&◌, List, length, is_ok, Ok, Result, nat_le}
use Rattle.refusal.specs.Values.{Values, caller}
use Rattle.isa.specs.declared.row.Row.{Row}
use Rattle.module.specs.declared.entry.Entry.{Entry}
use Rattle.module.specs.Contents.{entries, rows}
use Rattle.module.specs.Layout.{routines, total, provided}
use Rattle.packing.specs.Written.{written_if}

-- es entries and rs rows are enough
abbrev pub roomy : List ℕ → ℕ → ℕ → Bool
roomy bs es rs = nat_le (routines bs) es && nat_le (total bs) rs

-- what unpack answers over es entries and rs rows: how many it wrote, or 13
abbrev pub unpacking : List ℕ → ℕ → ℕ → Result (ℕ × ℕ) Values
unpacking bs es rs = provided (roomy bs es rs) (caller 13) (Ok (routines bs, total bs))

-- the entries and the rows after unpack
abbrev pub entries_after : List ℕ → List Entry → List Row → List Entry
entries_after bs es rs = written_if (is_ok (unpacking bs (length es) (length rs))) (entries bs) es

abbrev pub rows_after : List ℕ → List Entry → List Row → List Row
rows_after bs es rs = written_if (is_ok (unpacking bs (length es) (length rs))) (rows bs) rs

-- what repack answers over es entries, rs rows and an output of so many bytes: the length of the module, or 13
abbrev pub repacking : List ℕ → ℕ → ℕ → ℕ → Result ℕ Values
repacking bs es rs room = provided (roomy bs es rs && nat_le (length bs) room) (caller 13) (Ok (length bs))
