-- The bytes of a module that is put together from entries without offsets, rows and an image.
use Rattle.std.specs.Prelude.{ℕ, zero, suc, ◌+◌, ◌*◌, ◌/◌, ◌%◌, List, [], ◌∷◌, ◌++◌, length, slice_index_or}
use Rattle.isa.specs.declared.row.Row.{Row}
use Rattle.isa.specs.Form.{row}
use Rattle.module.specs.declared.entry.Entry.{Entry}
use Rattle.module.specs.First.{sum_to}

-- the two and the four lowest bytes of a number, the lowest first
abbrev pub low2 : ℕ → List ℕ
low2 x = x % 256 ∷ x / 256 % 256 ∷ []

abbrev pub low4 : ℕ → List ℕ
low4 x = x % 256 ∷ x / 256 % 256 ∷ x / 65536 % 256 ∷ x / 16777216 % 256 ∷ []

-- what the definitions read where there is no entry and no row; no answer shows it
abbrev pub no_entry : Entry
no_entry = record { count = 0; arguments = 0; results = 0 }

abbrev pub no_row : Row
no_row = row 0 0 0 0 0

-- entry r and row k of a list
abbrev pub nth_entry : List Entry → ℕ → Entry
nth_entry es r = slice_index_or es r no_entry

abbrev pub nth_row : List Row → ℕ → Row
nth_row rs k = slice_index_or rs k no_row

-- how many instructions the routines before r have, and all of them
abbrev pub before : List Entry → ℕ → ℕ
before es r = sum_to (λ k. (nth_entry es k).count) r

abbrev pub total : List Entry → ℕ
total es = before es (length es)

-- the eight bytes of an entry, with the offset at which its body stands
abbrev pub entry_bytes : List Entry → ℕ → List ℕ
entry_bytes es r =
    low4 (4 + 8 * length es + 8 * before es r) ++ (low2 (nth_entry es r).count ++ ((nth_entry es r).arguments ∷ (nth_entry es r).results ∷ []))

-- the eight bytes of an instruction
abbrev pub row_bytes : Row → List ℕ
row_bytes x = x.op ∷ x.a ∷ x.b ∷ x.c ∷ low4 x.n

-- n blocks, one after the other
abbrev pub blocks : (ℕ → List ℕ) → ℕ → List ℕ
blocks f zero = []
blocks f (suc n) = blocks f n ++ f n

-- header, entries, bodies, image
abbrev pub packed : List Entry → List Row → List ℕ → List ℕ
packed es rs im =
    (low2 (length es) ++ low2 (length im))
    ++ (blocks (entry_bytes es) (length es) ++ (blocks (λ k. row_bytes (nth_row rs k)) (length rs) ++ im))
