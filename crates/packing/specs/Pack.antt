-- What pack answers, and what it leaves in the output.
use Rattle.std.specs.Prelude.{ℕ, ◌+◌, ◌-◌, ◌*◌, Bool, List, length, is_ok, Ok, Option, Result, ◌==◌, nat_le}
use Rattle.refusal.specs.Values.{Values, author, author_at, caller}
use Rattle.refusal.specs.declared.Place.{Place}
use Rattle.isa.specs.declared.row.Row.{Row}
use Rattle.isa.specs.Form.{well_formed}
use Rattle.module.specs.declared.entry.Entry.{Entry}
use Rattle.module.specs.First.{first_failing, first_place}
use Rattle.module.specs.Layout.{admitted, right, provided, unless, unless_wrong}
use Rattle.packing.specs.Packed.{nth_entry, nth_row, before, total, packed}
use Rattle.packing.specs.Written.{written_if}

-- a module may have so many routines and so long an image
abbrev pub counts_right : List Entry → List ℕ → Bool
counts_right es im = admitted (length es) (length im)

-- entry r may be that of routine r, after the entries before it
abbrev pub entry_right : List Entry → ℕ → Bool
entry_right es r = right (nth_entry es r) r (before es r)

-- instruction i of routine r is a well-formed row
abbrev pub formed : List Entry → List Row → ℕ → ℕ → Bool
formed es rs r i = well_formed (nth_row rs (before es r + i))

-- the first place whose row is not well formed
abbrev pub first_malformed : List Entry → List Row → Option Place
first_malformed es rs = first_place (formed es rs) (λ r. (nth_entry es r).count) (length es) 0

-- the rest, or 5 at the place of a row that is malformed
abbrev pub unless_malformed : {X : Type 0} → Option Place → Result X Values → Result X Values
unless_malformed place rest = unless (author_at 5) place rest

-- the length of the module
abbrev pub size : List Entry → List ℕ → ℕ
size es im = 4 + 8 * length es + 8 * total es + length im

-- the rest, if the counts and every entry are right and the entries count the rows; 3 at the last entry if they do not
abbrev pub if_counted : {X : Type 0} → List Entry → List Row → List ℕ → Result X Values → Result X Values
if_counted es rs im rest =
    provided (counts_right es im) (author 2 0 0)
    (unless_wrong (first_failing (entry_right es) (length es) 0)
    (provided (length rs == total es) (author 3 (length es - 1) 0) rest))

-- what is answered where n bytes are to be written into so many: n, or 13
abbrev pub if_room : ℕ → ℕ → Result ℕ Values
if_room n room = provided (nat_le n room) (caller 13) (Ok n)

-- what pack answers over an output of so many bytes
abbrev pub packing : List Entry → List Row → List ℕ → ℕ → Result ℕ Values
packing es rs im room = if_counted es rs im (unless_malformed (first_malformed es rs) (if_room (size es im) room))

-- the output after pack
abbrev pub output_after : List Entry → List Row → List ℕ → List ℕ → List ℕ
output_after es rs im out = written_if (is_ok (packing es rs im (length out))) (packed es rs im) out
