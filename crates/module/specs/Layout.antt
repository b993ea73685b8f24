-- The layout of a module's bytes, and what open answers on any bytes.
use Rattle.std.specs.Prelude.{ℕ, ◌+◌, ◌*◌, Bool, cond, not, ◌&&◌, ◌||◌, List, length, Some, None, Ok, Err, Option, Result, ◌==◌, nat_le}
use Rattle.refusal.specs.Values.{Values, author}
use Rattle.isa.specs.declared.access.Signature.{Signature}
use Rattle.isa.specs.declared.instr.Instr.{Instr}
use Rattle.isa.specs.declared.row.Row.{Row}
use Rattle.isa.specs.Form.{decoded, row}
use Rattle.module.specs.declared.entry.Entry.{Entry}
use Rattle.module.specs.declared.opened.Counts.{Counts}
use Rattle.module.specs.Bytes.{byte, two, four}
use Rattle.module.specs.First.{first_failing, sum_to}

-- N, the number of routines
abbrev pub routines : List ℕ → ℕ
routines bs = two bs 0

-- D, the length of the image
abbrev pub image_length : List ℕ → ℕ
image_length bs = two bs 2

-- the entry of routine r: where its body begins, how many instructions it has, what it takes and gives
abbrev pub offset : List ℕ → ℕ → ℕ
offset bs r = four bs (4 + 8 * r)

abbrev pub count : List ℕ → ℕ → ℕ
count bs r = two bs (8 + 8 * r)

abbrev pub arguments : List ℕ → ℕ → ℕ
arguments bs r = byte bs (10 + 8 * r)

abbrev pub results : List ℕ → ℕ → ℕ
results bs r = byte bs (11 + 8 * r)

abbrev pub signature : List ℕ → ℕ → Signature
signature bs r = record { arguments = arguments bs r; results = results bs r }

-- the entry without the offset
abbrev pub entry_of : List ℕ → ℕ → Entry
entry_of bs r = record { count = count bs r; arguments = arguments bs r; results = results bs r }

-- how many instructions the routines before r have
abbrev pub before : List ℕ → ℕ → ℕ
before bs r = sum_to (count bs) r

-- T, the number of instructions
abbrev pub total : List ℕ → ℕ
total bs = before bs (routines bs)

-- N, D and T
abbrev pub counts : List ℕ → Counts
counts bs = record { routines = routines bs; image = image_length bs; total = total bs }

-- the row that begins at a byte
abbrev pub row_from : List ℕ → ℕ → Row
row_from bs at = row (byte bs at) (byte bs (at + 1)) (byte bs (at + 2)) (byte bs (at + 3)) (four bs (at + 4))

-- instruction i of routine r, as a row and decoded
abbrev pub row_at : List ℕ → ℕ → ℕ → Row
row_at bs r i = row_from bs (offset bs r + 8 * i)

abbrev pub instr : List ℕ → ℕ → ℕ → Option Instr
instr bs r i = decoded (row_at bs r i)

-- a module may have n routines and an image of d bytes
abbrev pub admitted : ℕ → ℕ → Bool
admitted n d = nat_le 1 n && (nat_le n 64 && nat_le d 4096)

-- N and D may be those of a module
abbrev pub counts_right : List ℕ → Bool
counts_right bs = admitted (routines bs) (image_length bs)

-- An entry may be that of routine r, after so many instructions in the routines before.
abbrev pub right : Entry → ℕ → ℕ → Bool
right e r earlier =
    nat_le 1 e.count
    && (nat_le e.arguments 32
    && (nat_le e.results 8
    && ((not (r == 0) || (e.arguments == 0 && e.results == 0))
    && nat_le (earlier + e.count) 4096)))

-- The entry of routine r may be its entry, and its body begins where the entries and the bodies before it end: bodies stand in the
-- order of their entries, without gaps.
abbrev pub entry_right : List ℕ → ℕ → Bool
entry_right bs r = (offset bs r == 4 + 8 * routines bs + 8 * before bs r) && right (entry_of bs r) r (before bs r)

-- the length that the contents give
abbrev pub length_given : List ℕ → ℕ
length_given bs = 4 + 8 * routines bs + 8 * total bs + image_length bs

-- the rest if the test holds, else the refusal
abbrev pub provided : {X : Type 0} → Bool → Values → Result X Values → Result X Values
provided test refused rest = cond test rest (Err refused)

-- the rest, or the refusal of what is found to be wrong
abbrev pub unless : {A X : Type 0} → (A → Values) → Option A → Result X Values → Result X Values
unless refusal None rest = rest
unless refusal (Some a) rest = Err (refusal a)

-- the rest, unless an entry is wrong
abbrev pub unless_wrong : {X : Type 0} → Option ℕ → Result X Values → Result X Values
unless_wrong entry rest = unless (λ r. author 3 r 0) entry rest

-- what open answers: the counts, or the refusal
abbrev pub opening : List ℕ → Result Counts Values
opening bs =
    provided (nat_le 4 (length bs)) (author 1 0 0)
    (provided (counts_right bs) (author 2 0 0)
    (provided (nat_le (4 + 8 * routines bs) (length bs)) (author 1 0 0)
    (unless_wrong (first_failing (entry_right bs) (routines bs) 0)
    (provided (length bs == length_given bs) (author 4 0 0)
    (Ok (counts bs))))))
