-- The two round trips.
use Rattle.std.specs.Prelude.{◌≡◌, ℕ, ◌&&◌, List, length, is_ok, Ok, nat_le}
use Rattle.refusal.specs.Values.{caller}
use Rattle.isa.specs.declared.row.Row.{Row}
use Rattle.module.specs.declared.entry.Entry.{Entry}
use Rattle.module.specs.Contents.{image}
use Rattle.module.specs.Layout.{provided}
use Rattle.packing.specs.Pack.{if_room, packing}
use Rattle.packing.specs.Packed.{packed}
use Rattle.packing.specs.Unpack.{unpacking, entries_after, rows_after}
use Rattle.packing.specs.Written.{written_if}

-- Bytes to bytes: these entries, rows and image, which came of the module bs, pack to its own bytes. Nothing is refused but
-- an output that is shorter.
pub record PacksTo (bs : List ℕ) (es : List Entry) (rs : List Row) (im : List ℕ) : Type 0 where
  pub verdict : (room : ℕ) → packing es rs im room ≡ if_room (length bs) room
  pub bytes : packed es rs im ≡ bs

-- Parts to parts: these entries, rows and image, which were packed to the bytes bs, come back where bs is a checked module that
-- is unpacked: unpack finds room for just so many, whatever is lent, and writes just these, and the image is the one that was given.
pub record UnpacksTo (bs : List ℕ) (es : List Entry) (rs : List Row) (im : List ℕ) : Type 0 where
  pub verdict : (n t : ℕ) → unpacking bs n t ≡ provided (nat_le (length es) n && nat_le (length rs) t) (caller 13) (Ok (length es, length rs))
  pub contents : (lent : List Entry) (other : List Row) → entries_after bs lent other ≡ written_if (is_ok (unpacking bs (length lent) (length other))) es lent
  pub bodies : (other : List Entry) (lent : List Row) → rows_after bs other lent ≡ written_if (is_ok (unpacking bs (length other) (length lent))) rs lent
  pub last : image bs ≡ im
