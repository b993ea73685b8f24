-- What the opening tests give of a module's bytes, read plainly.
use Rattle.std.specs.Prelude.{◌≡◌, ℕ, ◌+◌, ◌*◌, ◌<◌, ◌≤◌, List, length}
use Rattle.module.specs.Layout.{routines, image_length, offset, count, arguments, results, before, total, length_given}

-- the entry of routine r: its body stands where the bodies before it end, and its numbers are in range
pub record EntryLaid (bs : List ℕ) (r : ℕ) : Type 0 where
  pub placed : offset bs r ≡ 4 + 8 * routines bs + 8 * before bs r
  pub full : 1 ≤ count bs r
  pub takes : arguments bs r ≤ 32
  pub gives : results bs r ≤ 8
  pub inside : before bs r + count bs r ≤ total bs

-- all of the bytes: the numbers of the header are in range, the length is the one that the contents give, routine 0 takes and
-- gives nothing, and every entry is laid out so
pub record Laid (bs : List ℕ) : Type 0 where
  pub some : 1 ≤ routines bs
  pub few : routines bs ≤ 64
  pub image : image_length bs ≤ 4096
  pub short : total bs ≤ 4096
  pub long : length bs ≡ length_given bs
  pub main : (arguments bs 0 ≡ 0) × (results bs 0 ≡ 0)
  pub entry : (r : ℕ) → r < routines bs → EntryLaid bs r
