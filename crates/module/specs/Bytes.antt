-- Numbers in a list of bytes, lowest byte first. Past the end a byte reads as 0.
use Rattle.std.specs.Prelude.{ℕ, ◌+◌, ◌*◌, ◌<◌, Bool, true, ◌&&◌, List, [], ◌∷◌, nat_lt, slice_index}

-- the number in one, in two and in four bytes from a place on
abbrev pub byte : List ℕ → ℕ → ℕ
byte bs at = slice_index bs at

abbrev pub two : List ℕ → ℕ → ℕ
two bs at = byte bs at + 256 * byte bs (at + 1)

abbrev pub four : List ℕ → ℕ → ℕ
four bs at = byte bs at + 256 * byte bs (at + 1) + 65536 * byte bs (at + 2) + 16777216 * byte bs (at + 3)

-- each number is a byte: as a statement and as a test
abbrev pub Octets : List ℕ → Type 0
Octets bs = (k : ℕ) → byte bs k < 256

abbrev pub octets : List ℕ → Bool
octets [] = true
octets (b ∷ bs) = nat_lt b 256 && octets bs
