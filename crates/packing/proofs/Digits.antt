-- Numbers and their bytes.
use Rattle.std.proofs.Common.{◌≡◌, ℕ, zero, suc, ◌+◌, ◌*◌, ◌/◌, ◌%◌, ◌<◌, List, [], ◌∷◌, get_or, refl, arith}
use Rattle.std.proofs.lemmas.Nat.{le_bytes_2, le_bytes_4, from_le_bytes-to_le_bytes_2, from_le_bytes-to_le_bytes_4}
use Rattle.packing.specs.Packed.{low2, low4}

none : (i : ℕ) → get_or [] i 0 < 256
none i = omega arith

-- one byte more
bytes_more : (a : ℕ) (bs : List ℕ) → a < 256 → ((i : ℕ) → get_or bs i 0 < 256) → (i : ℕ) → get_or (a ∷ bs) i 0 < 256
bytes_more a bs h p zero = h
bytes_more a bs h p (suc i) = p i

-- bytes to a number and back
pub low2_is : (a b : ℕ) → a < 256 → b < 256 → low2 (a + 256 * b) ≡ a ∷ b ∷ []
low2_is a b p q = le_bytes_2 (a ∷ b ∷ []) (a + 256 * b) refl (bytes_more a (b ∷ []) p (bytes_more b [] q none)) (omega arith)

pub low4_is : (a b c d : ℕ) → a < 256 → b < 256 → c < 256 → d < 256 → low4 (a + 256 * b + 65536 * c + 16777216 * d) ≡ a ∷ b ∷ c ∷ d ∷ []
low4_is a b c d p q r s =
    le_bytes_4 (a ∷ b ∷ c ∷ d ∷ []) (a + 256 * b + 65536 * c + 16777216 * d) refl
    (bytes_more a (b ∷ c ∷ d ∷ []) p (bytes_more b (c ∷ d ∷ []) q (bytes_more c (d ∷ []) r (bytes_more d [] s none))))
    (omega arith)

-- a number to bytes and back
pub two_back : (x : ℕ) → x < 65536 → x % 256 + 256 * (x / 256 % 256) ≡ x
two_back x h = omega (arith, from_le_bytes-to_le_bytes_2 x h)

pub four_back : (x : ℕ) → x < 4294967296 → x % 256 + 256 * (x / 256 % 256) + 65536 * (x / 65536 % 256) + 16777216 * (x / 16777216 % 256) ≡ x
four_back x h = omega (arith, from_le_bytes-to_le_bytes_4 x h)
