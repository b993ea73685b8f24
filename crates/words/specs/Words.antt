-- What the instructions make of words: whole numbers below 2 ^ 32.
use Rattle.std.specs.Prelude.{◌≡◌, ℕ, suc, ◌+◌, ◌-◌, ◌*◌, ◌/◌, ◌%◌, ◌^◌, ◌<◌, Bool, true, false, cond, ◌⊎◌, ℤ, pos, negsuc, ◌-ℤ◌, ◌*ℤ◌, neg_ℤ, Some, None, Option, ◌==◌, bit_and, bit_or, bit_xor, int_div, int_lt, nat_lt, unsigned_abs}
use Rattle.isa.specs.declared.instr.Kind.{Kind}
use Rattle.isa.specs.declared.instr.Kind.TheVariants.{Unsigned, TowardsZero, Downwards}
use Rattle.isa.specs.declared.instr.Operation.{Operation}
use Rattle.isa.specs.declared.instr.Operation.TheVariants.{Add, Sub, Mul, And, Or, Xor, Sl, Srl, Sra}
use Rattle.isa.specs.declared.instr.Part.{Part}
use Rattle.isa.specs.declared.instr.Part.TheVariants.{Quotient, Remainder}
use Rattle.isa.specs.declared.instr.Test.{Test}
use Rattle.isa.specs.declared.instr.Test.TheVariants.{Equal, Less, LessSigned}

-- a word read as signed, in two's complement
abbrev pub signed : ℕ → ℤ
signed w = cond (nat_lt w (2 ^ 31)) (pos w) (pos w -ℤ pos (2 ^ 32))

-- an integer modulo 2 ^ 32; negsuc n is −(n + 1)
abbrev pub word : ℤ → ℕ
word (pos n) = n % 2 ^ 32
word (negsuc n) = 2 ^ 32 - 1 - n % 2 ^ 32

-- the quotient of a by b, rounded upwards
abbrev pub upwards : ℕ → ℕ → ℕ
upwards a b = (a + (b - 1)) / b

-- the quotient rounded downwards: where it is negative, its magnitude is rounded upwards
abbrev pub downwards : ℤ → ℤ → ℤ
downwards (pos a) (pos b) = pos (a / b)
downwards (pos a) (negsuc b) = neg_ℤ (pos (upwards a (suc b)))
downwards (negsuc a) (pos b) = neg_ℤ (pos (upwards (suc a) b))
downwards (negsuc a) (negsuc b) = pos (suc a / suc b)

-- b shifted right by c bits, filled with the sign bit: as signed, b is divided by 2 ^ c, rounded downwards; from 32 on
-- there are only copies of the sign bit
abbrev pub shifted_right : ℕ → ℕ → ℕ
shifted_right b c =
    cond (nat_lt c 32) (word (downwards (signed b) (pos (2 ^ c)))) (cond (nat_lt b (2 ^ 31)) 0 (2 ^ 32 - 1))

-- what an operation makes of the words b and c
abbrev pub calculated : Operation → ℕ → ℕ → ℕ
calculated Add b c = (b + c) % 2 ^ 32
calculated Sub b c = word (pos b -ℤ pos c)
calculated Mul b c = (b * c) % 2 ^ 32
calculated And b c = bit_and b c
calculated Or b c = bit_or b c
calculated Xor b c = bit_xor b c
calculated Sl b c = cond (nat_lt c 32) ((b * 2 ^ c) % 2 ^ 32) 0
calculated Srl b c = cond (nat_lt c 32) (b / 2 ^ c) 0
calculated Sra b c = shifted_right b c

-- the integer that a kind of division reads in a word
abbrev pub read_as : Kind → ℕ → ℤ
read_as Unsigned w = pos w
read_as TowardsZero w = signed w
read_as Downwards w = signed w

-- the quotient of each kind; int_div rounds towards zero
abbrev pub quotient_of : Kind → ℤ → ℤ → ℤ
quotient_of Unsigned x y = downwards x y
quotient_of TowardsZero x y = int_div x y
quotient_of Downwards x y = downwards x y

-- what a division of x by y keeps, where q is the quotient: that, or what it leaves
abbrev pub part_of : Part → ℤ → ℤ → ℤ → ℤ
part_of Quotient q x y = q
part_of Remainder q x y = x -ℤ q *ℤ y

-- a part of the word b divided by the word c, as a word, or none if c is 0
abbrev pub divided : Part → Kind → ℕ → ℕ → Option ℕ
divided part kind b c =
    let x : ℤ = read_as kind b in
    let y : ℤ = read_as kind c in
    cond (c == 0) None (Some (word (part_of part (quotient_of kind x y) x y)))

abbrev pub negative : ℤ → Bool
negative (pos n) = false
negative (negsuc n) = true

-- r is 0, or r and z are both below 0, or neither is
abbrev pub SignOf : ℤ → ℤ → Type 0
SignOf z r = (r ≡ pos 0) ⊎ (negative r ≡ negative z)

-- the sign of r, which a division of x by y leaves: unsigned it is not below 0; else it is 0 or has a sign, towards zero that of x,
-- downwards that of y
abbrev pub RemainderSign : Kind → ℤ → ℤ → ℤ → Type 0
RemainderSign Unsigned x y r = negative r ≡ false
RemainderSign TowardsZero x y r = SignOf x r
RemainderSign Downwards x y r = SignOf y r

-- the law that fixes a quotient: what a division of x by y leaves is smaller than the divisor, and has the sign of its kind
pub record RemainderLaw (k : Kind) (x y : ℤ) : Type 0 where
  pub smaller : unsigned_abs (part_of Remainder (quotient_of k x y) x y) < unsigned_abs y
  pub sign : RemainderSign k x y (part_of Remainder (quotient_of k x y) x y)

-- −7 by 2 is −3 with −1 left towards zero, and −4 with 1 left downwards; −2 ^ 31 by −1 is 2 ^ 31 with 0 left, and no word is read
-- as 2 ^ 31 when read as signed. A number below 0 stands here as the word that is read as it.
pub record DivisionExamples : Type 0 where
  pub quotient_towards_zero : divided Quotient TowardsZero 4294967289 2 ≡ Some 4294967293
  pub remainder_towards_zero : divided Remainder TowardsZero 4294967289 2 ≡ Some 4294967295
  pub quotient_downwards : divided Quotient Downwards 4294967289 2 ≡ Some 4294967292
  pub remainder_downwards : divided Remainder Downwards 4294967289 2 ≡ Some 1
  pub quotient_past_signed : divided Quotient TowardsZero 2147483648 4294967295 ≡ Some 2147483648
  pub remainder_past_signed : divided Remainder TowardsZero 2147483648 4294967295 ≡ Some 0

-- the words a and b pass a test
abbrev pub passing : Test → ℕ → ℕ → Bool
passing Equal a b = a == b
passing Less a b = nat_lt a b
passing LessSigned a b = int_lt (signed a) (signed b)
