-- Loads and stores: the lowest byte stands first.
use Rattle.std.specs.Prelude.{ℕ, ◌+◌, ◌/◌, ◌%◌, Bool, cond, List, Some, None, Option, nat_le, slice_set}
use Rattle.isa.specs.declared.instr.Width.{Width}
use Rattle.isa.specs.declared.instr.Width.TheVariants.{One, Two, Four}
use Rattle.isa.specs.Form.{bytes}
use Rattle.module.specs.Bytes.{byte, two, four}

-- the bytes of an access, from an address on, lie in memory
abbrev pub fits : ℕ → Width → Bool
fits address width = nat_le (address + bytes width) 4096

-- the number in so many bytes from an address on
abbrev pub loaded : List ℕ → ℕ → Width → ℕ
loaded memory at One = byte memory at
loaded memory at Two = two memory at
loaded memory at Four = four memory at

-- memory, with so many low bytes of v from an address on
abbrev pub stored : List ℕ → ℕ → Width → ℕ → List ℕ
stored memory at One v = slice_set memory at (v % 256)
stored memory at Two v = slice_set (slice_set memory at (v % 256)) (at + 1) (v / 256 % 256)
stored memory at Four v =
    slice_set (slice_set (slice_set (slice_set memory at (v % 256)) (at + 1) (v / 256 % 256)) (at + 2) (v / 65536 % 256)) (at + 3) (v / 16777216 % 256)

-- what a load at an address gives, or none where it passes the end of memory
abbrev pub loading : List ℕ → ℕ → Width → Option ℕ
loading memory address width = cond (fits address width) (Some (loaded memory address width)) None

-- memory after a store at an address: as it was where the store passes the end
abbrev pub storing : List ℕ → ℕ → Width → ℕ → List ℕ
storing memory address width v = cond (fits address width) (stored memory address width v) memory
