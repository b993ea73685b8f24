-- The seven rules, read plainly, at every instruction of a module.
use Rattle.std.specs.Prelude.{◌≡◌, ℕ, ◌+◌, ◌<◌, ◌≤◌, true, false, ◌⊎◌, List, length, Some, slice_index_or}
use Rattle.isa.specs.declared.access.Span.{Span}
use Rattle.isa.specs.declared.instr.Instr.{Instr}
use Rattle.isa.specs.declared.instr.Instr.TheVariants.{New, Def, Kill, Call, Ret}
use Rattle.isa.specs.Access.{target, ends}
use Rattle.isa.specs.Form.{well_formed}
use Rattle.module.specs.Layout.{routines, count, arguments, results, row_at, instr}
use Rattle.module.specs.Rules.{access_in}
use Rattle.module.specs.Shape.{shape}

-- register k is one of the span
abbrev pub In : Span → ℕ → Type 0
In p k = (p.first ≤ k) × (k < p.first + p.len)

-- an instruction x of routine r reads, and writes, register k
abbrev pub Reads : List ℕ → ℕ → Instr → ℕ → Type 0
Reads bs r x k = In (access_in bs r x).reads.0 k ⊎ In (access_in bs r x).reads.1 k

abbrev pub Writes : List ℕ → ℕ → Instr → ℕ → Type 0
Writes bs r x k = In (access_in bs r x).writes.0 k ⊎ In (access_in bs r x).writes.1 k

-- how many registers there are at instruction i of routine r
abbrev pub depth : List ℕ → ℕ → ℕ → ℕ
depth bs r i = length (shape bs r i)

-- what the seven rules ask of x as instruction i of routine r, and that there are no more than 32 registers then
pub record Kept (bs : List ℕ) (r i : ℕ) (x : Instr) : Type 0 where
  pub formed : well_formed (row_at bs r i) ≡ true
  pub added : (x ≡ New) ⊎ ((n : ℕ) × (x ≡ Def n)) → depth bs r i ≤ 31
  pub removed : x ≡ Kill → 1 ≤ depth bs r i
  pub called : (a b n : ℕ) → x ≡ Call a b n → (n < routines bs) × (b + arguments bs n ≤ depth bs r i) × (a + results bs n ≤ depth bs r i)
  pub returned : (a : ℕ) → x ≡ Ret a → a + results bs r ≤ depth bs r i
  pub read : (k : ℕ) → Reads bs r x k → k < depth bs r i
  pub written : (k : ℕ) → Writes bs r x k → (k < depth bs r i) × (slice_index_or (shape bs r i) k true ≡ false)
  pub aimed : (n : ℕ) → target x ≡ Some n → (n < count bs r) × (shape bs r n ≡ shape bs r i)
  pub closed : i + 1 ≡ count bs r → ends x ≡ true
  pub shallow : depth bs r i ≤ 32

-- every row is an instruction, and it keeps the rules
abbrev pub KeptEverywhere : List ℕ → Type 0
KeptEverywhere bs = (r i : ℕ) → r < routines bs → i < count bs r → (x : Instr) × (instr bs r i ≡ Some x) × Kept bs r i x
