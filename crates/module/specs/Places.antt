-- What a module has at any place, whether there is such a place or not.
use Rattle.std.specs.Prelude.{ℕ, Bool, cond, ◌&&◌, List, Some, None, Option, nat_lt}
use Rattle.isa.specs.declared.access.Signature.{Signature}
use Rattle.isa.specs.declared.instr.Instr.{Instr}
use Rattle.module.specs.Layout.{routines, count, signature, instr}

-- there is an instruction i of a routine r
unfoldable pub inside : List ℕ → ℕ → ℕ → Bool
inside bs r i = nat_lt r (routines bs) && nat_lt i (count bs r)

-- the instruction there, or none if there is no such place or the row is not well formed
unfoldable pub instr_at : List ℕ → ℕ → ℕ → Option Instr
instr_at bs r i = cond (inside bs r i) (instr bs r i) None

-- what routine r takes and gives, or none if there is no such routine
unfoldable pub signature_at : List ℕ → ℕ → Option Signature
signature_at bs r = cond (nat_lt r (routines bs)) (Some (signature bs r)) None
