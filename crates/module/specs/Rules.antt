-- The seven rules of check, each as a test of instruction i of routine r.
use Rattle.std.specs.Prelude.{ℕ, ◌+◌, Bool, true, false, not, ◌&&◌, ◌||◌, List, [], ◌∷◌, length, take, drop, Some, None, Option, ◌==◌, nat_le, nat_lt}
use Rattle.isa.specs.declared.access.Access.{Access}
use Rattle.isa.specs.declared.access.Signature.{Signature}
use Rattle.isa.specs.declared.access.Span.{Span}
use Rattle.isa.specs.declared.instr.Instr.{Instr}
use Rattle.isa.specs.declared.instr.Instr.TheVariants.{New, Def, Kill, Mov, Swap, Calc, Divide, Load, Store, Bal, Branch, Call, Ret, Get, Put, Tick}
use Rattle.isa.specs.Access.{access, callee, target, ends}
use Rattle.isa.specs.Form.{well_formed}
use Rattle.module.specs.declared.rule.Rule.{Rule}
use Rattle.module.specs.declared.rule.Rule.TheVariants.{Form, Stack, Callee, Registers, Constants, Target, Ending}
use Rattle.module.specs.First.{passes}
use Rattle.module.specs.Layout.{routines, count, signature, row_at, instr}
use Rattle.module.specs.Shape.{shape}

-- KILL finds a register; NEW and DEF find at most 31.
abbrev pub stacks : ℕ → Instr → Bool
stacks depth New = nat_le depth 31
stacks depth (Def n) = nat_le depth 31
stacks depth Kill = nat_le 1 depth
stacks depth (Mov a b) = true
stacks depth (Swap a b) = true
stacks depth (Calc o a b c) = true
stacks depth (Divide p k a b c) = true
stacks depth (Load w a b n) = true
stacks depth (Store w a b n) = true
stacks depth (Bal n) = true
stacks depth (Branch t a b n) = true
stacks depth (Call a b n) = true
stacks depth (Ret a) = true
stacks depth (Get a c) = true
stacks depth (Put b c) = true
stacks depth Tick = true

-- CALL names a routine that there is.
abbrev pub calls : List ℕ → Instr → Bool
calls bs x = passes (λ n. nat_lt n (routines bs)) (callee x)

-- What the called routine takes and gives; no registers, where none is called. Of a routine past the last it is what stands in the
-- bytes at the place of its entry: no verdict shows it, as the rule of callees is tried before those of registers and constants.
abbrev pub callee_signature : List ℕ → Option ℕ → Signature
callee_signature bs None = record { arguments = 0; results = 0 }
callee_signature bs (Some n) = signature bs n

-- what an instruction of routine r reads and writes, by the entry of r and that of the routine that it calls
abbrev pub access_in : List ℕ → ℕ → Instr → Access
access_in bs r x = access x (callee_signature bs (callee x)) (signature bs r)

-- both spans pass the test
abbrev pub both : (Span → Bool) → Span × Span → Bool
both test p = test p.0 && test p.1

-- A span ends at the depth at most: its registers are below the depth, and one of no registers begins at the depth at most.
abbrev pub within_depth : ℕ → Span → Bool
within_depth depth p = nat_le (p.first + p.len) depth

-- Every span that is read or written lies within the depth.
abbrev pub registers : List ℕ → ℕ → ℕ → Instr → Bool
registers bs r depth x = both (within_depth depth) (access_in bs r x).reads && both (within_depth depth) (access_in bs r x).writes

-- no register is a constant
abbrev pub all_variables : List Bool → Bool
all_variables [] = true
all_variables (f ∷ s) = not f && all_variables s

-- No register of a span is a constant; one that is absent is none.
abbrev pub spares : List Bool → Span → Bool
spares s p = all_variables (take p.len (drop p.first s))

-- No constant is written.
abbrev pub constants : List ℕ → ℕ → List Bool → Instr → Bool
constants bs r s x = both (spares s) (access_in bs r x).writes

abbrev pub same_flag : Bool → Bool → Bool
same_flag true g = g
same_flag false g = not g

-- the same registers, and the same of them constants
abbrev pub same_shape : List Bool → List Bool → Bool
same_shape [] [] = true
same_shape [] (g ∷ t) = false
same_shape (f ∷ s) [] = false
same_shape (f ∷ s) (g ∷ t) = same_flag f g && same_shape s t

-- A branch stays in its routine, and goes where the shape is that at the branch, s.
abbrev pub targets : List ℕ → ℕ → List Bool → Instr → Bool
targets bs r s x = passes (λ n. nat_lt n (count bs r) && same_shape (shape bs r n) s) (target x)

-- The last instruction is BAL or RET.
abbrev pub closes : List ℕ → ℕ → ℕ → Instr → Bool
closes bs r i x = not (i + 1 == count bs r) || ends x

-- Instruction i of routine r keeps the rule. A row that is not well formed breaks the rule of form, and no other.
abbrev pub holds : Rule → List ℕ → ℕ → ℕ → Bool
holds Form bs r i = well_formed (row_at bs r i)
holds Stack bs r i = passes (stacks (length (shape bs r i))) (instr bs r i)
holds Callee bs r i = passes (calls bs) (instr bs r i)
holds Registers bs r i = passes (registers bs r (length (shape bs r i))) (instr bs r i)
holds Constants bs r i = passes (constants bs r (shape bs r i)) (instr bs r i)
holds Target bs r i = passes (targets bs r (shape bs r i)) (instr bs r i)
holds Ending bs r i = passes (closes bs r i) (instr bs r i)

-- the number of a rule, which is that of the refusal of a module that breaks it
abbrev pub rule_number : Rule → ℕ
rule_number Form = 5
rule_number Stack = 6
rule_number Callee = 7
rule_number Registers = 8
rule_number Constants = 9
rule_number Target = 10
rule_number Ending = 11

-- all of them, in the order in which they are tried
abbrev pub rules : List Rule
rules = Form ∷ Stack ∷ Callee ∷ Registers ∷ Constants ∷ Target ∷ Ending ∷ []
