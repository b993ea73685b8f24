-- A nested routine as the rules see it, and what becomes of its registers.
use Rattle.std.specs.Prelude.{◌≡◌, ℕ, ◌+◌, ◌<◌, ◌≤◌, Bool, true, false, List, [], ◌∷◌, map, take, drop, slice_index_or, slice_set}
use Rattle.machine.specs.declared.frame.Frame.{Frame}
use Rattle.machine.specs.declared.frame.Register.{Register}
use Rattle.machine.specs.declared.frame.Register.TheVariants.{Variable, Constant}

-- A level is a nested routine: which it is, the instruction that it stands at, and its registers, register 0 first.
pub record Level : Type 0 where
  pub routine : ℕ
  pub pc : ℕ
  pub registers : List Register

-- the level of these three
abbrev pub level : ℕ → ℕ → List Register → Level
level routine pc registers = record { routine = routine; pc = pc; registers = registers }

-- what a frame stands for
abbrev pub level_of : Frame → Level
level_of f = level f.routine f.pc (take f.depth f.registers)

-- the value of a register
abbrev pub value_of : Register → ℕ
value_of (Variable v) = v
value_of (Constant v) = v

-- whether a register is a constant
abbrev pub is_constant : Register → Bool
is_constant (Variable v) = false
is_constant (Constant v) = true

-- the value of register a; 0 where there is none
unfoldable pub value : Level → ℕ → ℕ
value l a = value_of (slice_index_or l.registers a (Variable 0))

-- register a is a variable, or there is none
abbrev pub variable_at : Level → ℕ → Type 0
variable_at l a = is_constant (slice_index_or l.registers a (Variable 0)) ≡ false

-- count registers from a on are variables
abbrev pub Variables : Level → ℕ → ℕ → Type 0
Variables l a count = (k : ℕ) → a ≤ k → k < a + count → variable_at l k

-- the routine with these registers, at the same instruction
abbrev pub still : Level → List Register → Level
still l registers = level l.routine l.pc registers

-- the routine with these registers, one instruction on
abbrev pub onward : Level → List Register → Level
onward l registers = level l.routine (l.pc + 1) registers

-- one instruction on, register a being a variable of value v
abbrev pub wrote : Level → ℕ → ℕ → Level
wrote l a v = onward l (slice_set l.registers a (Variable v))

-- registers a and b, having exchanged their values, among the others
abbrev pub exchanged : Level → ℕ → ℕ → List Register
exchanged l a b = slice_set (slice_set l.registers a (Variable (value l b))) b (Variable (value l a))

-- one instruction on, registers a and b having exchanged their values
abbrev pub swapped : Level → ℕ → ℕ → Level
swapped l a b = onward l (exchanged l a b)

-- at instruction n
abbrev pub jumped : Level → ℕ → Level
jumped l n = level l.routine n l.registers

-- registers copied as variables
abbrev pub as_variables : List Register → List Register
as_variables registers = map (λ x. Variable (value_of x)) registers

-- count registers from b on, copied as variables
abbrev pub copied : List Register → ℕ → ℕ → List Register
copied registers b count = as_variables (take count (drop b registers))

-- the values of count registers from a on
abbrev pub values_from : List Register → ℕ → ℕ → List ℕ
values_from registers a count = map value_of (take count (drop a registers))

-- the registers, with variables of these values from a on
abbrev pub given : List Register → ℕ → List ℕ → List Register
given registers a [] = registers
given registers a (v ∷ vs) = given (slice_set registers a (Variable v)) (a + 1) vs
