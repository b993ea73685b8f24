-- The form of instructions: which rows are well formed, which instruction each of them is, and the row of each instruction.
use Rattle.std.specs.Prelude.{ℕ, Bool, cond, not, ◌&&◌, ◌||◌, Some, None, Option, ◌==◌, nat_le}
use Rattle.isa.specs.declared.row.Row.{Row}
use Rattle.isa.specs.declared.instr.Operation.{Operation}
use Rattle.isa.specs.declared.instr.Operation.TheVariants.{Add, Sub, Mul, And, Or, Xor, Sl, Srl, Sra}
use Rattle.isa.specs.declared.instr.Part.{Part}
use Rattle.isa.specs.declared.instr.Part.TheVariants.{Quotient, Remainder}
use Rattle.isa.specs.declared.instr.Kind.{Kind}
use Rattle.isa.specs.declared.instr.Kind.TheVariants.{Unsigned, TowardsZero, Downwards}
use Rattle.isa.specs.declared.instr.Width.{Width}
use Rattle.isa.specs.declared.instr.Width.TheVariants.{One, Two, Four}
use Rattle.isa.specs.declared.instr.Test.{Test}
use Rattle.isa.specs.declared.instr.Test.TheVariants.{Equal, Less, LessSigned}
use Rattle.isa.specs.declared.instr.Instr.{Instr}
use Rattle.isa.specs.declared.instr.Instr.TheVariants.{New, Def, Kill, Mov, Swap, Calc, Divide, Load, Store, Bal, Branch, Call, Ret, Get, Put, Tick}

-- x is one of low to high, both included
abbrev pub within : ℕ → ℕ → ℕ → Bool
within low high x = nat_le low x && nat_le x high

-- the opcodes that name each field
abbrev pub names_a : ℕ → Bool
names_a op = within 3 17 op || within 19 24 op

abbrev pub names_b : ℕ → Bool
names_b op = within 3 17 op || (within 19 22 op || op == 25)

abbrev pub names_c : ℕ → Bool
names_c op = within 5 17 op || within 24 25 op

abbrev pub names_n : ℕ → Bool
names_n op = op == 1 || (within 8 9 op || within 16 22 op)

-- the numbers of the kinds, and of the widths
abbrev pub is_kind : ℕ → Bool
is_kind n = nat_le n 2

abbrev pub is_width : ℕ → Bool
is_width c = c == 1 || (c == 2 || c == 4)

-- The opcode is known, a field that it does not name is 0, a division has one of three kinds and an access one of three
-- widths.
abbrev pub well_formed : Row → Bool
well_formed r =
    nat_le r.op 26
    && ((names_a r.op || r.a == 0)
    && ((names_b r.op || r.b == 0)
    && ((names_c r.op || r.c == 0)
    && ((names_n r.op || r.n == 0)
    && ((not (within 8 9 r.op) || is_kind r.n)
    && (not (within 16 17 r.op) || is_width r.c))))))

-- what stands in a row for an operation, a part, a kind, a width and a test
abbrev pub opcode : Operation → ℕ
opcode Add = 5
opcode Sub = 6
opcode Mul = 7
opcode And = 10
opcode Or = 11
opcode Xor = 12
opcode Sl = 13
opcode Srl = 14
opcode Sra = 15

abbrev pub part_code : Part → ℕ
part_code Quotient = 8
part_code Remainder = 9

abbrev pub kind_number : Kind → ℕ
kind_number Unsigned = 0
kind_number TowardsZero = 1
kind_number Downwards = 2

abbrev pub bytes : Width → ℕ
bytes One = 1
bytes Two = 2
bytes Four = 4

abbrev pub test_code : Test → ℕ
test_code Equal = 19
test_code Less = 20
test_code LessSigned = 21

-- the row of this opcode and these fields
abbrev pub row : ℕ → ℕ → ℕ → ℕ → ℕ → Row
row op a b c n = record { op = op; a = a; b = b; c = c; n = n }

-- the row of an instruction
abbrev pub encoded : Instr → Row
encoded New = row 0 0 0 0 0
encoded (Def n) = row 1 0 0 0 n
encoded Kill = row 2 0 0 0 0
encoded (Mov a b) = row 3 a b 0 0
encoded (Swap a b) = row 4 a b 0 0
encoded (Calc o a b c) = row (opcode o) a b c 0
encoded (Divide p k a b c) = row (part_code p) a b c (kind_number k)
encoded (Load w a b n) = row 16 a b (bytes w) n
encoded (Store w a b n) = row 17 a b (bytes w) n
encoded (Bal n) = row 18 0 0 0 n
encoded (Branch t a b n) = row (test_code t) a b 0 n
encoded (Call a b n) = row 22 a b 0 n
encoded (Ret a) = row 23 a 0 0 0
encoded (Get a c) = row 24 a 0 c 0
encoded (Put b c) = row 25 0 b c 0
encoded Tick = row 26 0 0 0 0

-- What an opcode or a field stands for, where it stands for something of that kind. For any other number these give the last
-- case; no conversion and no decoded row shows that.
abbrev pub operation : ℕ → Operation
operation op =
    cond (op == 5) Add (cond (op == 6) Sub (cond (op == 7) Mul
    (cond (op == 10) And (cond (op == 11) Or (cond (op == 12) Xor
    (cond (op == 13) Sl (cond (op == 14) Srl Sra)))))))

abbrev pub part : ℕ → Part
part op = cond (op == 8) Quotient Remainder

abbrev pub kind : ℕ → Kind
kind n = cond (n == 0) Unsigned (cond (n == 1) TowardsZero Downwards)

abbrev pub width : ℕ → Width
width c = cond (c == 1) One (cond (c == 2) Two Four)

abbrev pub test : ℕ → Test
test op = cond (op == 19) Equal (cond (op == 20) Less LessSigned)

-- the instruction of a row, by its opcode, if the row is well formed; decoded asks whether it is
abbrev pub instruction : Row → Instr
instruction r =
    cond (r.op == 0) New
    (cond (r.op == 1) (Def r.n)
    (cond (r.op == 2) Kill
    (cond (r.op == 3) (Mov r.a r.b)
    (cond (r.op == 4) (Swap r.a r.b)
    (cond (within 8 9 r.op) (Divide (part r.op) (kind r.n) r.a r.b r.c)
    (cond (within 5 15 r.op) (Calc (operation r.op) r.a r.b r.c)
    (cond (r.op == 16) (Load (width r.c) r.a r.b r.n)
    (cond (r.op == 17) (Store (width r.c) r.a r.b r.n)
    (cond (r.op == 18) (Bal r.n)
    (cond (within 19 21 r.op) (Branch (test r.op) r.a r.b r.n)
    (cond (r.op == 22) (Call r.a r.b r.n)
    (cond (r.op == 23) (Ret r.a)
    (cond (r.op == 24) (Get r.a r.c)
    (cond (r.op == 25) (Put r.b r.c)
    Tick))))))))))))))

-- a row's instruction, or none if the row is not well formed
abbrev pub decoded : Row → Option Instr
decoded r = cond (well_formed r) (Some (instruction r)) None
