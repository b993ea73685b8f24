-- The shape at an instruction: a flag for each register, register 0 first, which is true if the register is a constant.
-- Shape follows the text, and not the run.
use Rattle.std.specs.Prelude.{ℕ, zero, suc, ◌+◌, ◌-◌, ◌*◌, Bool, true, false, cond, List, [], ◌∷◌, ◌++◌, map, length, take, replicate, Some, None, Option}
use Rattle.std.specs.List.{range_with_len}
use Rattle.isa.specs.declared.instr.Instr.{Instr}
use Rattle.isa.specs.declared.instr.Instr.TheVariants.{New, Def, Kill, Mov, Swap, Calc, Divide, Load, Store, Bal, Branch, Call, Ret, Get, Put, Tick}
use Rattle.module.specs.declared.shape.ShapeRow.{ShapeRow}
use Rattle.module.specs.Layout.{arguments, count, instr}

-- the shape that an instruction passes on
abbrev pub passed : Instr → List Bool → List Bool
passed New s = s ++ (false ∷ [])
passed (Def n) s = s ++ (true ∷ [])
passed Kill s = take (length s - 1) s
passed (Mov a b) s = s
passed (Swap a b) s = s
passed (Calc o a b c) s = s
passed (Divide p k a b c) s = s
passed (Load w a b n) s = s
passed (Store w a b n) s = s
passed (Bal n) s = s
passed (Branch t a b n) s = s
passed (Call a b n) s = s
passed (Ret a) s = s
passed (Get a c) s = s
passed (Put b c) s = s
passed Tick s = s

-- the shape after a row: a row that is no instruction passes the shape on as it is
abbrev pub after : Option Instr → List Bool → List Bool
after None s = s
after (Some x) s = passed x s

-- the shape at instruction i of routine r, which begins with its arguments as variables
abbrev pub shape : List ℕ → ℕ → ℕ → List Bool
shape bs r zero = replicate (arguments bs r) false
shape bs r (suc i) = after (instr bs r i) (shape bs r i)

-- bit k is set if register k is a constant
abbrev pub mask : List Bool → ℕ
mask [] = 0
mask (f ∷ s) = cond f 1 0 + 2 * mask s

-- a row of the sheet: the depth, and the constants among the first 32 registers
abbrev pub row_of : List Bool → ShapeRow
row_of s = record { depth = length s; mask = mask (take 32 s) }

-- the row of the sheet for instruction i of routine r
abbrev pub sheet_row : List ℕ → ℕ → ℕ → ShapeRow
sheet_row bs r i = row_of (shape bs r i)

-- the rows of one routine, and of all routines before r
abbrev pub routine_rows : List ℕ → ℕ → List ShapeRow
routine_rows bs r = map (sheet_row bs r) (range_with_len 0 (count bs r))

abbrev pub rows_before : List ℕ → ℕ → List ShapeRow
rows_before bs zero = []
rows_before bs (suc r) = rows_before bs r ++ routine_rows bs r
