-- What is lent: all its bytes are EE, so that it shows where nothing was written.
use Rattle.std.specs.Prelude.{ℕ, List, replicate, min}
use Rattle.isa.specs.declared.row.Row.{Row}
use Rattle.isa.specs.Form.{row}
use Rattle.module.specs.declared.entry.Entry.{Entry}
use Rattle.module.specs.declared.shape.ShapeRow.{ShapeRow}

-- a byte, a row of a sheet, an entry, and an instruction's row
abbrev pub lent_byte : ℕ
lent_byte = 238

abbrev pub lent_shape : ShapeRow
lent_shape = record { depth = 61166; mask = 4008636142 }

abbrev pub lent_entry : Entry
lent_entry = record { count = 61166; arguments = 238; results = 238 }

abbrev pub lent_row : Row
lent_row = row 238 238 238 238 4008636142

-- so many of what is lent, or as many as there is room for
abbrev pub lent : {X : Type 0} → X → ℕ → ℕ → List X
lent x most count = replicate (min count most) x
