use Rattle.std.proofs.Common.{◌≡◌, ℕ, ◌*◌, ◌<◌, get_or}
use Rattle.module.specs.Layout.{row_from}
use Rattle.packing.specs.Packed.{no_row}
use Rattle.engine.proofs.given.fill_instructions.Given as goal

abbrev pub invariant-loop-i : goal.invariant-loop-i
invariant-loop-i l = (j : ℕ) → j < l.i → get_or l.rows j no_row ≡ row_from l.bytes (8 * j)
