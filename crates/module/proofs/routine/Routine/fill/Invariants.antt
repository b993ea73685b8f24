use Rattle.std.proofs.Common.{◌≡◌, ℕ, ◌<◌, get_or}
use Rattle.module.specs.Shape.{sheet_row}
use Rattle.module.specs.Verdict.{blank}
use Rattle.module.proofs.routine.Routine.fill.Given as goal

-- the rows so far are the sheet's, and so is the one at hand
abbrev pub invariant-loop-i : goal.invariant-loop-i
invariant-loop-i l =
    (l.shape ≡ sheet_row l.self.module.now.bytes.now l.self.index l.i)
    × ((k : ℕ) → k < l.i → get_or l.rows k blank ≡ sheet_row l.self.module.now.bytes.now l.self.index k)
