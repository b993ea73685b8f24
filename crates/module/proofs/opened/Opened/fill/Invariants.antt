use Rattle.std.proofs.Common.{◌≡◌, take}
use Rattle.module.specs.Layout.{before}
use Rattle.module.specs.Shape.{rows_before}
use Rattle.module.proofs.opened.Opened.fill.Given as goal

-- the rows of the routines so far are the sheet's
abbrev pub invariant-loop-index : goal.invariant-loop-index
invariant-loop-index l =
    (l.start ≡ before l.self.bytes.now l.index)
    × (take l.start l.rows ≡ rows_before l.self.bytes.now l.index)
