use Rattle.std.proofs.Common.{◌≡◌, ◌-◌, drop}
use Rattle.module.specs.Layout.{routines, before}
use Rattle.module.specs.Shape.{rows_before}
use Rattle.module.specs.Verdict.{breach}
use Rattle.module.proofs.opened.Opened.breach.Given as goal

-- the rows from here on are left, and those routines have the first breach of all
abbrev pub invariant-loop-index : goal.invariant-loop-index
invariant-loop-index l =
    (l.rest ≡ drop (before l.self.bytes.now l.index) (rows_before l.self.bytes.now (routines l.self.bytes.now)))
    × (breach l.rule l.self.bytes.now (routines l.self.bytes.now - l.index) l.index ≡ breach l.rule l.self.bytes.now (routines l.self.bytes.now) 0)
