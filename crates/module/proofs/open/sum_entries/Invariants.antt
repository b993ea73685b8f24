use Rattle.std.proofs.Common.{◌≡◌, ◌-◌, ◌≤◌}
use Rattle.module.specs.First.{first_failing}
use Rattle.module.specs.Layout.{before, entry_right}
use Rattle.module.proofs.open.sum_entries.Given as goal

-- the entries from here on have the first wrong one of all
abbrev pub invariant-loop-routine : goal.invariant-loop-routine
invariant-loop-routine l =
    (l.sum ≡ before l.bytes l.routine)
    × (l.sum ≤ 4096)
    × (first_failing (entry_right l.bytes) (l.routines - l.routine) l.routine ≡ first_failing (entry_right l.bytes) l.routines 0)
