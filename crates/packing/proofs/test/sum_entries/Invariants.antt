use Rattle.std.proofs.Common.{◌≡◌, ◌-◌, ◌≤◌, length}
use Rattle.module.specs.First.{first_failing}
use Rattle.packing.specs.Pack.{entry_right}
use Rattle.packing.specs.Packed.{before}
use Rattle.packing.proofs.test.sum_entries.Given as goal

-- the entries from here on have the first wrong one of all
abbrev pub invariant-loop-routine : goal.invariant-loop-routine
invariant-loop-routine l =
    (l.sum ≡ before l.entries l.routine)
    × (l.sum ≤ 4096)
    × (first_failing (entry_right l.entries) (length l.entries - l.routine) l.routine ≡ first_failing (entry_right l.entries) (length l.entries) 0)
