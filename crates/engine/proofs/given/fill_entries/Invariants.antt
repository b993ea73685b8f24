use Rattle.std.proofs.Common.{◌≡◌, ℕ, ◌*◌, ◌<◌, get_or}
use Rattle.engine.specs.Given.{entry_at}
use Rattle.packing.specs.Packed.{no_entry}
use Rattle.engine.proofs.given.fill_entries.Given as goal

abbrev pub invariant-loop-i : goal.invariant-loop-i
invariant-loop-i l = (j : ℕ) → j < l.i → get_or l.entries j no_entry ≡ entry_at l.bytes (4 * j)
