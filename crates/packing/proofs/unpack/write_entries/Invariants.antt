use Rattle.std.proofs.Common.{◌≡◌, ℕ, ◌<◌}
use Rattle.module.specs.Layout.{entry_of}
use Rattle.module.specs.Told.{bytes_read}
use Rattle.packing.specs.Packed.{nth_entry}
use Rattle.packing.proofs.unpack.write_entries.Given as goal

-- the entries so far
abbrev pub invariant-loop-r : goal.invariant-loop-r
invariant-loop-r l = (k : ℕ) → k < l.r → nth_entry l.entries k ≡ entry_of (bytes_read l.contents) k
