use Rattle.std.proofs.Common.{◌≡◌, ℕ, ◌<◌}
use Rattle.module.specs.Contents.{body_row}
use Rattle.module.specs.Told.{bytes_read}
use Rattle.packing.specs.Packed.{nth_row}
use Rattle.packing.proofs.unpack.write_rows.Given as goal

-- the rows so far
abbrev pub invariant-loop-k : goal.invariant-loop-k
invariant-loop-k l = (j : ℕ) → j < l.k → nth_row l.rows j ≡ body_row (bytes_read l.contents) j
