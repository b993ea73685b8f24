use Rattle.std.proofs.Common.{◌≡◌, ℕ, ◌*◌, ◌<◌, get_or}
use Rattle.host.specs.Ports.{blank}
use Rattle.engine.specs.Given.{row_at}
use Rattle.engine.proofs.given.fill_rows.Given as goal

abbrev pub invariant-loop-i : goal.invariant-loop-i
invariant-loop-i l = (j : ℕ) → j < l.i → get_or l.rows j blank ≡ row_at l.bytes (18 * j)
