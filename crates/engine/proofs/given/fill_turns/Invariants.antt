use Rattle.std.proofs.Common.{◌≡◌, ℕ, ◌*◌, ◌<◌, None, get_or}
use Rattle.drive.specs.declared.call.Call.TheVariants.{Grant}
use Rattle.engine.specs.Given.{call_at}
use Rattle.engine.proofs.given.fill_turns.Given as goal

abbrev pub invariant-loop-i : goal.invariant-loop-i
invariant-loop-i l = (j : ℕ) → j < l.i → get_or l.turns j (record { call = Grant 0; answer = None }) ≡ record { call = call_at l.bytes (5 * j); answer = None }
