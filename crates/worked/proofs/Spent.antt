-- A grant, by the steps that it makes.
use Rattle.std.proofs.Common.{◌≡◌, ℕ, ◌≤◌, true, ◌&&◌, cond, List, Some, None}
use Rattle.std.proofs.lemmas.Bool.{le-leb}
use Rattle.refusal.specs.Values.{caller}
use Rattle.machine.specs.World.{running, World}
use Rattle.machine.specs.Fuel.{TickRule, by_phase, steps, advanced}
use Rattle.drive.specs.declared.call.Call.TheVariants.{Grant}
use Rattle.drive.specs.Calls.{is_fuel, trips_of, accepted, unless_refused, outcome}

fuel_right : (fuel : ℕ) → 1 ≤ fuel → fuel ≤ 10000 → is_fuel fuel ≡ true
fuel_right fuel some few = λ i. le-leb 1 fuel some i && le-leb fuel 10000 few i

-- the outcome from a running world, by the steps that are made
pub made : (bs : List ℕ) (rule : TickRule) (fuel n : ℕ) (w : World) → w.phase ≡ running → 1 ≤ fuel → fuel ≤ 10000 → steps bs rule fuel w ≡ n
    → outcome bs rule (Grant fuel) w ≡ accepted n (advanced bs rule n w) (trips_of (advanced bs rule n w).phase)
made bs rule fuel n w run some few e =
    (λ i. unless_refused (cond (fuel_right fuel some few i) (by_phase (run i) None (Some (caller 15)) (Some (caller 16))) (Some (caller 14))) w
    (accepted (e i) (advanced bs rule (e i) w) (trips_of (advanced bs rule (e i) w).phase)))
