-- The grants of the sample.
use Rattle.std.proofs.Common.{◌≡◌, ℕ, suc, ◌-◌, ◌≤◌, [], ◌∷◌, ◌++◌, refl, ap, ◌∙◌, arith}
use Rattle.module.specs.Places.{inside, instr_at}
use Rattle.host.specs.Axis.{ports_with, new_axis, axis_rule}
use Rattle.machine.specs.Level.{value}
use Rattle.machine.specs.World.{ended, tripped, able, after, effect, allowed, allowed_at, awaited, is_return, calls_routine, handed, entered, resumed, into, step, step_in}
use Rattle.machine.specs.Foretold.{begun}
use Rattle.machine.specs.Fuel.{steps, advanced}
use Rattle.machine.proofs.Fuel.{none_made}
use Rattle.drive.specs.declared.call.Call.TheVariants.{Grant}
use Rattle.drive.specs.Calls.{trip, accepted, outcome}
use Rattle.drive.specs.Log.{fault_list}
use Rattle.worked.specs.Modules.{sample_bytes, raised_bytes}
use Rattle.worked.specs.Runs.{refused_at_2, Grants}
use Rattle.worked.proofs.Spent.{made}

pub sample_ends : (fuel : ℕ) → 6 ≤ fuel → fuel ≤ 10000 → Grants sample_bytes fuel (6, ended) (ports_with 1200 50 50 50) []
unfolding step step_in able after effect allowed allowed_at awaited is_return calls_routine handed entered resumed into instr_at inside value
sample_ends fuel h k =
    let w = begun sample_bytes new_axis in
    let more : fuel ≡ suc (suc (suc (suc (suc (suc (fuel - 6)))))) = omega arith in
    let e : outcome sample_bytes axis_rule (Grant fuel) w ≡ accepted 6 (advanced sample_bytes axis_rule 6 w) []
    = made sample_bytes axis_rule fuel 6 w refl (omega arith) k
    (ap (λ f. steps sample_bytes axis_rule f w) more ∙ ap (λ n. suc (suc (suc (suc (suc (suc n)))))) (none_made sample_bytes axis_rule (fuel - 6) (advanced sample_bytes axis_rule 6 w) (λ x. refl))) in
    record {
      answer = ap (λ o. o.answer ∷ []) e;
      ports = ap (λ o. o.world.ports) e;
      faults = ap (λ o. fault_list ([] ++ o.entries)) e;
    }

pub raised_trips : (fuel : ℕ) → 3 ≤ fuel → fuel ≤ 10000
    → Grants raised_bytes fuel (3, tripped refused_at_2) (ports_with 0 50 0 0) (record { cause = 6; layer = 3; routine = 0; instruction = 2; detail = 0; mark = 0 } ∷ [])
unfolding step step_in able after effect allowed allowed_at awaited is_return calls_routine handed entered resumed into instr_at inside value
raised_trips fuel h k =
    let w = begun raised_bytes new_axis in
    let more : fuel ≡ suc (suc (suc (fuel - 3))) = omega arith in
    let e : outcome raised_bytes axis_rule (Grant fuel) w ≡ accepted 3 (advanced raised_bytes axis_rule 3 w) (trip refused_at_2 ∷ [])
    = made raised_bytes axis_rule fuel 3 w refl (omega arith) k
    (ap (λ f. steps raised_bytes axis_rule f w) more ∙ ap (λ n. suc (suc (suc n))) (none_made raised_bytes axis_rule (fuel - 3) (advanced raised_bytes axis_rule 3 w) (λ x. refl))) in
    record {
      answer = ap (λ o. o.answer ∷ []) e;
      ports = ap (λ o. o.world.ports) e;
      faults = ap (λ o. fault_list ([] ++ o.entries)) e;
    }
