-- Steps that load or store, where the address fits and where it does not.
use Rattle.std.proofs.Common.{◌≡◌, ℕ, ◌+◌, true, false, cond, List, ◌∷◌, Some, None, refl, ap, ◌∙◌}
use Rattle.std.proofs.lemmas.Bool.{cond-true}
use Rattle.isa.specs.declared.instr.Instr.{Instr}
use Rattle.isa.specs.declared.instr.Instr.TheVariants.{Load, Store}
use Rattle.isa.specs.declared.instr.Width.{Width}
use Rattle.isa.specs.declared.instr.Width.TheVariants.{One, Two, Four}
use Rattle.host.specs.declared.port.Port.{Port}
use Rattle.faults.specs.Causes.{by_engine}
use Rattle.machine.specs.Level.{Level, value, onward, wrote}
use Rattle.machine.specs.Memory.{fits, loaded, stored}
use Rattle.machine.specs.World.{goes, trips, or_trip, running, tripped, world, able, after, effect, effect_here, step, step_in}
use Rattle.machine.specs.Fuel.{TickRule}
use Rattle.worked.specs.Runs.{StandsAt, passed_at}

all_pass : (w : Width) → fits 4294967296 w ≡ false
all_pass One = refl
all_pass Two = refl
all_pass Four = refl

module _ (bs : List ℕ) (rule : TickRule) (l : Level) (ls : List Level) (memory : List ℕ) (ports : List Port) where
  steps_by : (x : Instr) → StandsAt bs x l ls → step bs rule (world running (l ∷ ls) memory ports)
      ≡ Some (after (world running (l ∷ ls) memory ports) l (effect bs rule x l ls memory ports))
  unfolding step step_in
  steps_by x at =
      cond-true (able bs l ls) _ _ at.able
      ∙ ap (λ o. Some (after (world running (l ∷ ls) memory ports) l (effect_here bs rule o l ls memory ports))) at.stands

  -- where the address fits, and where it does not
  pub load_works : (w : Width) (a b n : ℕ) → StandsAt bs (Load w a b n) l ls → fits (value l b + n) w ≡ true
      → step bs rule (world running (l ∷ ls) memory ports) ≡ Some (world running (wrote l a (loaded memory (value l b + n) w) ∷ ls) memory ports)
  unfolding effect after
  load_works w a b n at fit =
      steps_by (Load w a b n) at
      ∙ ap (λ f. Some (after (world running (l ∷ ls) memory ports) l
      (or_trip (cond f (Some (loaded memory (value l b + n) w)) None) (by_engine 2 (value l b + n)) (λ v. goes (wrote l a v ∷ ls) memory ports)))) fit

  pub load_trips : (w : Width) (a b n : ℕ) → StandsAt bs (Load w a b n) l ls → fits (value l b + n) w ≡ false
      → step bs rule (world running (l ∷ ls) memory ports) ≡ Some (world (tripped (passed_at l.routine l.pc (value l b + n))) (l ∷ ls) memory ports)
  unfolding effect after
  load_trips w a b n at fit =
      steps_by (Load w a b n) at
      ∙ ap (λ f. Some (after (world running (l ∷ ls) memory ports) l
      (or_trip (cond f (Some (loaded memory (value l b + n) w)) None) (by_engine 2 (value l b + n)) (λ v. goes (wrote l a v ∷ ls) memory ports)))) fit

  pub store_trips : (w : Width) (a b n : ℕ) → StandsAt bs (Store w a b n) l ls → fits (value l b + n) w ≡ false
      → step bs rule (world running (l ∷ ls) memory ports) ≡ Some (world (tripped (passed_at l.routine l.pc (value l b + n))) (l ∷ ls) memory ports)
  unfolding effect after
  store_trips w a b n at fit =
      steps_by (Store w a b n) at
      ∙ ap (λ f. Some (after (world running (l ∷ ls) memory ports) l
      (cond f (goes (onward l l.registers ∷ ls) (stored memory (value l b + n) w (value l a)) ports) (trips (by_engine 2 (value l b + n)))))) fit

  -- 4294967295 + 1
  pub far : (w : Width) (b : ℕ) → value l b ≡ 4294967295 → fits (value l b + 1) w ≡ false
  far w b e = ap (λ v. fits (v + 1) w) e ∙ all_pass w

  pub not_wrapped : (b : ℕ) → value l b ≡ 4294967295 → Some (world (tripped (passed_at l.routine l.pc (value l b + 1))) (l ∷ ls) memory ports) ≡ Some (world (tripped (passed_at l.routine l.pc 4294967296)) (l ∷ ls) memory ports)
  not_wrapped b e = ap (λ v. Some (world (tripped (passed_at l.routine l.pc (v + 1))) (l ∷ ls) memory ports)) e
