-- The steps that a routine makes by itself, over the body of a checked module.
use Rattle.std.proofs.Common.{◌≡◌, ℕ, false, List, [], ◌∷◌, Some, sym, ap, ◌∙◌, subst}
use Rattle.isa.specs.declared.instr.Instr.{Instr}
use Rattle.host.specs.declared.port.Port.{Port}
use Rattle.module.specs.declared.body.Body.{Body}
use Rattle.module.specs.Places.{instr_at}
use Rattle.module.specs.Told.{bytes_behind, routine_of}
use Rattle.module.proofs.Accepts.{accepts_body}
use Rattle.machine.specs.declared.within.Stop.{Stop}
use Rattle.machine.specs.Foretold.{AsForetold}
use Rattle.machine.specs.Level.{Level}
use Rattle.machine.specs.Within.{Moves, Why, Stops}
use Rattle.machine.specs.World.{goes, world, running, after, effect, here, is_return}
use Rattle.machine.proofs.Legal.{Ready}
use Rattle.machine.proofs.Soundness.{foretold_ready, foretold_able, stays_in_routine, same_routine}
use Rattle.machine.proofs.Steps.{step_goes}

module _ (t : Body) (l : Level) {x : Instr} (same : routine_of t ≡ l.routine) (stands : instr_at (bytes_behind t) (routine_of t) l.pc ≡ Some x) where
  -- the routine stands at the body's instruction
  pub stands_here : {y : Instr} → x ≡ y → here (bytes_behind t) l ≡ Some y
  stands_here is = ap (λ r. instr_at (bytes_behind t) r l.pc) (sym same) ∙ stands ∙ ap Some is

  -- which is why it makes no step
  pub stopped : {rule : List Port → List Port} {y : Instr} {memory : List ℕ} {ports : List Port} {stop : Stop} → x ≡ y →
      Why (bytes_behind t) rule l memory ports y stop → Stops (bytes_behind t) rule l memory ports stop
  stopped {rule} {y} is why = record { instr = y; stands = stands_here is; why = why }

  module _ (told : AsForetold (bytes_behind t) l) where
    -- it has a rule there
    pub ready_here : {y : Instr} → x ≡ y → Ready (bytes_behind t) l y
    ready_here {y} is =
        let r = foretold_ready (bytes_behind t) (accepts_body t) l told in
        let both : Some r.0 ≡ Some y = sym r.1 ∙ stands_here is in
        let one : r.0 ≡ y = cc in
        subst (Ready (bytes_behind t) l) one r.2

    -- it makes a step, and those that wait stay
    pub moved : {rule : List Port → List Port} {y : Instr} {l' g : Level} {memory memory' : List ℕ} {ports ports' : List Port} → x ≡ y → is_return (Some y) ≡ false →
        ((ls : List Level) → effect (bytes_behind t) rule y l ls memory ports ≡ goes (g ∷ ls) memory' ports') → l' ≡ g →
        Moves (bytes_behind t) rule l memory ports l' memory' ports'
    unfolding after
    moved {rule} {y} {l'} {g} {memory} {memory'} {ports} {ports'} is stays e to =
        let bs = bytes_behind t in
        let ok = accepts_body t in
        let at = stands_here is in
        let leads : (ls : List Level) → effect bs rule y l ls memory ports ≡ goes (l' ∷ ls) memory' ports'
        = λ ls. e ls ∙ ap (λ h. goes (h ∷ ls) memory' ports') (sym to) in
        record {
          steps = λ ls.
              let w = world running (l ∷ ls) memory ports in
              step_goes bs rule l ls memory ports y (foretold_able bs ok l ls y told at stays) at ∙ ap (λ m. Some (after w l m)) (leads ls);
          foretold = stays_in_routine bs ok rule l l' y [] memory memory' ports ports' told at (leads []);
          routine = same_routine bs ok rule l l' y [] memory memory' ports ports' told at (leads []);
        }
