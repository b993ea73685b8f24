use Rattle.std.proofs.Common.{[], ◌∷◌, ap, sym, refl}
use Rattle.std.specs.Int.{w32, to_le_bytes}
use Rattle.machine.specs.Parts.{phase_of}
use Rattle.drive.specs.View.{by_values}
use Rattle.engine.specs.Fields.{fields_bytes, state_fields, answer_fields}
use Rattle.engine.proofs.Adding.{same, both_as}
use Rattle.engine.proofs.text.add_answer.Goals as goal

pub returns-in-Ok : goal.returns-in-Ok
returns-in-Ok c =
    let a = c.args.text.now.items in
    let made = to_le_bytes w32 c.in-Ok.made in
    let front = both_as a (0 ∷ []) c.add.new.text.items made c.add-in-Ok.new.text.items (0 ∷ made) c.add.ensures c.add-in-Ok.ensures refl in
    both_as a (0 ∷ made) c.add-in-Ok.new.text.items (fields_bytes (state_fields (phase_of c.in-Ok.state))) c.add_state.new.text.items _ front c.add_state.ensures
    (ap (λ answer. fields_bytes (answer_fields (by_values answer))) (sym c.in-Ok.is))

pub returns-in-Err : goal.returns-in-Err
returns-in-Err c = same _ _ _ _ c.add_refusal.ensures (ap (λ answer. fields_bytes (answer_fields (by_values answer))) (sym c.in-Err.is))
