use Rattle.std.proofs.Common.{[], ◌∷◌, ap, sym, ◌∙◌}
use Rattle.machine.specs.Parts.{phase_of}
use Rattle.engine.specs.Fields.{fields_bytes, state_fields}
use Rattle.engine.proofs.Adding.{same, both_as}
use Rattle.engine.proofs.text.add_state.Goals as goal

pub returns-in-Running : goal.returns-in-Running
returns-in-Running c = same _ _ _ _ c.add.ensures (ap (λ s. fields_bytes (state_fields (phase_of s))) (sym c.in-Running.is))

pub returns-in-Ended : goal.returns-in-Ended
returns-in-Ended c = same _ _ _ _ c.add-in-Ended.ensures (ap (λ s. fields_bytes (state_fields (phase_of s))) (sym c.in-Ended.is))

pub returns-in-Tripped : goal.returns-in-Tripped
returns-in-Tripped c =
    both_as c.args.text.now.items (2 ∷ []) c.add-in-Tripped.new.text.items (fields_bytes c.trip_fields.result) c.add_all.new.text.items _ c.add-in-Tripped.ensures c.add_all.ensures
    (ap (λ fs. 2 ∷ fields_bytes fs) c.trip_fields.ensures ∙ ap (λ s. fields_bytes (state_fields (phase_of s))) (sym c.in-Tripped.is))
