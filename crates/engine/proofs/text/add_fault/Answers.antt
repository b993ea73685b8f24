use Rattle.std.proofs.Common.{[], ◌∷◌, ◌++◌, ap, ◌∙◌}
use Rattle.faults.specs.Causes.{trip_of}
use Rattle.engine.specs.Fields.{fields_bytes, trip_fields}
use Rattle.engine.proofs.Adding.{both_as}
use Rattle.engine.proofs.text.add_fault.Goals as goal

pub returns : goal.returns
returns c =
    both_as c.args.text.now.items (fields_bytes c.trip_fields.result) c.add_all.new.text.items (c.mark.result ∷ []) c.add.new.text.items _ c.add_all.ensures c.add.ensures
    (ap (λ fs. fields_bytes fs ++ (c.mark.result ∷ [])) c.trip_fields.ensures
    ∙ ap (λ mark. fields_bytes (trip_fields (trip_of c.args.fault.cause c.args.fault.place)) ++ (mark ∷ [])) c.mark.ensures)
