use Rattle.std.proofs.Common.{[], ◌∷◌, ap}
use Rattle.engine.specs.Fields.{fields_bytes}
use Rattle.engine.proofs.Adding.{both_as}
use Rattle.engine.proofs.text.add_refusal.Goals as goal

pub returns : goal.returns
returns c =
    both_as c.args.text.now.items (1 ∷ []) c.add.new.text.items (fields_bytes c.refusal_fields.result) c.add_all.new.text.items _ c.add.ensures c.add_all.ensures
    (ap (λ fs. 1 ∷ fields_bytes fs) c.refusal_fields.ensures)
