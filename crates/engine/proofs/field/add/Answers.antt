use Rattle.std.proofs.Common.{sym, ap, ◌∙◌}
use Rattle.engine.specs.Fields.{field_bytes}
use Rattle.engine.proofs.Adding.{is_added, same}
use Rattle.engine.proofs.field.add.Goals as goal

pub returns-in-One : goal.returns-in-One
returns-in-One c = same _ _ _ _ (is_added _ _ _ c.add_bytes.ensures) (ap field_bytes (sym c.in-One.is))

pub returns-in-Two : goal.returns-in-Two
returns-in-Two c = same _ _ _ _ (is_added _ _ _ c.add_bytes-in-Two.ensures) (c.to_le_bytes.ensures ∙ ap field_bytes (sym c.in-Two.is))

pub returns-in-Four : goal.returns-in-Four
returns-in-Four c =
    same _ _ _ _ (is_added _ _ _ c.add_bytes-in-Four.ensures) (c.to_le_bytes-in-Four.ensures ∙ ap field_bytes (sym c.in-Four.is))

pub returns-in-Eight : goal.returns-in-Eight
returns-in-Eight c =
    same _ _ _ _ (is_added _ _ _ c.add_bytes-in-Eight.ensures) (c.to_le_bytes-in-Eight.ensures ∙ ap field_bytes (sym c.in-Eight.is))
