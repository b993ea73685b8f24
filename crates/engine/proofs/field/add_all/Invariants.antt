use Rattle.std.proofs.Common.{drop}
use Rattle.engine.specs.Fields.{fields_bytes}
use Rattle.engine.proofs.Adding.{Left}
use Rattle.engine.proofs.field.add_all.Given as goal

abbrev pub invariant-loop-field : goal.invariant-loop-field
invariant-loop-field l =
    Left l.initial.text.items (fields_bytes l.initial.fields) l.text.items (fields_bytes (drop l.field-index l.initial.fields))
