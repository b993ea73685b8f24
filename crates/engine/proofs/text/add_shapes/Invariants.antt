use Rattle.std.proofs.Common.{drop}
use Rattle.std.specs.List.{flat_map}
use Rattle.engine.specs.Fields.{fields_bytes, shape_fields}
use Rattle.engine.proofs.Adding.{Left}
use Rattle.engine.proofs.text.add_shapes.Given as goal

abbrev pub invariant-loop-row : goal.invariant-loop-row
invariant-loop-row l =
    Left l.initial.text.items (fields_bytes (flat_map shape_fields l.initial.rows)) l.text.items (fields_bytes (flat_map shape_fields (drop l.row-index l.initial.rows)))
