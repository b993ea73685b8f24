use Rattle.std.proofs.Common.{drop}
use Rattle.std.specs.List.{flat_map}
use Rattle.engine.specs.Fields.{fields_bytes, entry_fields}
use Rattle.engine.proofs.Adding.{Left}
use Rattle.engine.proofs.text.add_entries.Given as goal

abbrev pub invariant-loop-entry : goal.invariant-loop-entry
invariant-loop-entry l =
    Left l.initial.text.items (fields_bytes (flat_map entry_fields l.initial.entries)) l.text.items (fields_bytes (flat_map entry_fields (drop l.entry-index l.initial.entries)))
