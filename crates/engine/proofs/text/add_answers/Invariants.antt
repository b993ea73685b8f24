use Rattle.std.proofs.Common.{drop, map}
use Rattle.std.specs.List.{flat_map}
use Rattle.drive.specs.View.{said_of}
use Rattle.engine.specs.Fields.{fields_bytes, said_fields}
use Rattle.engine.proofs.Adding.{Left}
use Rattle.engine.proofs.text.add_answers.Given as goal

abbrev pub invariant-loop-turn : goal.invariant-loop-turn
invariant-loop-turn l =
    Left l.initial.text.items (fields_bytes (flat_map said_fields (map said_of l.initial.turns))) l.text.items
    (fields_bytes (flat_map said_fields (map said_of (drop l.turn-index l.initial.turns))))
