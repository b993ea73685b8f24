use Rattle.std.proofs.Common.{[], map, take, drop}
use Rattle.drive.specs.View.{world_in}
use Rattle.engine.specs.declared.field.Field.TheVariants.{One}
use Rattle.engine.specs.Fields.{fields_bytes}
use Rattle.engine.specs.Whole.{memory_size}
use Rattle.engine.proofs.Adding.{Left}
use Rattle.engine.proofs.drives.add_memory.Given as goal

abbrev pub invariant-loop-i : goal.invariant-loop-i
invariant-loop-i l =
    let memory = take memory_size (world_in l.initial.drive []).memory in
    Left l.initial.text.items (fields_bytes (map One memory)) l.text.items (fields_bytes (map One (drop l.i memory)))
