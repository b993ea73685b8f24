use Rattle.std.proofs.Common.{[], map, drop}
use Rattle.drive.specs.View.{world_in}
use Rattle.engine.specs.declared.field.Field.TheVariants.{Four}
use Rattle.engine.specs.Fields.{fields_bytes}
use Rattle.engine.specs.Whole.{registers_in}
use Rattle.engine.proofs.Adding.{Left}
use Rattle.engine.proofs.drives.add_registers.Given as goal

abbrev pub invariant-loop-k : goal.invariant-loop-k
invariant-loop-k l =
    let registers = registers_in (world_in l.initial.drive []).levels in
    Left l.initial.text.items (fields_bytes (map Four registers)) l.text.items (fields_bytes (map Four (drop l.k registers)))
