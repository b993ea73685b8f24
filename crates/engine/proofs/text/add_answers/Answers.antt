use Rattle.std.proofs.Common.{List, ◌%◌, map, length, refl, ap}
use Rattle.std.specs.List.{flat_map}
use Rattle.std.specs.Int.{w32, to_le_bytes}
use Rattle.std.proofs.lemmas.List.{drop_all}
use Rattle.std.proofs.lemmas.Grind.{flat_map-append}
use Rattle.drive.specs.declared.call.Turn.{Turn}
use Rattle.drive.specs.View.{said_of}
use Rattle.engine.specs.Fields.{field_bytes, fields_bytes, said_fields}
use Rattle.engine.proofs.Adding.{done, same, both_as}
use Rattle.engine.proofs.text.add_answers.Goals as goal

pub returns : goal.returns
returns c =
    let turns = c.args.turns.now in
    let i = c.loop-turn.turn-index in
    let count = same _ _ (to_le_bytes w32 (length turns % 4294967296)) _ c.add.ensures (ap field_bytes c.count_field.ensures) in
    let rest = done (λ (ts : List Turn). fields_bytes (flat_map said_fields (map said_of ts))) (λ t. fields_bytes (said_fields (said_of t)))
    (λ t ts. flat_map-append field_bytes (said_fields (said_of t)) (flat_map said_fields (map said_of ts))) turns i c.add.new.text.items _ (fields_bytes (flat_map said_fields (map said_of turns))) refl
    (drop_all i turns c.loop-turn-test.false) c.loop-turn.invariant in
    both_as c.args.text.now.items (to_le_bytes w32 (length turns % 4294967296)) c.add.new.text.items (fields_bytes (flat_map said_fields (map said_of turns))) c.loop-turn.text.items _ count rest refl
