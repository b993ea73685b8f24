use Rattle.std.proofs.Common.{◌≡◌, List, ℕ, [], ◌++◌, map, take, refl, ap}
use Rattle.host.specs.declared.port.Port.{Port}
use Rattle.machine.specs.View.{world_of}
use Rattle.drive.specs.declared.drive.Drive.{Drive}
use Rattle.drive.specs.Questions.{asked, place_in}
use Rattle.drive.specs.View.{world_in, faults_in}
use Rattle.engine.specs.declared.field.Field.{Field}
use Rattle.engine.specs.declared.field.Field.TheVariants.{One}
use Rattle.engine.specs.Fields.{fields_bytes, state_fields, place_fields, Added}
use Rattle.engine.specs.Whole.{register_fields, faults_fields}
use Rattle.engine.proofs.Adding.{same, both_fields}
use Rattle.engine.proofs.drives.add_drive.Goals as goal

-- all but the ports
same_levels : (d : Drive) (ports : List Port) → (world_in d []).levels ≡ (world_in d ports).levels
unfolding world_of
same_levels d ports = refl

same_memory : (d : Drive) (ports : List Port) → (world_in d []).memory ≡ (world_in d ports).memory
unfolding world_of
same_memory d ports = refl

five : (a b c d e f : List ℕ) (s p r m q : List Field)
    → Added a (fields_bytes s) b
    → Added b (fields_bytes p) c
    → Added c (fields_bytes r) d
    → Added d (fields_bytes m) e
    → Added e (fields_bytes q) f
    → Added a (fields_bytes (s ++ (p ++ (r ++ (m ++ q))))) f
five a b c d e f s p r m q one two three four last =
    both_fields a b f s (p ++ (r ++ (m ++ q))) one
    (both_fields b c f p (r ++ (m ++ q)) two (both_fields c d f r (m ++ q) three (both_fields d e f m q four last)))

pub returns : goal.returns
returns c ports =
    let drive = c.args.drive.now in
    let w = world_in drive ports in
    five c.args.text.now.items c.add_state.new.text.items c.add_place.new.text.items c.add_registers.new.text.items c.add_memory.new.text.items c.add_faults.new.text.items
    (state_fields w.phase) (place_fields (asked (place_in w.levels))) (register_fields w.levels) (map One (take 4096 w.memory)) (faults_fields (faults_in drive))
    (same _ _ _ _ c.add_state.ensures (ap (λ phase. fields_bytes (state_fields phase)) (c.state.ensures.phase ports)))
    (same _ _ _ _ c.add_place.ensures (ap (λ place. fields_bytes (place_fields place)) (c.place.ensures ports)))
    (same _ _ _ _ c.add_registers.ensures (ap (λ levels. fields_bytes (register_fields levels)) (same_levels drive ports)))
    (same _ _ _ _ c.add_memory.ensures (ap (λ memory. fields_bytes (map One (take 4096 memory))) (same_memory drive ports)))
    c.add_faults.ensures
