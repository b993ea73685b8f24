use Rattle.std.proofs.Common.{◌≤◌, List, ℕ, [], map, take, length, length-take, refl, arith}
use Rattle.std.proofs.lemmas.List.{drop_all}
use Rattle.drive.specs.View.{world_in}
use Rattle.engine.specs.declared.field.Field.TheVariants.{One}
use Rattle.engine.specs.Fields.{field_bytes, fields_bytes}
use Rattle.engine.proofs.Adding.{more, done}
use Rattle.engine.proofs.OneByOne.{next_of_first, none_of_first}
use Rattle.engine.proofs.drives.add_memory.Goals as goal

pub loop-i-preserved : goal.loop-i-preserved
loop-i-preserved c =
    let memory = (world_in c.args.drive.now []).memory in
    let i = c.loop-i.i in
    let at = next_of_first 4096 memory i c.in-Ok.byte c.loop-i-test.true (c.in-Ok.ensures []) in
    more (λ (bs : List ℕ). fields_bytes (map One bs)) (λ b. field_bytes (One b)) (λ x xs. refl) (take 4096 memory) i c.in-Ok.byte _ _ _ _ at c.loop-i.invariant c.add.ensures

pub returns-in_default : goal.returns-in_default
returns-in_default c =
    let memory = (world_in c.args.drive.now []).memory in
    let i = c.loop-i.i in
    let at = none_of_first 4096 memory i _ (c.in_default.ensures []) in
    done (λ (bs : List ℕ). fields_bytes (map One bs)) (λ b. field_bytes (One b)) (λ x xs. refl) (take 4096 memory) i _ _ _ refl at c.loop-i.invariant

pub returns-after-loop-i : goal.returns-after-loop-i
returns-after-loop-i c =
    let memory = (world_in c.args.drive.now []).memory in
    let i = c.loop-i.i in
    let past : length (take 4096 memory) ≤ i = omega (arith, length-take 4096 memory, c.loop-i-test.false) in
    done (λ (bs : List ℕ). fields_bytes (map One bs)) (λ b. field_bytes (One b)) (λ x xs. refl) (take 4096 memory) i _ _ _ refl (drop_all i (take 4096 memory) past) c.loop-i.invariant
