use Rattle.std.proofs.Common.{◌≡◌, ◌≤◌, ◌%◌, List, ℕ, [], ◌∷◌, map, length, refl, ap, ◌∙◌, arith}
use Rattle.std.proofs.lemmas.List.{drop_all}
use Rattle.drive.specs.Questions.{asked, depth_in}
use Rattle.drive.specs.View.{world_in}
use Rattle.engine.specs.declared.field.Field.{Field}
use Rattle.engine.specs.declared.field.Field.TheVariants.{One, Four}
use Rattle.engine.specs.Fields.{field_bytes, fields_bytes, Added}
use Rattle.engine.specs.Whole.{registers_in}
use Rattle.engine.proofs.Adding.{more, done, same, both_as}
use Rattle.engine.proofs.OneByOne.{next_read, none_read, register_is, depth_is}
use Rattle.engine.proofs.drives.add_registers.Goals as goal

whole : (a b c : List ℕ) (n : ℕ) (fields : List Field) → Added a (n ∷ []) b → Added b (fields_bytes fields) c → Added a (fields_bytes (One n ∷ fields)) c
whole a b c n fields f g = both_as a (n ∷ []) b (fields_bytes fields) c _ f g refl

pub loop-k-preserved : goal.loop-k-preserved
loop-k-preserved c =
    let levels = (world_in c.args.drive.now []).levels in
    let registers = registers_in levels in
    let k = c.loop-k.k in
    let at = next_read registers k c.in-Ok.value (c.in-Ok.ensures [] ∙ ap asked (register_is levels k)) in
    more (λ (vs : List ℕ). fields_bytes (map Four vs)) (λ v. field_bytes (Four v)) (λ x xs. refl) registers k c.in-Ok.value _ _ _ _ at c.loop-k.invariant c.add-in-loop-k.ensures

pub returns-in_default : goal.returns-in_default
returns-in_default c =
    let levels = (world_in c.args.drive.now []).levels in
    let registers = registers_in levels in
    let k = c.loop-k.k in
    let at = none_read registers k _ (c.in_default.ensures [] ∙ ap asked (register_is levels k)) in
    let rest = done (λ (vs : List ℕ). fields_bytes (map Four vs)) (λ v. field_bytes (Four v)) (λ x xs. refl) registers k c.add.new.text.items c.loop-k.text.items (fields_bytes (map Four registers)) refl at c.loop-k.invariant in
    let front = same _ _ ((depth_in levels % 256) ∷ []) _ c.add.ensures (ap (λ n. (n % 256) ∷ []) (c.depth-depth.ensures [])) in
    whole c.args.text.now.items c.add.new.text.items c.loop-k.text.items (depth_in levels % 256) (map Four registers) front rest

pub returns-after-loop-k : goal.returns-after-loop-k
returns-after-loop-k c =
    let levels = (world_in c.args.drive.now []).levels in
    let registers = registers_in levels in
    let k = c.loop-k.k in
    let depth : c.depth-depth.result ≡ length registers = c.depth-depth.ensures [] ∙ depth_is levels in
    let past : length registers ≤ k = omega (arith, c.loop-k-test.false) in
    let rest = done (λ (vs : List ℕ). fields_bytes (map Four vs)) (λ v. field_bytes (Four v)) (λ x xs. refl) registers k c.add.new.text.items c.loop-k.text.items (fields_bytes (map Four registers)) refl (drop_all k registers past) c.loop-k.invariant in
    let front = same _ _ ((depth_in levels % 256) ∷ []) _ c.add.ensures (ap (λ n. (n % 256) ∷ []) (c.depth-depth.ensures [])) in
    whole c.args.text.now.items c.add.new.text.items c.loop-k.text.items (depth_in levels % 256) (map Four registers) front rest
