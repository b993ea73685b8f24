use Rattle.std.proofs.Common.{◌≡◌, ◌≤◌, ◌%◌, List, ℕ, [], ◌∷◌, ◌++◌, length, refl, ap, arith}
use Rattle.std.specs.List.{flat_map}
use Rattle.std.proofs.lemmas.List.{drop_all}
use Rattle.std.proofs.lemmas.Grind.{flat_map-append}
use Rattle.faults.specs.Faults.{FaultValues, values_of}
use Rattle.drive.specs.View.{faults_in}
use Rattle.engine.specs.Fields.{field_bytes, fields_bytes, fault_fields}
use Rattle.engine.proofs.Adding.{more, done, same, both_as}
use Rattle.engine.proofs.OneByOne.{next_read, none_read}
use Rattle.engine.proofs.drives.add_faults.Goals as goal

abbrev W : List FaultValues → List ℕ
W faults = fields_bytes (flat_map fault_fields faults)

law : (f : FaultValues) (fs : List FaultValues) → W (f ∷ fs) ≡ fields_bytes (fault_fields f) ++ W fs
law f fs = flat_map-append field_bytes (fault_fields f) (flat_map fault_fields fs)

pub loop-i-preserved : goal.loop-i-preserved
loop-i-preserved c =
    let faults = faults_in c.args.drive.now in
    let i = c.loop-i.i in
    let at = next_read faults i (values_of c.in-Ok.fault) c.in-Ok.ensures in
    more W (λ f. fields_bytes (fault_fields f)) law faults i (values_of c.in-Ok.fault) _ _ _ _ at c.loop-i.invariant c.add_fault.ensures

pub returns-in_default : goal.returns-in_default
returns-in_default c =
    let faults = faults_in c.args.drive.now in
    let i = c.loop-i.i in
    let at = none_read faults i _ c.in_default.ensures in
    let rest = done W (λ f. fields_bytes (fault_fields f)) law faults i c.add.new.text.items c.loop-i.text.items (W faults) refl at c.loop-i.invariant in
    let front = same _ _ ((length faults % 256) ∷ []) _ c.add.ensures (ap (λ n. (n % 256) ∷ []) c.fault_count-count.ensures.count) in
    both_as c.args.text.now.items ((length faults % 256) ∷ []) c.add.new.text.items (W faults) c.loop-i.text.items _ front rest refl

pub returns-after-loop-i : goal.returns-after-loop-i
returns-after-loop-i c =
    let faults = faults_in c.args.drive.now in
    let i = c.loop-i.i in
    let count : c.fault_count-count.result ≡ length faults = c.fault_count-count.ensures.count in
    let past : length faults ≤ i = omega (arith, c.loop-i-test.false) in
    let rest = done W (λ f. fields_bytes (fault_fields f)) law faults i c.add.new.text.items c.loop-i.text.items (W faults) refl (drop_all i faults past) c.loop-i.invariant in
    let front = same _ _ ((length faults % 256) ∷ []) _ c.add.ensures (ap (λ n. (n % 256) ∷ []) c.fault_count-count.ensures.count) in
    both_as c.args.text.now.items ((length faults % 256) ∷ []) c.add.new.text.items (W faults) c.loop-i.text.items _ front rest refl
