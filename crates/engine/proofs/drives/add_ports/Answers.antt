use Rattle.std.proofs.Common.{◌≡◌, ◌≤◌, ◌%◌, List, ℕ, map, length, refl, sym, ap, arith}
use Rattle.std.specs.Int.{w16, to_le_bytes}
use Rattle.std.proofs.lemmas.List.{drop_more, drop_all}
use Rattle.host.specs.declared.port.Port.{Port}
use Rattle.host.specs.Ports.{blank}
use Rattle.engine.specs.declared.field.Field.TheVariants.{Four}
use Rattle.engine.specs.Fields.{field_bytes, fields_bytes}
use Rattle.engine.specs.Whole.{value_field}
use Rattle.engine.proofs.Adding.{more, done, same, both_as}
use Rattle.engine.proofs.OneByOne.{port_there, port_none}
use Rattle.engine.proofs.drives.add_ports.Goals as goal

abbrev W : List Port → List ℕ
W ports = fields_bytes (map value_field ports)

pub loop-p-preserved : goal.loop-p-preserved
loop-p-preserved g c =
    let ports = g.H.Host.ports c.args.host.now in
    let p = c.loop-p.p in
    let there = port_there ports p c.in-Ok.value c.in-Ok.ensures.answer in
    let at = drop_more ports p blank there.0 in
    more W (λ port. field_bytes (value_field port)) (λ x xs. refl) ports p _ _ _ _ _ at c.loop-p.invariant
    (same _ _ _ _ c.add-in-loop-p.ensures (ap (λ v. field_bytes (Four v)) (sym there.1)))

pub returns-in_default : goal.returns-in_default
returns-in_default g c =
    let ports = g.H.Host.ports c.args.host.now in
    let p = c.loop-p.p in
    let at = drop_all p ports (port_none ports p _ c.in_default.ensures.answer) in
    let rest = done W (λ port. field_bytes (value_field port)) (λ x xs. refl) ports p c.add.new.text.items c.loop-p.text.items (W ports) refl at c.loop-p.invariant in
    let front = same _ _ (to_le_bytes w16 (length ports % 65536)) _ c.add.ensures (ap (λ n. to_le_bytes w16 (n % 65536)) c.count_ports-count.ensures) in
    both_as c.args.text.now.items (to_le_bytes w16 (length ports % 65536)) c.add.new.text.items (W ports) c.loop-p.text.items _ front rest refl

pub returns-after-loop-p : goal.returns-after-loop-p
returns-after-loop-p g c =
    let ports = g.H.Host.ports c.args.host.now in
    let p = c.loop-p.p in
    let count : c.count_ports-count.result ≡ length ports = c.count_ports-count.ensures in
    let past : length ports ≤ p = omega (arith, c.loop-p-test.false) in
    let rest = done W (λ port. field_bytes (value_field port)) (λ x xs. refl) ports p c.add.new.text.items c.loop-p.text.items (W ports) refl (drop_all p ports past) c.loop-p.invariant in
    let front = same _ _ (to_le_bytes w16 (length ports % 65536)) _ c.add.ensures (ap (λ n. to_le_bytes w16 (n % 65536)) c.count_ports-count.ensures) in
    both_as c.args.text.now.items (to_le_bytes w16 (length ports % 65536)) c.add.new.text.items (W ports) c.loop-p.text.items _ front rest refl
