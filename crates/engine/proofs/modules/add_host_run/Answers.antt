use Rattle.std.proofs.Common.{◌≡◌, ◌<◌, List, ◌/◌, map, length, take, drop, replicate, min, arith, length-take, ap, ◌∙◌}
use Rattle.std.proofs.lemmas.Bool.{cond_below}
use Rattle.host.specs.declared.port.Port.{Port}
use Rattle.host.specs.Ports.{blank}
use Rattle.drive.specs.View.{call_of}
use Rattle.engine.specs.Fields.{fields_bytes}
use Rattle.engine.specs.Given.{rows_in}
use Rattle.engine.specs.Whole.{given_rows, axis_fields, table_fields}
use Rattle.engine.proofs.Adding.{same}
use Rattle.engine.proofs.modules.add_host_run.Goals as goal

pub returns : goal.returns
returns c =
    let bs = c.args.bytes.now in
    let host = c.args.host.now in
    let calls = map call_of c.args.turns.now in
    let some : 0 < length host = omega (arith, c.if-host-eq0.false) in
    let count : length (take c.min-count.result (replicate 512 blank)) ≡ min (length (drop 1 host) / 18) 512
    = omega (arith, c.min-count.ensures, ap length c.rest-given.ensures, length-take c.min-count.result (replicate 512 blank)) in
    let given : c.rest-given.result.now ≡ drop 1 host = c.rest-given.ensures in
    let rows : c.fill_rows.new.rows ≡ given_rows (drop 1 host) = c.fill_rows.ensures ∙ (λ i. rows_in (given i) (count i)) in
    same _ _ _ _ c.add_table_run.ensures
    (ap (λ (rows : List Port). fields_bytes (table_fields bs rows calls)) rows
    ∙ ap fields_bytes (cond_below 0 (length host) (table_fields bs (given_rows (drop 1 host)) calls) (axis_fields bs calls) some))
