use Rattle.std.proofs.Common.{◌≡◌, List, [], ◌∷◌, ◌++◌, Ok, Err, map, take, drop, rules, ap, sym, ◌∙◌}
use Rattle.std.specs.List.{flat_map}
use Rattle.std.proofs.lemmas.List.{take-append-drop}
use Rattle.refusal.specs.Values.{values_of}
use Rattle.host.specs.declared.port.Port.{Port}
use Rattle.host.specs.Ports.{most_ports}
use Rattle.host.specs.Table.{table_rule, table_ports}
use Rattle.module.specs.Told.{bytes_of, verdict_of}
use Rattle.module.specs.Verdict.{checking}
use Rattle.drive.specs.Log.{new_log, log_after}
use Rattle.drive.specs.View.{call_of}
use Rattle.engine.specs.Fields.{fields_bytes, row_fields}
use Rattle.engine.specs.Whole.{run_fields, unless_refused}
use Rattle.engine.proofs.Adding.{same, both_as, both_fields}
use Rattle.engine.proofs.modules.add_table_run.Goals as goal

pub returns-in-Ok : goal.returns-in-Ok
returns-in-Ok c =
    let bs = c.args.bytes.now in
    let own = bytes_of c.in-Ok.checked.opened in
    let rows = c.args.rows.now in
    let calls = map call_of c.args.turns.now in
    let first = take most_ports rows in
    let begun = table_ports c.new.result in
    let last = c.add_run.new.host.rows.now in
    let verdict : Ok tt ≡ checking bs 4096 = ap verdict_of (sym c.in-Ok.is) ∙ c.examine.ensures.verdict in
    let same_bytes : own ≡ bs = c.in-Ok.ensures.bytes in
    let same_ports : begun ≡ first = c.new.ensures.ports in
    let logged : take most_ports last ≡ (log_after own table_rule calls (new_log own begun)).world.ports = c.add_run.ensures.ports in
    let lent = ap (λ b. b.0) c.add_run.ensures.base ∙ ap (λ b. b.0) c.new.ensures.base in
    let past : drop most_ports last ≡ drop most_ports rows = ap (λ b. b.1) c.add_run.ensures.base ∙ ap (λ b. b.1) c.new.ensures.base in
    let ports : take most_ports last ≡ (log_after bs table_rule calls (new_log bs first)).world.ports
    = logged ∙ (λ i. (log_after (same_bytes i) table_rule calls (new_log (same_bytes i) (same_ports i))).world.ports) in
    let after : last ≡ (log_after bs table_rule calls (new_log bs first)).world.ports ++ drop most_ports rows
    = sym (take-append-drop most_ports last) ∙ (λ i. ports i ++ past i) in
    let want = (log_after bs table_rule calls (new_log bs first)).world.ports ++ drop most_ports rows in
    let ran = same _ _ (fields_bytes (run_fields bs table_rule first calls)) _ c.add_run.ensures.text (λ i. fields_bytes (run_fields (same_bytes i) table_rule (same_ports i) calls)) in
    let shown = same _ _ (fields_bytes (flat_map row_fields want)) _ c.add_rows.ensures (ap (λ (rows : List Port). fields_bytes (flat_map row_fields rows)) (search rules)) in
    both_as c.args.text.now.items (0 ∷ []) c.add.new.text.items (fields_bytes (run_fields bs table_rule first calls ++ flat_map row_fields want)) c.add_rows.new.text.items _ c.add.ensures
    (both_fields c.add.new.text.items c.add_run.new.text.items c.add_rows.new.text.items (run_fields bs table_rule first calls) (flat_map row_fields want) ran shown)
    (ap (λ v. fields_bytes (unless_refused v (run_fields bs table_rule first calls ++ flat_map row_fields want))) verdict)

pub returns-in-Err : goal.returns-in-Err
returns-in-Err c =
    let bs = c.args.bytes.now in
    let rows = c.args.rows.now in
    let calls = map call_of c.args.turns.now in
    let first = take most_ports rows in
    let verdict : Err (values_of c.in-Err.refusal) ≡ checking bs 4096 = ap verdict_of (sym c.in-Err.is) ∙ c.examine.ensures.verdict in
    same _ _ _ _ c.add_refusal.ensures
    (ap (λ v. fields_bytes (unless_refused v (run_fields bs table_rule first calls ++ flat_map row_fields ((log_after bs table_rule calls (new_log bs first)).world.ports ++ drop most_ports rows)))) verdict)
