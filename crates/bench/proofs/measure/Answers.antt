use Rattle.std.proofs.Common.{◌≡◌, ℕ, List, [], ◌∷◌, ◌++◌, None, IfOk, string_bytes, ap, ◌∙◌, subst}
use Rattle.module.specs.Told.{bytes_of}
use Rattle.machine.specs.Foretold.{begun}
use Rattle.machine.specs.World.{World}
use Rattle.drive.specs.declared.call.Call.TheVariants.{Grant}
use Rattle.drive.specs.Calls.{outcome}
use Rattle.drive.specs.Log.{Log, new_log, log_after, fault_list}
use Rattle.drive.specs.View.{world_in, faults_in, by_values}
use Rattle.bench.specs.Measured.{run_text}
use Rattle.bench.specs.Text.{line, answer_text, port_lines, fault_lines}
use Rattle.bench.proofs.Printed.{only_answer, ports_in, put_together}
use Rattle.bench.proofs.measure.Goals as goal

pub returns : goal.returns
returns g c =
    let m = g.H.Host in
    let bs = bytes_of c.args.checked.opened in
    let rule = m.rule (m.base c.args.host.now) in
    let first = m.ports c.args.host.now in
    let log : Log = log_after bs rule (c.args.call ∷ []) (new_log bs first) in
    let before = string_bytes c.args.text.now in
    let drive = c.run-drive.result in
    let last = m.ports c.run-drive.new.host in
    let logged = c.run-drive.ensures.law.logged in
    let said = by_values c.unwrap.result in
    let answer
    : said ≡ (outcome bs rule c.args.call (begun bs first)).answer
    = only_answer c.run-drive.new.turns (record { call = Grant 0; answer = None }) c.unwrap.result (outcome bs rule c.args.call (begun bs first)).answer c.unwrap.ensures logged.answered in
    let answered : string_bytes c.writeln.new.self ≡ before ++ line (answer_text said) = c.in_ok-writeln.ensures.bytes in
    let world : world_in drive last ≡ log.world = logged.world in
    let ports : last ≡ log.world.ports = ports_in drive last ∙ ap (λ (w : World). w.ports) world in
    let faults : faults_in drive ≡ fault_list log.entries = logged.faults in
    let whole
    : string_bytes c.add_ports.new.text ++ fault_lines (faults_in drive) ≡ before ++ run_text bs rule first (c.args.call ∷ [])
    = ap (λ text. text ++ fault_lines (faults_in drive)) (c.in_ok-add_ports.ensures ∙ ap (λ text. text ++ port_lines 0 last) answered)
    ∙ put_together before (line (answer_text said)) (port_lines 0 last) (fault_lines (faults_in drive))
    ∙ (λ i. before ++ ((line (answer_text (answer i)) ++ []) ++ (port_lines 0 (ports i) ++ fault_lines (faults i)))) in
    subst (λ (text : List ℕ). IfOk c.add_faults.result (λ _. string_bytes c.add_faults.new.text ≡ text)) whole c.add_faults.ensures
