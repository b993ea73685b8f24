use Rattle.std.proofs.Common.{◌≡◌, List, ℕ, ◌%◌, [], ◌∷◌, ◌++◌, map, length, Some, Result, refl, sym, ap, ◌∙◌}
use Rattle.std.specs.List.{flat_map}
use Rattle.std.proofs.lemmas.List.{length-map}
use Rattle.refusal.specs.Values.{Values}
use Rattle.host.specs.declared.port.Port.{Port}
use Rattle.module.specs.Told.{bytes_of}
use Rattle.machine.specs.View.{world_of}
use Rattle.machine.specs.World.{Phase, World}
use Rattle.drive.specs.declared.drive.Drive.{Drive}
use Rattle.drive.specs.Log.{Log, new_log, log_after, answers, fault_list}
use Rattle.drive.specs.View.{world_in, faults_in, call_of, said_of}
use Rattle.engine.specs.declared.field.Field.TheVariants.{Four}
use Rattle.engine.specs.Fields.{fields_bytes, answer_fields, said_fields}
use Rattle.engine.specs.Whole.{answers_fields, world_fields, port_fields}
use Rattle.engine.proofs.Adding.{same, both_fields}
use Rattle.engine.proofs.drives.add_run.Goals as goal

-- all were answered
all_said : (xs : List (Result (ℕ × Phase) Values)) → flat_map said_fields (map Some xs) ≡ flat_map answer_fields xs
all_said [] = refl
all_said (x ∷ xs) = ap (λ l. answer_fields x ++ l) (all_said xs)

-- a drive's world has the ports that its host has
ports_in : (d : Drive) (ports : List Port) → ports ≡ (world_in d ports).ports
unfolding world_of
ports_in d ports = refl

pub returns-clause-ports : goal.returns-clause-ports
returns-clause-ports g c =
    ports_in c.run-drive.result (g.H.Host.ports c.run-drive.new.host) ∙ ap (λ (w : World). w.ports) c.run-drive.ensures.law.logged.world

pub returns-clause-text : goal.returns-clause-text
returns-clause-text g c =
    let m = g.H.Host in
    let bs = bytes_of c.args.checked.opened in
    let rule = m.rule (m.base c.args.host.now) in
    let first = m.ports c.args.host.now in
    let calls = map call_of c.args.turns.now in
    let log : Log = log_after bs rule calls (new_log bs first) in
    let said = answers bs rule calls (new_log bs first) in
    let drive = c.run-drive.result in
    let last = m.ports c.run-drive.new.host in
    let logged = c.run-drive.ensures.law.logged in
    let a = c.args.text.now.items in
    let b = c.add_answers.new.text.items in
    let d = c.add_drive.new.text.items in
    let e = c.add_ports.new.text.items in
    let turns = c.run-drive.new.turns in
    let count : length turns ≡ length said = sym (length-map turns said_of) ∙ ap length logged.answered ∙ length-map said Some in
    let answered = (λ i. fields_bytes (Four (count i % 4294967296) ∷ flat_map said_fields (logged.answered i))) ∙ ap (λ fs. fields_bytes (Four (length said % 4294967296) ∷ fs)) (all_said said) in
    let world : world_in drive last ≡ log.world = logged.world in
    let faults : faults_in drive ≡ fault_list log.entries = logged.faults in
    let stood = ap (λ w. fields_bytes (world_fields w (faults_in drive))) world ∙ ap (λ fs. fields_bytes (world_fields log.world fs)) faults in
    let ports = ap (λ ps. fields_bytes (port_fields ps)) (ports_in drive last ∙ ap (λ (w : World). w.ports) world) in
    both_fields a b e (answers_fields said) (world_fields log.world (fault_list log.entries) ++ port_fields log.world.ports)
    (same _ _ _ _ c.add_answers.ensures answered)
    (both_fields b d e (world_fields log.world (fault_list log.entries)) (port_fields log.world.ports) (same _ _ _ _ (c.add_drive.ensures last) stood) (same _ _ _ _ c.add_ports.ensures ports))
