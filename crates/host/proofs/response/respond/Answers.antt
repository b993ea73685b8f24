use Rattle.std.proofs.Common.{◌≡◌, Ok, length, sym, ap, ◌∙◌, length-set}
use Rattle.std.proofs.lemmas.List.Elements.{length_all_zip}
use Rattle.std.specs.Result.{result_and}
use Rattle.host.specs.Lawful.{Sensed}
use Rattle.host.specs.Ports.{reading, writing, value_at}
use Rattle.host.specs.Response.{ticked, trial_ports}
use Rattle.host.proofs.Ticks.{read_again}
use Rattle.host.proofs.response.respond.Goals as goal

-- the port shown is read again, as there are no fewer ports
pub returns-clause-answer : goal.returns-clause-answer
returns-clause-answer g c =
    let m = g.H.Host in
    let trial = c.args.trial in
    let first = m.ports c.args.host.now in
    let last = m.ports c.advance.new.host in
    let w = c.write.ensures in
    let found : Ok c.in_ok-read.field-0 ≡ reading first trial.shown = c.in_ok-read.ensures.answer in
    let taken : Ok tt ≡ writing first trial.port trial.value = c.in_ok-write.ensures.answer in
    let same = sym (length_all_zip Sensed _ last c.advance.ensures.senses) ∙ ap length w.ports ∙ length-set first _ _ in
    let after : last ≡ trial_ports (m.rule (m.base c.args.host.now)) first trial = c.advance.ensures.ports ∙ (λ i. ticked trial.ticks (m.rule (w.base i)) (w.ports i)) in
    c.read-2.ensures.answer
    ∙ read_again first last trial.shown _ same found
    ∙ ap (λ ps. Ok (value_at ps trial.shown)) after
    ∙ (λ i. result_and (found i) (result_and (taken i) (Ok (value_at (trial_ports (m.rule (m.base c.args.host.now)) first trial) trial.shown))))
