use Rattle.std.proofs.Common.{◌+◌, ◌<◌, List, [], ◌∷◌, ◌++◌, Some, None, map, length, take, get_or, set, sym, ap, ◌∙◌, subst, arith}
use Rattle.std.proofs.lemmas.List.{take_all, length-map}
use Rattle.module.specs.Told.{bytes_of}
use Rattle.drive.specs.declared.call.Call.{Call}
use Rattle.drive.specs.declared.call.Call.TheVariants.{Grant}
use Rattle.drive.specs.declared.call.Turn.{Turn}
use Rattle.drive.specs.Law.{Leads, Ran}
use Rattle.drive.specs.View.{Said, call_of, said_of, by_values, Called}
use Rattle.drive.proofs.Grants.{granted}
use Rattle.drive.proofs.Laws.{leads_push, law_holds, same_calls, one_answer, one_call}
use Rattle.drive.proofs.run.run.Goals as goal

pub loop-turn-preserved : goal.loop-turn-preserved
loop-turn-preserved g c =
    let m = g.H.Host in
    let rule = m.rule (m.base c.args.host.now) in
    let first = m.ports c.args.host.now in
    let new = c.start-drive.result in
    let calls = map call_of c.args.turns.now in
    let items = c.loop-turn.turn-items in
    let i = c.loop-turn.turn-index in
    let inv = c.loop-turn.invariant in
    let blank : Turn = record { call = Grant 0; answer = None } in
    let call = (get_or items i blank).call in
    let answer = c.call.result in
    let drive = c.call.new.self in
    let ports = m.ports c.call.new.host in
    let called = subst (λ b. Called (m.rule b) call c.loop-turn.drive (m.ports c.loop-turn.host) (by_values answer) drive ports) inv.base c.call.ensures.called in
    let more = leads_push rule (take i calls) (map said_of (take i items)) call (by_values answer) new first c.loop-turn.drive (m.ports c.loop-turn.host) drive ports inv.leads called in
    let less : i < length items = omega arith in
    record {
      leads =
          subst (λ (cs : List Call). Leads rule cs (map said_of (take (i + 1) (set items i (record { call = call; answer = Some answer })))) new first drive ports) (sym (one_call items i blank answer less calls inv.calls))
          (subst (λ (said : List Said). Leads rule (take i calls ++ (call ∷ [])) said new first drive ports) (sym (one_answer items i blank answer less)) more);
      calls = same_calls items i blank answer less ∙ inv.calls;
      base = c.call.ensures.base ∙ inv.base;
    }

pub returns : goal.returns
returns g c =
    let m = g.H.Host in
    let bs = bytes_of c.args.checked.opened in
    let rule = m.rule (m.base c.args.host.now) in
    let first = m.ports c.args.host.now in
    let calls = map call_of c.args.turns.now in
    let items = c.loop-turn.turn-items in
    let i = c.loop-turn.turn-index in
    let inv = c.loop-turn.invariant in
    let drive = c.loop-turn.drive in
    let ports = m.ports c.loop-turn.host in
    let new = c.start-drive.result in
    let all = take_all i calls (omega (arith, length-map c.args.turns.now call_of)) in
    let filled = ap (map said_of) (take_all i items (omega arith)) in
    let ran : Ran bs rule first calls (map said_of items) drive ports
    = (
      new,
      c.start-drive.ensures,
      subst (λ (cs : List Call). Leads rule cs (map said_of items) new first drive ports) all
          (subst (λ (said : List Said). Leads rule (take i calls) said new first drive ports) filled inv.leads),
    ) in
    record { ran = ran; law = law_holds bs rule first calls (map said_of items) drive ports ran; every_run = law_holds; every_grant = granted; calls = inv.calls; base = inv.base }
