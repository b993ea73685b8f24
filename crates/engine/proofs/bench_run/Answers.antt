use Rattle.std.proofs.Common.{◌≡◌, List, ℕ, ◌++◌, ◌/◌, None, map, length, take, drop, replicate, min, arith, length-take, ap, ◌∙◌}
use Rattle.drive.specs.declared.call.Call.{Call}
use Rattle.drive.specs.declared.call.Call.TheVariants.{Restart}
use Rattle.drive.specs.declared.call.Turn.{Turn}
use Rattle.drive.specs.View.{call_of}
use Rattle.engine.specs.Fields.{fields_bytes}
use Rattle.engine.specs.Given.{calls_in}
use Rattle.engine.specs.Whole.{given_calls, host_fields, ran_fields, fitting}
use Rattle.engine.proofs.Adding.{same, whole_text}
use Rattle.engine.proofs.bench_run.Goals as goal

pub returns-clause-length : goal.returns-clause-length
returns-clause-length c =
    let bs = c.args.bytes.now in
    let host = c.args.host.now in
    let calls = c.args.calls.now in
    let out = c.args.out.now in
    let whole = fields_bytes (ran_fields bs host calls) in
    let blank : Turn = record { call = Restart; answer = None } in
    let count : length (take c.min-count.result (replicate 256 blank)) ≡ min (length calls / 5) 256
    = omega (arith, c.min-count.ensures, length-take c.min-count.result (replicate 256 blank)) in
    let given : map call_of c.fill_turns.new.turns ≡ given_calls calls = c.fill_turns.ensures ∙ ap (calls_in calls) count in
    let added = same _ _ whole _ c.add_host_run.ensures (ap (λ (calls : List Call). fields_bytes (host_fields bs host calls)) given) in
    let is = whole_text whole c.new-text.result.items c.add_host_run.new.text.items added c.new-text.ensures c.give.ensures.fits in
    c.give.ensures.length ∙ ap (λ (t : List ℕ). length (take (length out) t)) is

pub returns-clause-out : goal.returns-clause-out
returns-clause-out c =
    let bs = c.args.bytes.now in
    let host = c.args.host.now in
    let calls = c.args.calls.now in
    let out = c.args.out.now in
    let whole = fields_bytes (ran_fields bs host calls) in
    let blank : Turn = record { call = Restart; answer = None } in
    let count : length (take c.min-count.result (replicate 256 blank)) ≡ min (length calls / 5) 256
    = omega (arith, c.min-count.ensures, length-take c.min-count.result (replicate 256 blank)) in
    let given : map call_of c.fill_turns.new.turns ≡ given_calls calls = c.fill_turns.ensures ∙ ap (calls_in calls) count in
    let added = same _ _ whole _ c.add_host_run.ensures (ap (λ (calls : List Call). fields_bytes (host_fields bs host calls)) given) in
    let is = whole_text whole c.new-text.result.items c.add_host_run.new.text.items added c.new-text.ensures c.give.ensures.fits in
    let written : c.give.result ≡ length (fitting out (ran_fields bs host calls)) = c.give.ensures.length ∙ ap (λ (t : List ℕ). length (take (length out) t)) is in
    c.give.ensures.out ∙ (λ i. take (length out) (is i) ++ drop (written i) out)
