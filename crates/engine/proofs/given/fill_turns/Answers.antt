use Rattle.std.proofs.Common.{List, ◌*◌, ◌∙◌, None, length, map, ap, arith}
use Rattle.std.specs.List.{range_with_len}
use Rattle.std.proofs.lemmas.Simd.{map-map}
use Rattle.std.proofs.lemmas.List.FromFn.{fill_by_all}
use Rattle.drive.specs.declared.call.Call.TheVariants.{Grant}
use Rattle.drive.specs.declared.call.Turn.{Turn}
use Rattle.drive.specs.View.{call_of}
use Rattle.engine.specs.Given.{call_at}
use Rattle.engine.proofs.given.fill_turns.Goals as goal

pub returns : goal.returns
returns c =
    let bs = c.args.bytes.now in
    let filled = fill_by_all (λ i. record { call = call_at bs (5 * i); answer = None }) c.loop-i.turns (length c.args.turns.now) (record { call = Grant 0; answer = None }) (omega arith) (λ k h. c.loop-i.invariant k (omega arith)) in
    ap (λ (turns : List Turn). map call_of turns) filled ∙ map-map call_of (λ i. record { call = call_at bs (5 * i); answer = None }) (range_with_len 0 (length c.args.turns.now))
