use Rattle.std.proofs.Common.{◌≡◌, List, ℕ, ◌++◌, length, take, drop, ap, ◌∙◌}
use Rattle.engine.specs.Fields.{fields_bytes}
use Rattle.engine.specs.Lent.{lent_entry, lent_row}
use Rattle.engine.specs.Parts.{lent_fields, unpacked_fields}
use Rattle.engine.specs.Whole.{fitting}
use Rattle.engine.proofs.Adding.{same, whole_text}
use Rattle.engine.proofs.Lending.{first_lent}
use Rattle.engine.proofs.bench_unpack.Goals as goal

pub returns-clause-length : goal.returns-clause-length
returns-clause-length c =
    let bs = c.args.bytes.now in
    let es = c.args.entries in
    let rs = c.args.rows in
    let out = c.args.out.now in
    let whole = fields_bytes (unpacked_fields bs es rs) in
    let entries = c.lend.ensures ∙ first_lent lent_entry 64 es in
    let rows = c.lend-2.ensures ∙ first_lent lent_row 4096 rs in
    let added = same _ _ whole _ c.add_unpack.ensures (λ i. fields_bytes (lent_fields bs (entries i) (rows i))) in
    let is = whole_text whole c.new-text.result.items c.add_unpack.new.text.items added c.new-text.ensures c.give.ensures.fits in
    c.give.ensures.length ∙ ap (λ (t : List ℕ). length (take (length out) t)) is

pub returns-clause-out : goal.returns-clause-out
returns-clause-out c =
    let bs = c.args.bytes.now in
    let es = c.args.entries in
    let rs = c.args.rows in
    let out = c.args.out.now in
    let whole = fields_bytes (unpacked_fields bs es rs) in
    let entries = c.lend.ensures ∙ first_lent lent_entry 64 es in
    let rows = c.lend-2.ensures ∙ first_lent lent_row 4096 rs in
    let added = same _ _ whole _ c.add_unpack.ensures (λ i. fields_bytes (lent_fields bs (entries i) (rows i))) in
    let is = whole_text whole c.new-text.result.items c.add_unpack.new.text.items added c.new-text.ensures c.give.ensures.fits in
    let written : c.give.result ≡ length (fitting out (unpacked_fields bs es rs)) = c.give.ensures.length ∙ ap (λ (t : List ℕ). length (take (length out) t)) is in
    c.give.ensures.out ∙ (λ i. take (length out) (is i) ++ drop (written i) out)
