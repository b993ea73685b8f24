use Rattle.std.proofs.Common.{◌≡◌, List, ℕ, ◌++◌, ◌/◌, length, take, drop, replicate, min, arith, length-take, ap, ◌∙◌}
use Rattle.engine.specs.Fields.{fields_bytes}
use Rattle.engine.specs.Given.{entries_in, instructions_in}
use Rattle.engine.specs.Lent.{lent_byte, lent_entry, lent_row}
use Rattle.engine.specs.Parts.{given_entries, given_instructions, put_together_fields, packed_fields}
use Rattle.engine.specs.Whole.{fitting}
use Rattle.engine.proofs.Adding.{same, whole_text}
use Rattle.engine.proofs.Lending.{first_lent}
use Rattle.engine.proofs.bench_pack.Goals as goal

pub returns-clause-length : goal.returns-clause-length
returns-clause-length c =
    let es = c.args.entries.now in
    let rs = c.args.rows.now in
    let im = c.args.image.now in
    let size = c.args.size in
    let out = c.args.out.now in
    let whole = fields_bytes (packed_fields es rs im size) in
    let count : length (take c.min-count.result (replicate 128 lent_entry)) ≡ min (length es / 4) 128
    = omega (arith, c.min-count.ensures, length-take c.min-count.result (replicate 128 lent_entry)) in
    let total : length (take c.min-total.result (replicate 8192 lent_row)) ≡ min (length rs / 8) 8192
    = omega (arith, c.min-total.ensures, length-take c.min-total.result (replicate 8192 lent_row)) in
    let entries : c.fill_entries.new.entries ≡ given_entries es = c.fill_entries.ensures ∙ ap (entries_in es) count in
    let rows : c.fill_instructions.new.rows ≡ given_instructions rs = c.fill_instructions.ensures ∙ ap (instructions_in rs) total in
    let output = c.lend.ensures ∙ first_lent lent_byte 40000 size in
    let added = same _ _ whole _ c.add_pack.ensures (λ i. fields_bytes (put_together_fields (entries i) (rows i) im (output i))) in
    let is = whole_text whole c.new-text.result.items c.add_pack.new.text.items added c.new-text.ensures c.give.ensures.fits in
    c.give.ensures.length ∙ ap (λ (t : List ℕ). length (take (length out) t)) is

pub returns-clause-out : goal.returns-clause-out
returns-clause-out c =
    let es = c.args.entries.now in
    let rs = c.args.rows.now in
    let im = c.args.image.now in
    let size = c.args.size in
    let out = c.args.out.now in
    let whole = fields_bytes (packed_fields es rs im size) in
    let count : length (take c.min-count.result (replicate 128 lent_entry)) ≡ min (length es / 4) 128
    = omega (arith, c.min-count.ensures, length-take c.min-count.result (replicate 128 lent_entry)) in
    let total : length (take c.min-total.result (replicate 8192 lent_row)) ≡ min (length rs / 8) 8192
    = omega (arith, c.min-total.ensures, length-take c.min-total.result (replicate 8192 lent_row)) in
    let entries : c.fill_entries.new.entries ≡ given_entries es = c.fill_entries.ensures ∙ ap (entries_in es) count in
    let rows : c.fill_instructions.new.rows ≡ given_instructions rs = c.fill_instructions.ensures ∙ ap (instructions_in rs) total in
    let output = c.lend.ensures ∙ first_lent lent_byte 40000 size in
    let added = same _ _ whole _ c.add_pack.ensures (λ i. fields_bytes (put_together_fields (entries i) (rows i) im (output i))) in
    let is = whole_text whole c.new-text.result.items c.add_pack.new.text.items added c.new-text.ensures c.give.ensures.fits in
    let written : c.give.result ≡ length (fitting out (packed_fields es rs im size)) = c.give.ensures.length ∙ ap (λ (t : List ℕ). length (take (length out) t)) is in
    c.give.ensures.out ∙ (λ i. take (length out) (is i) ++ drop (written i) out)
