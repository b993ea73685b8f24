use Rattle.std.proofs.Common.{◌≡◌, List, ℕ, ◌++◌, length, take, drop, ap, ◌∙◌}
use Rattle.module.specs.declared.shape.ShapeRow.{ShapeRow}
use Rattle.engine.specs.Fields.{fields_bytes}
use Rattle.engine.specs.Lent.{lent_shape}
use Rattle.engine.specs.Whole.{sheet_fields, checked_fields, fitting}
use Rattle.engine.proofs.Adding.{same, whole_text}
use Rattle.engine.proofs.Lending.{first_lent}
use Rattle.engine.proofs.bench_check.Goals as goal

pub returns-clause-length : goal.returns-clause-length
returns-clause-length c =
    let bs = c.args.bytes.now in
    let out = c.args.out.now in
    let whole = fields_bytes (checked_fields bs c.args.rows) in
    let sheet = c.lend.ensures ∙ first_lent lent_shape 4096 c.args.rows in
    let added = same _ _ whole _ c.add_check.ensures (ap (λ (sheet : List ShapeRow). fields_bytes (sheet_fields bs sheet)) sheet) in
    let is = whole_text whole c.new-text.result.items c.add_check.new.text.items added c.new-text.ensures c.give.ensures.fits in
    c.give.ensures.length ∙ ap (λ (t : List ℕ). length (take (length out) t)) is

pub returns-clause-out : goal.returns-clause-out
returns-clause-out c =
    let bs = c.args.bytes.now in
    let out = c.args.out.now in
    let whole = fields_bytes (checked_fields bs c.args.rows) in
    let sheet = c.lend.ensures ∙ first_lent lent_shape 4096 c.args.rows in
    let added = same _ _ whole _ c.add_check.ensures (ap (λ (sheet : List ShapeRow). fields_bytes (sheet_fields bs sheet)) sheet) in
    let is = whole_text whole c.new-text.result.items c.add_check.new.text.items added c.new-text.ensures c.give.ensures.fits in
    let count : c.give.result ≡ length (fitting out (checked_fields bs c.args.rows)) = c.give.ensures.length ∙ ap (λ (t : List ℕ). length (take (length out) t)) is in
    c.give.ensures.out ∙ (λ i. take (length out) (is i) ++ drop (count i) out)
