use Rattle.std.proofs.Common.{Some, None, sym, ap, ◌+◌, ◌*◌, ◌∙◌, arith}
use Rattle.std.proofs.lemmas.Bool.{cond-true}
use Rattle.isa.specs.Form.{well_formed, instruction}
use Rattle.module.specs.Layout.{row_from, row_at}
use Rattle.module.proofs.Accepts.{accepts_laid, accepts_kept}
use Rattle.module.proofs.At.{an_instruction}
use Rattle.module.proofs.site.Site.instruction.Goals as goal

pub overflow_mul-index : goal.overflow_mul-index
overflow_mul-index c =
    let s = c.args.self in
    let t = s.body in
    let laid = accepts_laid t.bytes.now t.keeps in
    omega (arith, laid.short, (laid.entry t.routine t.there).inside, s.there)

pub overflow_add-body : goal.overflow_add-body
overflow_add-body c =
    let s = c.args.self in
    let t = s.body in
    let laid = accepts_laid t.bytes.now t.keeps in
    let entry = laid.entry t.routine t.there in
    omega (arith, laid.few, laid.short, entry.placed, entry.inside, s.there, t.placed)

pub new-requires : goal.new-requires
new-requires c =
    let s = c.args.self in
    let t = s.body in
    let laid = accepts_laid t.bytes.now t.keeps in
    let entry = laid.entry t.routine t.there in
    omega (arith, laid.long, entry.placed, entry.inside, s.there, t.placed)

pub returns : goal.returns
returns c =
    let s = c.args.self in
    let t = s.body in
    let bs = t.bytes.now in
    let row = row_at bs t.routine s.index in
    let formed = (accepts_kept bs t.keeps t.routine s.index t.there s.there).2.formed in
    let is = c.instruction.ensures ∙ ap instruction (c.new.ensures ∙ ap (λ at. row_from bs (at + 8 * s.index)) t.placed) in
    an_instruction bs t.routine s.index t.there s.there ∙ cond-true (well_formed row) (Some (instruction row)) None formed ∙ ap Some (sym is)
