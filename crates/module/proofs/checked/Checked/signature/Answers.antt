use Rattle.std.proofs.Common.{◌<◌, Some, sym, ap, ◌∙◌, subst, arith}
use Rattle.module.specs.Layout.{routines, signature}
use Rattle.module.specs.Told.{bytes_of}
use Rattle.module.proofs.At.{no_signature, a_signature}
use Rattle.module.proofs.Opens.{routine_in}
use Rattle.module.proofs.checked.Checked.signature.Goals as goal

pub returns-in_err-routine : goal.returns-in_err-routine
returns-in_err-routine c = c.from_residual.ensures ∙ sym (no_signature (bytes_of c.args.self.now.opened) c.args.routine c.in_err-routine.ensures)

pub returns : goal.returns
returns c =
    let o = c.args.self.now.opened in
    let there = c.in_ok-routine.ensures in
    let lt : c.args.routine < routines (bytes_of o) = subst (λ bs. c.args.routine < routines bs) there.0 (omega (arith, routine_in c.in_ok-routine.field-0, there.1)) in
    ap Some (c.signature.ensures ∙ (λ i. signature (there.0 i) (there.1 i))) ∙ sym (a_signature (bytes_of o) c.args.routine lt)
