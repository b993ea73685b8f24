use Rattle.std.proofs.Common.{◌≡◌, ◌+◌, ◌-◌, ◌≤◌, ◌++◌, take, length, arith, ap, ◌∙◌, length-take}
use Rattle.engine.proofs.Adding.{as_fits, succeeded}
use Rattle.engine.proofs.field.add_bytes.Goals as goal

pub returns : goal.returns
returns c =
    let old = c.args.text.now.items in
    let bs = c.args.bytes.now in
    let len : c.len-left.result ≡ length old = c.len-left.ensures.value in
    let part : c.first.result.now ≡ take (40960 - length old) bs = c.first.ensures ∙ ap (λ n. take (40960 - n) bs) len in
    let count = length-take (40960 - length old) bs in
    let cut : length c.first.result.now ≡ length (take (40960 - length old) bs) = ap length part in
    let fits : length old + length c.first.result.now ≤ 40960 = omega arith in
    succeeded c.try_extend_from_slice-fits.result _ (c.try_extend_from_slice-fits.ensures.variant.1 fits) c.try_extend_from_slice-fits.ensures.ok
    ∙ ap (λ l. old ++ l) part
    ∙ as_fits old bs (omega arith)
