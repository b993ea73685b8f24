use Rattle.std.proofs.Common.{◌≡◌, ◌+◌, ◌-◌, ◌++◌, get_or, take, drop, set, sym, ap, ◌∙◌, arith}
use Rattle.isa.specs.Form.{bytes as bytes_of}
use Rattle.machine.specs.Memory.{stored}
use Rattle.machine.proofs.Words.{word_over}
use Rattle.machine.proofs.memory.Memory.write.Goals as goal

pub returns-in-Four : goal.returns-in-Four
returns-in-Four c =
    let bytes = c.args.self.now.bytes in
    let at = c.args.at in
    let r = c.to_le_bytes.result in
    let n : at + 4 - at ≡ 4 = omega arith in
    ap (λ k. take at bytes ++ (c.copy_from_slice-in-Four.new.self ++ drop k (drop at bytes))) n
    ∙ ap (λ part. take at bytes ++ (part ++ drop 4 (drop at bytes))) c.copy_from_slice-in-Four.ensures.after
    ∙ word_over bytes at (get_or r 0 0) (get_or r 1 0) (get_or r 2 0) (get_or r 3 0) (omega (arith, ap bytes_of c.in-Four.is))
    ∙ ap (λ w. set (set (set (set bytes at (get_or w 0 0)) (at + 1) (get_or w 1 0)) (at + 2) (get_or w 2 0)) (at + 3) (get_or w 3 0)) c.to_le_bytes.ensures
    ∙ ap (λ w. stored bytes at w c.args.v) (sym c.in-Four.is)
