-- Where a routine's instructions stand among all.
use Rattle.std.proofs.Common.{◌≡◌, ℕ, suc, ◌+◌, ◌-◌, ◌<◌, ◌≤◌, List, length, ap, arith}
use Rattle.module.specs.declared.entry.Entry.{Entry}
use Rattle.module.proofs.Firsts.{sum_mono}
use Rattle.packing.specs.Packed.{nth_entry, before, total}

pub inside : (es : List Entry) (r : ℕ) → r < length es → before es r + (nth_entry es r).count ≤ total es
inside es r lt =
    let e : suc r + (length es - suc r) ≡ length es = omega arith in
    omega (arith, sum_mono (λ k. (nth_entry es k).count) (suc r) (length es - suc r), ap (before es) e)
