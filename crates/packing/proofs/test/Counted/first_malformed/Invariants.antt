use Rattle.std.proofs.Common.{◌≡◌, ℕ, ◌-◌, ◌^◌, ◌<◌, length, drop}
use Rattle.module.specs.First.{first_place}
use Rattle.packing.specs.Pack.{formed, first_malformed}
use Rattle.packing.specs.Packed.{nth_entry, nth_row, before}
use Rattle.packing.proofs.test.Counted.first_malformed.Given as goal

-- the routines from here on have the first malformed row of all
abbrev pub invariant-loop-routine : goal.invariant-loop-routine
invariant-loop-routine l =
    let rs = l.self.parts.rows.now in
    record {
      rest : l.rest ≡ drop (before l.entries l.routine) rs;
      first : first_place (formed l.entries rs) (λ r. (nth_entry l.entries r).count) (length l.entries - l.routine) l.routine ≡ first_malformed l.entries rs;
      words : (k : ℕ) → k < before l.entries l.routine → (nth_row rs k).n < 2 ^ 32;
    }
