-- Entries, rows and image that pass the tests of pack.
use Rattle.std.proofs.Common.{◌≡◌, ℕ, zero, suc, ◌+◌, ◌-◌, ◌^◌, ◌<◌, ◌≤◌, true, List, length, None, Ok, Result, sym, ◌∙◌, subst, ⊎_elim, arith}
use Rattle.std.proofs.lemmas.Bool.{cases_lt}
use Rattle.std.proofs.lemmas.Bool.Decides.{nat_tests}
use Rattle.std.proofs.lemmas.Grind.{common_steps}
use Rattle.refusal.specs.Values.{Values}
use Rattle.isa.specs.declared.row.Row.{Row}
use Rattle.isa.specs.Form.{well_formed}
use Rattle.module.specs.declared.entry.Entry.{Entry}
use Rattle.module.specs.First.{first_failing}
use Rattle.module.specs.Layout.{unless_wrong}
use Rattle.module.proofs.Firsts.{first_none, place_none}
use Rattle.packing.specs.Pack.{counts_right, entry_right, formed, first_malformed}
use Rattle.packing.specs.Packed.{nth_entry, nth_row, before, total}
use Rattle.packing.specs.Tested.{EntriesRight, RowsRight}

pub entries_right : (es : List Entry) (rs : List Row) (im : List ℕ) → counts_right es im ≡ true → (t : ℕ)
    → ◌≡◌ {A = Result ℕ Values} (Ok t) (unless_wrong (first_failing (entry_right es) (length es) 0) (Ok (total es))) → t ≤ 4096 → length rs ≡ t → EntriesRight es rs im
entries_right es rs im counts t sum short all =
    let right : first_failing (entry_right es) (length es) 0 ≡ None = grind (arith, common_steps) in
    let whole : t ≡ total es = grind (arith, common_steps) in
    record {
      some = grind (arith, nat_tests);
      few = grind (arith, nat_tests);
      small = grind (arith, nat_tests);
      right = λ r h. first_none (entry_right es) (length es) 0 right r (omega arith) (omega arith);
      short = omega arith;
      all = all ∙ whole;
    }

-- every instruction stands in a routine
pub record Placed (es : List Entry) (m k : ℕ) : Type 0 where
  pub routine : ℕ
  pub instruction : ℕ
  pub within : routine < m
  pub inside : instruction < (nth_entry es routine).count
  pub at : before es routine + instruction ≡ k

pub placed : (es : List Entry) (m k : ℕ) → k < before es m → Placed es m k
placed es zero k h = absurd (omega arith)
placed es (suc m) k h =
    ⊎_elim
    (λ l. let p = placed es m k l in record { routine = p.routine; instruction = p.instruction; within = omega (arith, p.within); inside = p.inside; at = p.at })
    (λ g. record { routine = m; instruction = k - before es m; within = omega arith; inside = omega arith; at = omega arith })
    (cases_lt k (before es m))

pub rows_right : (es : List Entry) (rs : List Row) (im : List ℕ) → EntriesRight es rs im → None ≡ first_malformed es rs → ((k : ℕ) → k < length rs → (nth_row rs k).n < 2 ^ 32) → RowsRight rs
rows_right es rs im ok none words =
    record {
      formed = λ k h. let q = placed es (length es) k (omega (arith, ok.all)) in
          subst (λ x. well_formed (nth_row rs x) ≡ true) q.at (place_none (formed es rs) (λ r. (nth_entry es r).count) (length es) 0 (sym none) q.routine q.instruction (omega arith) (omega (arith, q.within)) q.inside);
      words = words;
    }
