-- A checked module, taken apart, passes the tests of pack.
use Rattle.std.proofs.Common.{◌≡◌, ℕ, zero, suc, ◌+◌, ◌-◌, ◌*◌, ◌<◌, ◌≤◌, Bool, true, eqb, leb, List, length, None, Ok, sym, refl, ap, ◌∙◌, arith}
use Rattle.std.proofs.lemmas.Bool.{eq-eqb}
use Rattle.std.proofs.lemmas.Bool.Decides.{nat_tests}
use Rattle.refusal.specs.Values.{author, caller}
use Rattle.isa.specs.Form.{well_formed}
use Rattle.module.specs.Bytes.{Octets}
use Rattle.module.specs.First.{first_failing, first_place, or_later}
use Rattle.module.specs.Kept.{KeptEverywhere}
use Rattle.module.specs.Laid.{Laid}
use Rattle.module.specs.Layout as layout
use Rattle.module.specs.Contents.{entries, rows, image}
use Rattle.packing.specs.Pack.{counts_right, entry_right, formed, first_malformed, unless_malformed, size, packing}
use Rattle.packing.specs.Packed.{nth_entry, nth_row, before, total}
use Rattle.packing.proofs.Rebuilt.{entries_long, rows_long, image_long, entry_is, row_is, before_is}
use Rattle.module.proofs.Firsts.{all_pass}

place_all : (test : ℕ → ℕ → Bool) (count : ℕ → ℕ) (left r : ℕ) → ((s i : ℕ) → s < r + left → i < count s → test s i ≡ true) → first_place test count left r ≡ None
place_all test count zero r e = refl
place_all test count (suc left) r e =
    ap (λ o. or_later r o (first_place test count left (r + 1))) (all_pass (test r) (count r) 0 (λ j g h. e r j (omega arith) (omega arith)))
    ∙ place_all test count left (r + 1) (λ s i h g. e s i (omega arith) g)

module _ (bs : List ℕ) (small : Octets bs) (ok : Laid bs) (kept : KeptEverywhere bs) where
  counts_right_lem : counts_right (entries bs) (image bs) ≡ true
  counts_right_lem =
      let n = entries_long bs small ok in
      let some : 1 ≤ length (entries bs) = omega (arith, n, ok.some) in
      let few : length (entries bs) ≤ 64 = omega (arith, n, ok.few) in
      let short : length (image bs) ≤ 4096 = omega (arith, image_long bs small ok, ok.image) in
      grind (arith, nat_tests)

  entry_right_lem : (r : ℕ) → r < layout.routines bs → entry_right (entries bs) r ≡ true
  entry_right_lem r h =
      let e = ok.entry r h in
      let most : layout.before bs r + layout.count bs r ≤ 4096 = omega (arith, e.inside, ok.short) in
      let taken : r ≡ 0 → layout.arguments bs r ≡ 0 = λ z. ap (layout.arguments bs) z ∙ ok.main.0 in
      let given : r ≡ 0 → layout.results bs r ≡ 0 = λ z. ap (layout.results bs) z ∙ ok.main.1 in
      (λ i. layout.right (entry_is bs small ok r h i) r (before_is bs small ok r (omega arith) i)) ∙ grind (arith, nat_tests)

  none_wrong : first_failing (entry_right (entries bs)) (length (entries bs)) 0 ≡ None
  none_wrong = all_pass (entry_right (entries bs)) (length (entries bs)) 0 (λ j g h. entry_right_lem j (omega (arith, entries_long bs small ok)))

  total_is : total (entries bs) ≡ layout.total bs
  total_is = ap (before (entries bs)) (entries_long bs small ok) ∙ before_is bs small ok (layout.routines bs) (omega arith)

  row_formed : (r i : ℕ) → r < layout.routines bs → i < (nth_entry (entries bs) r).count → formed (entries bs) (rows bs) r i ≡ true
  row_formed r i h g =
      let e = ok.entry r h in
      let li : i < layout.count bs r = omega (arith, ap (λ x. x.count) (entry_is bs small ok r h)) in
      let k = layout.before bs r + i in
      let at : 4 + 8 * layout.routines bs + 8 * k ≡ layout.offset bs r + 8 * i = omega (arith, e.placed) in
      let f = kept r i h li in
      ap (λ x. well_formed (nth_row (rows bs) (x + i))) (before_is bs small ok r (omega arith))
      ∙ ap well_formed (row_is bs small ok k (omega (arith, li, e.inside)) ∙ ap (layout.row_from bs) at)
      ∙ f.2.formed

  none_malformed : first_malformed (entries bs) (rows bs) ≡ None
  none_malformed = place_all (formed (entries bs) (rows bs)) (λ r. (nth_entry (entries bs) r).count) (length (entries bs)) 0 (λ s i h g. row_formed s i (omega (arith, entries_long bs small ok)) g)

  size_is : size (entries bs) (image bs) ≡ length bs
  size_is = (λ i. 4 + 8 * entries_long bs small ok i + 8 * total_is i + image_long bs small ok i) ∙ sym ok.long

  pub packing_is : (room : ℕ) → packing (entries bs) (rows bs) (image bs) room ≡ layout.provided (leb (length bs) room) (caller 13) (Ok (length bs))
  packing_is room =
      let sum : eqb (length (rows bs)) (total (entries bs)) ≡ true = eq-eqb _ _ (rows_long bs small ok ∙ sym total_is) in
      λ i. layout.provided (counts_right_lem i) (author 2 0 0)
      (layout.unless_wrong (none_wrong i)
      (layout.provided (sum i) (author 3 (length (entries bs) - 1) 0)
      (unless_malformed (none_malformed i)
      (layout.provided (leb (size_is i) room) (caller 13)
      (Ok (size_is i))))))
