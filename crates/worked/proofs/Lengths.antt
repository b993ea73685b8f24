-- Bytes with the contents of a module and another length.
use Rattle.std.proofs.Common.{◌≡◌, ◌≢◌, ℕ, zero, suc, ◌+◌, ◌*◌, ◌<◌, ◌≤◌, Bool, true, false, not, ◌&&◌, ◌||◌, eqb, leb, List, length, take, is_ok, None, Ok, Err, Result, sym, refl, ap, ◌∙◌, arith, length-take}
use Rattle.std.proofs.lemmas.List.{get_or-take}
use Rattle.std.proofs.lemmas.Bool.{cond-true, cond-false, le-leb, ne_eqb, false≢true}
use Rattle.refusal.specs.Values.{Values, author}
use Rattle.module.specs.Bytes.{byte, two, four}
use Rattle.module.specs.First.{first_failing}
use Rattle.module.specs.Layout.{routines, image_length, count, before, total, length_given, counts, counts_right, entry_right, provided, unless_wrong, opening}
use Rattle.module.proofs.Firsts.{first_same}
use Rattle.module.proofs.Opens.{laid, unless_ok}
use Rattle.worked.specs.Modules.{contents}

rest_ok : {X : Type 0} (b : Bool) (v : Values) (rest : Result X Values) → is_ok (provided b v rest) ≡ true → is_ok rest ≡ true
rest_ok true v rest h = h
rest_ok false v rest h = absurd (false≢true h)

-- no entry of a module that opens is wrong
entered : (bs : List ℕ) → is_ok (opening bs) ≡ true → first_failing (entry_right bs) (routines bs) 0 ≡ None
entered bs ok =
    let a = rest_ok (leb 4 (length bs)) _ _ ok in
    let b = rest_ok (counts_right bs) _ _ a in
    let c = rest_ok (leb (4 + 8 * routines bs) (length bs)) _ _ b in
    (unless_ok (λ r. author 3 r 0) (first_failing (entry_right bs) (routines bs) 0) _ c).0

module _ (bs cs : List ℕ) (ok : is_ok (opening bs) ≡ true) (same : take (contents bs) cs ≡ take (contents bs) bs) (other : length cs ≢ length bs) where
  byte_same : (at : ℕ) → at < contents bs → byte cs at ≡ byte bs at
  byte_same at h = sym (get_or-take (contents bs) cs at 0 h) ∙ ap (λ l. byte l at) same ∙ get_or-take (contents bs) bs at 0 h

  two_same : (at : ℕ) → at + 1 < contents bs → two cs at ≡ two bs at
  two_same at h = λ i. byte_same at (omega arith) i + 256 * byte_same (at + 1) h i

  four_same : (at : ℕ) → at + 3 < contents bs → four cs at ≡ four bs at
  four_same at h = λ i.
      byte_same at (omega arith) i + 256 * byte_same (at + 1) (omega arith) i + 65536 * byte_same (at + 2) (omega arith) i + 16777216 * byte_same (at + 3) h i

  routines_same : routines cs ≡ routines bs
  routines_same = two_same 0 (omega arith)

  image_same : image_length cs ≡ image_length bs
  image_same = two_same 2 (omega arith)

  count_same : (r : ℕ) → r < routines bs → count cs r ≡ count bs r
  count_same r h = two_same (8 + 8 * r) (omega arith)

  before_same : (r : ℕ) → r ≤ routines bs → before cs r ≡ before bs r
  before_same zero h = refl
  before_same (suc r) h = λ i. before_same r (omega arith) i + count_same r (omega arith) i

  total_same : total cs ≡ total bs
  total_same = ap (before cs) routines_same ∙ before_same (routines bs) (omega arith)

  entry_same : (r : ℕ) → r < routines bs → entry_right cs r ≡ entry_right bs r
  entry_same r h = λ i.
      eqb (four_same (4 + 8 * r) (omega arith) i) (4 + 8 * routines_same i + 8 * before_same r (omega arith) i)
      && (leb 1 (count_same r h i)
      && (leb (byte_same (10 + 8 * r) (omega arith) i) 32
      && (leb (byte_same (11 + 8 * r) (omega arith) i) 8
      && ((not (eqb r 0) || (eqb (byte_same (10 + 8 * r) (omega arith) i) 0 && eqb (byte_same (11 + 8 * r) (omega arith) i) 0))
      && leb (before_same r (omega arith) i + count_same r h i) 4096))))

  length_given_same : length_given cs ≡ length_given bs
  length_given_same = λ i. 4 + 8 * routines_same i + 8 * total_same i + image_same i

  pub other_refused : opening cs ≡ Err (author 4 0 0)
  other_refused =
      let l = laid bs ok in
      let n = routines bs in
      let long : contents bs ≤ length cs = omega (arith, ap length same, length-take (contents bs) cs, length-take (contents bs) bs, l.long) in
      let some : 1 ≤ routines cs = omega (arith, routines_same, l.some) in
      let few : routines cs ≤ 64 = omega (arith, routines_same, l.few) in
      let short : image_length cs ≤ 4096 = omega (arith, image_same, l.image) in
      let right : counts_right cs ≡ true = λ i. le-leb 1 (routines cs) some i && (le-leb (routines cs) 64 few i && le-leb (image_length cs) 4096 short i) in
      let entries : first_failing (entry_right cs) (routines cs) 0 ≡ None
      = ap (λ k. first_failing (entry_right cs) k 0) routines_same ∙ first_same (entry_right cs) (entry_right bs) n 0 (λ j h. entry_same j (omega arith)) ∙ entered bs ok in
      cond-true (leb 4 (length cs)) _ _ (le-leb 4 (length cs) (omega arith))
      ∙ cond-true (counts_right cs) _ _ right
      ∙ cond-true (leb (4 + 8 * routines cs) (length cs)) _ _ (le-leb _ _ (omega (arith, routines_same)))
      ∙ ap (λ o. unless_wrong o (provided (eqb (length cs) (length_given cs)) (author 4 0 0) (Ok (counts cs)))) entries
      ∙ cond-false (eqb (length cs) (length_given cs)) _ _ (ne_eqb (length cs) (length_given cs) (λ e. other (e ∙ length_given_same ∙ sym l.long)))
