-- An input that is longer than every module is refused as its first bytes are.
use Rattle.std.proofs.Common.{◌≡◌, ℕ, zero, suc, ◌+◌, ◌*◌, ◌<◌, ◌≤◌, Bool, true, false, not, ◌&&◌, ◌||◌, eqb, leb, List, length, take, is_ok, Some, None, Ok, Err, Option, Result, sym, refl, ap, ◌∙◌, ⊎_elim, arith, length-take}
use Rattle.std.proofs.lemmas.List.{get_or-take, take_all}
use Rattle.std.proofs.lemmas.Bool.{cases_Bool, cases_lt, cond-true, cond-false, le-leb}
use Rattle.std.proofs.lemmas.Bool.Decides.{nat_tests}
use Rattle.refusal.specs.Values.{Values, author}
use Rattle.module.specs.declared.opened.Counts.{Counts}
use Rattle.module.specs.Bytes.{byte, two, four}
use Rattle.module.specs.First.{first_failing}
use Rattle.module.specs.Layout.{routines, image_length, count, before, length_given, counts, counts_right, entry_right, provided, unless_wrong, opening}
use Rattle.module.proofs.Firsts.{first_same}
use Rattle.module.proofs.Opens.{laid}

-- what is left of open where the length is that of no module
abbrev long : List ℕ → Result Counts Values
long bs = provided (counts_right bs) (author 2 0 0) (unless_wrong (first_failing (entry_right bs) (routines bs) 0) (Err (author 4 0 0)))

never : (o : Option ℕ) (e : Bool) (c : Counts) → (o ≡ None → e ≡ true → ⊥) → unless_wrong o (provided e (author 4 0 0) (Ok c)) ≡ unless_wrong o (Err (author 4 0 0))
never None true c k = absurd (k refl refl)
never None false c k = refl
never (Some r) e c k = refl

opening_long : (bs : List ℕ) → 37380 < length bs → opening bs ≡ long bs
opening_long bs h =
    let some = cond-true (leb 4 (length bs)) _ _ (le-leb 4 (length bs) (omega arith)) in
    ⊎_elim
    (λ right.
    let few : routines bs ≤ 64 = grind (arith, nat_tests) in
    let first = first_failing (entry_right bs) (routines bs) 0 in
    let fits = eqb (length bs) (length_given bs) in
    let last : opening bs ≡ unless_wrong first (provided fits (author 4 0 0) (Ok (counts bs)))
    = some ∙ cond-true (counts_right bs) _ _ right ∙ cond-true (leb (4 + 8 * routines bs) (length bs)) _ _ (le-leb _ _ (omega arith)) in
    let none : first ≡ None → fits ≡ true → ⊥
    = λ p q. let l = laid bs (ap is_ok last ∙ (λ i. is_ok (unless_wrong (p i) (provided (q i) (author 4 0 0) (Ok (counts bs)))))) in
    omega (arith, l.long, l.few, l.short, l.image) in
    last ∙ never first fits (counts bs) none ∙ sym (cond-true (counts_right bs) _ _ right))
    (λ wrong. some ∙ cond-false (counts_right bs) _ _ wrong ∙ sym (cond-false (counts_right bs) _ _ wrong))
    (cases_Bool (counts_right bs))

provided_same : {X : Type 0} (p q : Bool) (v : Values) (x y : Result X Values) → p ≡ q → (q ≡ true → x ≡ y) → provided p v x ≡ provided q v y
provided_same p true v x y e f = ap (λ b. provided b v x) e ∙ f refl
provided_same p false v x y e f = ap (λ b. provided b v x) e

-- two lists that agree as far as the contents can reach
module _ (front bs : List ℕ) (byte-same : (at : ℕ) → at < 516 → byte front at ≡ byte bs at) where
  two_same : (at : ℕ) → at + 1 < 516 → two front at ≡ two bs at
  two_same at h = λ i. byte-same at (omega arith) i + 256 * byte-same (at + 1) h i

  four_same : (at : ℕ) → at + 3 < 516 → four front at ≡ four bs at
  four_same at h = λ i.
      byte-same at (omega arith) i + 256 * byte-same (at + 1) (omega arith) i + 65536 * byte-same (at + 2) (omega arith) i + 16777216 * byte-same (at + 3) h i

  routines_same : routines front ≡ routines bs
  routines_same = two_same 0 (omega arith)

  image_same : image_length front ≡ image_length bs
  image_same = two_same 2 (omega arith)

  counts_same : counts_right front ≡ counts_right bs
  counts_same = λ i. leb 1 (routines_same i) && (leb (routines_same i) 64 && leb (image_same i) 4096)

  count_same : (r : ℕ) → r < 64 → count front r ≡ count bs r
  count_same r h = two_same (8 + 8 * r) (omega arith)

  before_same : (r : ℕ) → r ≤ 64 → before front r ≡ before bs r
  before_same zero h = refl
  before_same (suc r) h = λ i. before_same r (omega arith) i + count_same r (omega arith) i

  entry_same : (r : ℕ) → r < 64 → entry_right front r ≡ entry_right bs r
  entry_same r h = λ i.
      eqb (four_same (4 + 8 * r) (omega arith) i) (4 + 8 * routines_same i + 8 * before_same r (omega arith) i)
      && (leb 1 (count_same r h i)
      && (leb (byte-same (10 + 8 * r) (omega arith) i) 32
      && (leb (byte-same (11 + 8 * r) (omega arith) i) 8
      && ((not (eqb r 0) || (eqb (byte-same (10 + 8 * r) (omega arith) i) 0 && eqb (byte-same (11 + 8 * r) (omega arith) i) 0))
      && leb (before_same r (omega arith) i + count_same r h i) 4096))))

  long_same : long front ≡ long bs
  long_same =
      provided_same (counts_right front) (counts_right bs) (author 2 0 0) _ _ counts_same (λ right.
      let few : routines bs ≤ 64 = grind (arith, nat_tests) in
      let first : first_failing (entry_right front) (routines front) 0 ≡ first_failing (entry_right bs) (routines bs) 0
      = ap (λ n. first_failing (entry_right front) n 0) routines_same ∙ first_same (entry_right front) (entry_right bs) (routines bs) 0 (λ j h. entry_same j (omega arith)) in
      ap (λ o. unless_wrong o (Err (author 4 0 0))) first)

module _ (k : ℕ) (long-enough : k ≡ 37381) (bs : List ℕ) where
  pub front_opens : opening (take k bs) ≡ opening bs
  front_opens =
      ⊎_elim
      (λ h. ap opening (take_all k bs (omega arith)))
      (λ h. opening_long (take k bs) (omega (arith, length-take k bs))
      ∙ long_same (take k bs) bs (λ at l. get_or-take k bs at 0 (omega arith))
      ∙ sym (opening_long bs (omega arith)))
      (cases_lt (length bs) 37382)

  pub opened_whole : is_ok (opening bs) ≡ true → take k bs ≡ bs
  opened_whole h = let l = laid bs h in take_all k bs (omega (arith, l.long, l.few, l.short, l.image))
