-- Bytes that pass the opening tests are laid out as the rules say.
use Rattle.std.proofs.Common.{◌≡◌, ℕ, suc, ◌+◌, ◌-◌, ◌*◌, ◌<◌, ◌≤◌, Bool, true, false, ◌&&◌, eqb, leb, List, length, is_ok, Some, None, Ok, Option, Result, sym, refl, ap, ◌∙◌, arith}
use Rattle.std.proofs.lemmas.Bool.{and_left, and_right, and_from, eq-eqb, ne_eqb, cond-true, eqb-true, false≢true}
use Rattle.std.proofs.lemmas.Bool.Decides.{nat_tests}
use Rattle.refusal.specs.Values.{Values, author}
use Rattle.module.specs.declared.entry.Entry.{Entry}
use Rattle.module.specs.declared.opened.Counts.{Counts}
use Rattle.module.specs.declared.opened.Opened.{Opened}
use Rattle.module.specs.declared.routine.Routine.{Routine}
use Rattle.module.specs.First.{first_failing}
use Rattle.module.specs.Laid.{EntryLaid, Laid}
use Rattle.module.specs.Layout.{right as right_of}
use Rattle.module.specs.Layout.{entry_of, routines, image_length, offset, count, arguments, results, before, length_given, counts, counts_right, entry_right, provided, unless, unless_wrong, opening}
use Rattle.module.specs.Told.{bytes_of, bytes_in}
use Rattle.module.proofs.Firsts.{first_none, sum_mono}

provided-ok : {X : Type 0} (b : Bool) (v : Values) (rest : Result X Values) → is_ok (provided b v rest) ≡ true → (b ≡ true) × (is_ok rest ≡ true)
provided-ok true v rest h = (refl, h)
provided-ok false v rest h = absurd (false≢true h)

pub unless_ok : {A X : Type 0} (refusal : A → Values) (o : Option A) (rest : Result X Values) → is_ok (unless refusal o rest) ≡ true → (o ≡ None) × (is_ok rest ≡ true)
unless_ok refusal None rest h = (refl, h)
unless_ok refusal (Some a) rest h = absurd (false≢true h)

record Right (bs : List ℕ) (r : ℕ) : Type 0 where
  placed : offset bs r ≡ 4 + 8 * routines bs + 8 * before bs r
  full : 1 ≤ count bs r
  takes : arguments bs r ≤ 32
  gives : results bs r ≤ 8
  short : before bs r + count bs r ≤ 4096
  main : r ≡ 0 → (arguments bs r ≡ 0) × (results bs r ≡ 0)

right : (bs : List ℕ) (r : ℕ) → entry_right bs r ≡ true → Right bs r
right bs r h =
    record {
      placed = grind (arith, nat_tests);
      full = grind (arith, nat_tests);
      takes = grind (arith, nat_tests);
      gives = grind (arith, nat_tests);
      short = grind (arith, nat_tests);
      main = λ e. (grind (arith, nat_tests), grind (arith, nat_tests));
    }

record Tests (bs : List ℕ) : Type 0 where
  counted : counts_right bs ≡ true
  entered : first_failing (entry_right bs) (routines bs) 0 ≡ None
  long : eqb (length bs) (length_given bs) ≡ true
  told : opening bs ≡ Ok (counts bs)

tests : (bs : List ℕ) → is_ok (opening bs) ≡ true → Tests bs
tests bs h =
    let a = provided-ok (leb 4 (length bs)) _ _ h in
    let b = provided-ok (counts_right bs) _ _ a.1 in
    let c = provided-ok (leb (4 + 8 * routines bs) (length bs)) _ _ b.1 in
    let d = unless_ok (λ r. author 3 r 0) (first_failing (entry_right bs) (routines bs) 0) _ c.1 in
    let e = provided-ok (eqb (length bs) (length_given bs)) _ _ d.1 in
    record {
      counted = b.0;
      entered = d.0;
      long = e.0;
      told = cond-true _ _ _ a.0 ∙ cond-true _ _ _ b.0 ∙ cond-true _ _ _ c.0 ∙ ap (λ o. unless_wrong o (provided (eqb (length bs) (length_given bs)) (author 4 0 0) (Ok (counts bs)))) d.0 ∙ cond-true _ _ _ e.0;
    }

pub laid : (bs : List ℕ) → is_ok (opening bs) ≡ true → Laid bs
laid bs h =
    let t = tests bs h in
    let n = routines bs in
    let range : counts_right bs ≡ true = t.counted in
    let some : 1 ≤ n = grind (arith, nat_tests) in
    let few : n ≤ 64 = grind (arith, nat_tests) in
    let image : image_length bs ≤ 4096 = grind (arith, nat_tests) in
    let each : (r : ℕ) → r < n → Right bs r = λ r lt. right bs r (first_none (entry_right bs) n 0 t.entered r (omega arith) (omega arith)) in
    let last : suc (n - 1) ≡ n = omega arith in
    let most = (each (n - 1) (omega arith)).short in
    record {
      some = some;
      few = few;
      image = image;
      short = omega (arith, most, ap (before bs) last);
      long = eqb-true _ _ t.long;
      main = (each 0 (omega arith)).main refl;
      entry = λ r lt. let x = each r lt in record {
        placed = x.placed;
        full = x.full;
        takes = x.takes;
        gives = x.gives;
        inside = let e : suc r + (n - suc r) ≡ n = omega arith in omega (arith, sum_mono (count bs) (suc r) (n - suc r), ap (before bs) e);
      };
    }

pub counts_opened : (bs : List ℕ) (c : Counts) → opening bs ≡ Ok c → c ≡ counts bs
counts_opened bs c e =
    let same : Ok c ≡ Ok (counts bs) = sym e ∙ (tests bs (ap is_ok e)).told in (cc)

-- an opened module
module _ (o : Opened) where
  pub opened_laid : Laid (bytes_of o)
  opened_laid = laid (bytes_of o) (ap is_ok o.opens)

  pub opened_counts : o.counts ≡ counts (bytes_of o)
  opened_counts = counts_opened (bytes_of o) o.counts o.opens

  pub opened_routines : o.counts.routines ≡ routines (bytes_of o)
  opened_routines = ap (λ x. x.routines) opened_counts

  pub opened_entry : (r : ℕ) → r < o.counts.routines → EntryLaid (bytes_of o) r
  opened_entry r h = opened_laid.entry r (omega (arith, opened_routines))

-- a routine of one
pub routine_in : (t : Routine) → t.index < routines (bytes_in t)
routine_in t = omega (arith, t.there, opened_routines t.module.now)

pub routine_entered : (t : Routine) → EntryLaid (bytes_in t) t.index
routine_entered t = opened_entry t.module.now t.index t.there

-- an entry as it was read
module _ (bs : List ℕ) (n r sum at : ℕ) (e : Entry) (en : n ≡ routines bs) (es : sum ≡ before bs r) (ea : at ≡ offset bs r) (ee : e ≡ entry_of bs r) where
  entry_read : (eqb at (4 + 8 * n + 8 * sum) && right_of e r sum) ≡ entry_right bs r
  entry_read = λ i. eqb (ea i) (4 + 8 * en i + 8 * es i) && right_of (ee i) r (es i)

  pub entry_misplaced : (at ≡ 4 + 8 * n + 8 * sum → ⊥) → entry_right bs r ≡ false
  entry_misplaced h = sym entry_read ∙ and_left _ _ (ne_eqb at _ h)

  pub entry_wrong : right_of e r sum ≡ false → entry_right bs r ≡ false
  entry_wrong h = sym entry_read ∙ and_right _ _ h

  pub entry_passed : at ≡ 4 + 8 * n + 8 * sum → right_of e r sum ≡ true → entry_right bs r ≡ true
  entry_passed p h = sym entry_read ∙ and_from _ _ (eq-eqb at _ p) h
