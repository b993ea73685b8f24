-- N, as the tests of open find it.
use Rattle.std.proofs.Common.{◌≡◌, ◌≢◌, ℕ, ◌+◌, ◌*◌, ◌≤◌, Bool, true, false, ◌&&◌, eqb, leb, List, length, Some, None, Ok, Err, Option, Result, sym, refl, ap, ◌∙◌, arith}
use Rattle.std.proofs.lemmas.Bool.{cond-true, cond-false, le-leb, false≢true}
use Rattle.std.proofs.lemmas.Bool.Decides.{nat_tests}
use Rattle.refusal.specs.Values.{Values, author}
use Rattle.module.specs.declared.opened.Counts.{Counts}
use Rattle.module.specs.First.{first_failing}
use Rattle.module.specs.Layout.{routines, image_length, counts, counts_right, entry_right, length_given, opening, provided, unless_wrong}

pub wrong_counts : (bs : List ℕ) → 4 ≤ length bs → counts_right bs ≡ false → opening bs ≡ Err (author 2 0 0)
wrong_counts bs long wrong = cond-true (leb 4 (length bs)) _ _ (le-leb 4 (length bs) long) ∙ cond-false (counts_right bs) _ _ wrong

pub none_wrong : (bs : List ℕ) → routines bs ≡ 0 → counts_right bs ≡ false
none_wrong bs e = ap (λ n. leb 1 n && (leb n 64 && leb (image_length bs) 4096)) e

pub many_wrong : (bs : List ℕ) → 65 ≤ routines bs → counts_right bs ≡ false
many_wrong bs h = grind (arith, nat_tests)

pub most_right : (bs : List ℕ) → routines bs ≡ 64 → image_length bs ≤ 4096 → counts_right bs ≡ true
most_right bs e h = ap (λ n. leb 1 n && (leb n 64 && leb (image_length bs) 4096)) e ∙ le-leb (image_length bs) 4096 h

-- whatever else the tests of open find, they do not refuse with 2
abbrev is_two : Result Counts Values → Bool
is_two (Ok c) = false
is_two (Err e) = eqb e.number 2

not_two : (p q s : Bool) (o : Option ℕ) (c : Counts)
    → is_two (provided p (author 1 0 0) (provided q (author 1 0 0) (unless_wrong o (provided s (author 4 0 0) (Ok c))))) ≡ false
not_two false q s o c = refl
not_two true false s o c = refl
not_two true true s (Some r) c = refl
not_two true true false None c = refl
not_two true true true None c = refl

pub not_refused : (bs : List ℕ) → counts_right bs ≡ true → opening bs ≢ Err (author 2 0 0)
not_refused bs right h =
    let first = first_failing (entry_right bs) (routines bs) 0 in
    let last = eqb (length bs) (length_given bs) in
    let rest = provided (leb (4 + 8 * routines bs) (length bs)) (author 1 0 0) (unless_wrong first (provided last (author 4 0 0) (Ok (counts bs)))) in
    false≢true
    (sym (not_two (leb 4 (length bs)) (leb (4 + 8 * routines bs) (length bs)) last first (counts bs))
    ∙ ap (λ x. is_two (provided (leb 4 (length bs)) (author 1 0 0) x)) (sym (cond-true (counts_right bs) rest (Err (author 2 0 0)) right))
    ∙ ap is_two h)
