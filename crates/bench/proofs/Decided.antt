-- The first bytes of an input decide what is printed of it.
use Rattle.std.proofs.Common.{◌≡◌, ◌≤◌, ℕ, true, false, List, [], ◌∷◌, ◌++◌, take, length, is_ok, Some, None, Ok, Err, Option, Result, IfSome, refl, sym, ap, subst, ◌∙◌, ⊎_elim}
use Rattle.std.specs.Option.{option_map}
use Rattle.std.specs.Result.{result_and}
use Rattle.std.proofs.lemmas.Bool.{cases_Bool}
use Rattle.std.proofs.lemmas.List.{take-append-le}
use Rattle.std.specs.Prelude.{nat_le}
use Rattle.refusal.specs.Values.{Values, caller}
use Rattle.host.specs.Axis.{axis_rule, new_axis}
use Rattle.module.specs.declared.opened.Counts.{Counts}
use Rattle.module.specs.Layout.{opening, total, provided}
use Rattle.module.specs.Rules.{rules}
use Rattle.module.specs.Verdict.{tried}
use Rattle.module.proofs.Fronts.{front_opens, opened_whole}
use Rattle.drive.specs.declared.call.Call.TheVariants.{Grant}
use Rattle.bench.specs.Measured.{or_refusal, run_text, printed, DecidedBy}

-- what is printed, by what open answers
abbrev by_opening : Result Counts Values → List ℕ → List ℕ
by_opening opened bs =
    or_refusal (result_and opened (provided (nat_le (total bs) 4096) (caller 12) (tried rules bs))) (run_text bs axis_rule new_axis (Grant 10000 ∷ []))

-- where open refuses, nothing else of the bytes shows
refused_same : (opened : Result Counts Values) (front bs : List ℕ) → is_ok opened ≡ false → by_opening opened front ≡ by_opening opened bs
refused_same (Ok c) front bs h = absurd (cc)
refused_same (Err e) front bs h = refl

same_printed : (front bs : List ℕ) → opening front ≡ opening bs → (is_ok (opening bs) ≡ true → front ≡ bs) → printed front ≡ printed bs
same_printed front bs same whole =
    ⊎_elim
    (λ right. ap printed (whole right))
    (λ wrong. ap (λ opened. by_opening opened front) same ∙ refused_same (opening bs) front bs wrong)
    (cases_Bool (is_ok (opening bs)))

-- The first n bytes of every input decide what is printed of it.
abbrev FirstDecide : ℕ → Type 0
FirstDecide n = (bs : List ℕ) → printed (take n bs) ≡ printed bs

pub first_decide : (n : ℕ) → ((bs : List ℕ) → opening (take n bs) ≡ opening bs) → ((bs : List ℕ) → is_ok (opening bs) ≡ true → take n bs ≡ bs) → FirstDecide n
first_decide n decides whole bs = same_printed (take n bs) bs (decides bs) (whole bs)

enough_decide : (n : ℕ) → FirstDecide n → (bs : List ℕ) → n ≤ length bs → DecidedBy bs
enough_decide n first bs enough more =
    sym (first (bs ++ more)) ∙ ap printed (take-append-le n bs more enough) ∙ first bs

longest_decide : (n : ℕ) → n ≡ 37381 → (bs : List ℕ) → n ≤ length bs → DecidedBy bs
longest_decide n is = enough_decide n (first_decide n (front_opens n is) (opened_whole n is))

pub decided : (bs : List ℕ) → 37381 ≤ length bs → DecidedBy bs
decided = longest_decide 37381 refl

-- of a reader's bytes, where they are known, and those that a limit leaves of them
pub decided_of_all : (n limit : ℕ) (known inner : Option (List ℕ)) (before bytes : List ℕ)
    → FirstDecide n
    → limit ≡ n
    → inner ≡ known
    → before ≡ []
    → IfSome (option_map (take limit) inner) (λ front. bytes ≡ before ++ front)
    → IfSome known (λ all. printed bytes ≡ printed all)
decided_of_all n limit known None before bytes first same_limit same_bytes empty is =
    subst (λ (k : Option (List ℕ)). IfSome k (λ all. printed bytes ≡ printed all)) same_bytes tt
decided_of_all n limit known (Some all) before bytes first same_limit same_bytes empty is =
    let front : bytes ≡ take n all = is ∙ (λ i. empty i ++ take (same_limit i) all) in
    subst (λ (k : Option (List ℕ)). IfSome k (λ all. printed bytes ≡ printed all)) same_bytes (ap printed front ∙ first all)
