-- A list filled one by one with what a function gives of each number.
use Rattle.std.proofs.Common.{◌≡◌, ℕ, ◌+◌, ◌<◌, List, map, length, get_or, set, slice_get, Some, None, ap, sym, ◌∙◌, ⊎_elim, arith}
use Rattle.std.proofs.lemmas.List.{get_or-set_other}
use Rattle.std.proofs.lemmas.Grind.{get_or-set_at}
use Rattle.std.proofs.lemmas.Bool.{cases_lt}
use Rattle.std.proofs.lemmas.Option.{same_Some, none-some}
use Rattle.std.specs.List.{range_with_len}
use Rattle.module.proofs.OneByOne.{read_there}

module _ {X : Type 0} (f : ℕ → X) (n r : ℕ) (h : r < n) where
  pub one_more : (xs xs' : List X) (x d : X) → length xs ≡ n → ((k : ℕ) → k < r → get_or xs k d ≡ f k)
      → Some x ≡ slice_get (map f (range_with_len 0 n)) r → xs' ≡ set xs r x → (k : ℕ) → k < r + 1 → get_or xs' k d ≡ f k
  one_more xs xs' x d long so_far read is k g =
      ap (λ l. get_or l k d) is
      ∙ ⊎_elim
      (λ lt. get_or-set_other xs r k x d (omega arith) ∙ so_far k lt)
      (λ ge. let e : k ≡ r = omega arith in get_or-set_at xs r k x d e (omega arith) ∙ same_Some x (f r) (read ∙ read_there f n r h) ∙ sym (ap f e))
      (cases_lt k r)

  pub not_past : None ≡ slice_get (map f (range_with_len 0 n)) r → ⊥
  not_past e = none-some (f r) (e ∙ read_there f n r h)
