-- Lists that are changed in place, by a loop over their first elements.
use Rattle.std.proofs.Common.{◌≡◌, ℕ, zero, suc, ◌+◌, ◌<◌, ◌≤◌, min, List, [], ◌∷◌, ◌++◌, map, length, get_or, take, drop, set, sym, refl, ap, ◌∙◌, take-append-drop, arith}
use Rattle.std.proofs.lemmas.List.{take_all, drop_all, append-nil, take_min, drop_min, get_or_default, length-append, length-map, length-take, length-drop}
use Rattle.std.proofs.lemmas.List.Edits.{map_over_more}

module _ {X : Type 0} (f : X → X) where
  -- one turn of a loop that changes each element of xs by f
  pub swept_more : (d : X) (i : ℕ) (xs ys : List X)
      → i < length xs
      → ys ≡ map f (take i xs) ++ drop i xs
      → set ys i (f (get_or ys i d)) ≡ map f (take (i + 1) xs) ++ drop (i + 1) xs
  swept_more d i xs ys in-xs done =
      let parts = length-append (map f (take i xs)) (drop i xs) in
      let in-ys : i < length ys = omega (arith, ap length done, parts, length-map (take i xs) f, length-take i xs, length-drop i xs) in
      map_over_more f xs ys i (get_or ys i d) in-xs done (get_or_default ys i d (get_or ys i d) in-ys)

  -- after the last turn
  pub swept_all : (i : ℕ) (xs ys : List X) → length xs ≤ i → ys ≡ map f (take i xs) ++ drop i xs → ys ≡ map f xs
  swept_all i xs ys all done =
      let whole = take_all i xs all in
      let none = drop_all i xs all in
      let nil = append-nil (map f xs) in
      cc

  pub take-swept : (n : ℕ) (xs : List X) → take n (map f (take n xs) ++ drop n xs) ≡ map f (take n xs)
  take-swept zero xs = refl
  take-swept (suc n) [] = refl
  take-swept (suc n) (x ∷ xs) = ap (λ ys. f x ∷ ys) (take-swept n xs)

  drop-swept : (n : ℕ) (xs : List X) → drop n (map f (take n xs) ++ drop n xs) ≡ drop n xs
  drop-swept zero xs = refl
  drop-swept (suc n) [] = refl
  drop-swept (suc n) (x ∷ xs) = drop-swept n xs

  -- after a loop over the first n elements, or over all where there are fewer
  module _ (n count i : ℕ) (xs ys : List X) (is : count ≡ min n (length xs)) (all : length (take count xs) ≤ i)
      (done : ys ≡ map f (take i (take count xs)) ++ drop i (take count xs)) where
    swept : ys ++ drop count xs ≡ map f (take n xs) ++ drop n xs
    swept =
        let changed = swept_all i (take count xs) ys all done in
        let front : take count xs ≡ take n xs = ap (λ k. take k xs) is ∙ take_min n xs in
        let back : drop count xs ≡ drop n xs = ap (λ k. drop k xs) is ∙ drop_min n xs in
        cc

    pub swept_front : take n (ys ++ drop count xs) ≡ map f (take n xs)
    swept_front = ap (take n) swept ∙ take-swept n xs

    pub swept_back : drop n (ys ++ drop count xs) ≡ drop n xs
    swept_back = ap (drop n) swept ∙ drop-swept n xs

-- a list, from its first n elements and the others
pub rejoin : {X : Type 0} {front back : List X} (n : ℕ) (xs : List X) → take n xs ≡ front → drop n xs ≡ back → xs ≡ front ++ back
rejoin n xs e f = sym (take-append-drop n xs) ∙ (λ i. e i ++ f i)
