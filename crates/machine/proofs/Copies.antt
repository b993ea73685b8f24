-- Arguments and results, copied one register at a time.
use Rattle.std.proofs.Common.{◌≡◌, ℕ, zero, suc, ◌+◌, ◌<◌, ◌≤◌, false, List, [], ◌∷◌, ◌++◌, map, length, get_or, take, drop, set, refl, ap, ◌∙◌, arith, length-set}
use Rattle.std.proofs.lemmas.List.{take_more, map_push, length-map, length-drop, length-take-le}
use Rattle.machine.specs.declared.frame.Register.{Register}
use Rattle.machine.specs.declared.frame.Register.TheVariants.{Variable}
use Rattle.machine.specs.Level.{value_of, is_constant, values_from, given}

-- one more of the front of a list
pub front_more : {A B : Type 0} (f : A → B) (xs : List A) (k : ℕ) (d : A) → k < length xs →
    map f (take (k + 1) xs) ≡ map f (take k xs) ++ (f (get_or xs k d) ∷ [])
front_more f xs k d h = ap (map f) (take_more xs k d h) ∙ map_push f (take k xs) (get_or xs k d)

pub front_length : {A B : Type 0} (f : A → B) (xs : List A) (k : ℕ) → k ≤ length xs → length (map f (take k xs)) ≡ k
front_length f xs k h = length-map (take k xs) f ∙ length-take-le k xs h

pub values_length : (rs : List Register) (a k : ℕ) → a + k ≤ length rs → length (values_from rs a k) ≡ k
values_length rs a k h = front_length value_of (drop a rs) k (omega (arith, length-drop a rs))

pub given_more : (vs : List ℕ) (rs : List Register) (a v : ℕ) → given rs a (vs ++ (v ∷ [])) ≡ set (given rs a vs) (a + length vs) (Variable v)
given_more [] rs a v = ap (λ n. set rs n (Variable v)) (omega arith)
given_more (x ∷ vs) rs a v =
    let r = set rs a (Variable x) in
    given_more vs r (a + 1) v ∙ ap (λ n. set (given r (a + 1) vs) n (Variable v)) (omega arith)

pub given_length : (vs : List ℕ) (rs : List Register) (a : ℕ) → length (given rs a vs) ≡ length rs
given_length [] rs a = refl
given_length (x ∷ vs) rs a = given_length vs (set rs a (Variable x)) (a + 1) ∙ length-set rs a (Variable x)

-- a variable stays one where another value is given
pub still_variable : (rs : List Register) (a b v : ℕ) → is_constant (get_or rs b (Variable 0)) ≡ false → is_constant (get_or (set rs a (Variable v)) b (Variable 0)) ≡ false
still_variable [] a b v h = refl
still_variable (r ∷ rs) zero zero v h = refl
still_variable (r ∷ rs) zero (suc b) v h = h
still_variable (r ∷ rs) (suc a) zero v h = h
still_variable (r ∷ rs) (suc a) (suc b) v h = still_variable rs a b v h

-- and where several are
pub given_variable : (vs : List ℕ) (rs : List Register) (a b : ℕ) → is_constant (get_or rs b (Variable 0)) ≡ false → is_constant (get_or (given rs a vs) b (Variable 0)) ≡ false
given_variable [] rs a b h = h
given_variable (v ∷ vs) rs a b h = given_variable vs (set rs a (Variable v)) (a + 1) b (still_variable rs a b v h)
