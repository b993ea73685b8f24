-- What is added one after the other.
use Rattle.std.proofs.Common.{Ok, Err, Result, IsOk, OnOk, ◌≡◌, ℕ, ◌+◌, ◌-◌, ◌≤◌, length, arith, zero, suc, List, [], ◌∷◌, ◌++◌, map, take, drop, refl, sym, ap, ◌∙◌, append_assoc}
use Rattle.std.proofs.Math.Seq.{take-append-add}
use Rattle.std.proofs.lemmas.List.{take_all, append-nil}
use Rattle.std.proofs.lemmas.Grind.{flat_map-append}
use Rattle.engine.specs.declared.field.Field.{Field}
use Rattle.engine.specs.declared.field.Field.TheVariants.{One}
use Rattle.engine.specs.Fields.{field_bytes, fields_bytes, room, added, Added}

absorb : (n : ℕ) (xs ys : List ℕ) → take n (take n xs ++ ys) ≡ take n (xs ++ ys)
absorb zero xs ys = refl
absorb (suc n) [] ys = refl
absorb (suc n) (x ∷ xs) ys = ap (λ l. x ∷ l) (absorb n xs ys)

-- what was added is added
pub is_added : (before more after : List ℕ) → after ≡ added before more → Added before more after
is_added before more after is next =
    ap (λ l. added l next) is ∙ absorb room (before ++ more) next ∙ ap (λ l. take room l) (append_assoc before more next)

-- one after the other
pub both : (a xs b ys c : List ℕ) → Added a xs b → Added b ys c → Added a (xs ++ ys) c
both a xs b ys c f g next = g next ∙ f (ys ++ next) ∙ ap (λ l. added a l) (sym (append_assoc xs ys next))

pub both_fields : (a b c : List ℕ) (xs ys : List Field)
    → Added a (fields_bytes xs) b
    → Added b (fields_bytes ys) c
    → Added a (fields_bytes (xs ++ ys)) c
both_fields a b c xs ys f g next =
    both a (fields_bytes xs) b (fields_bytes ys) c f g next ∙ ap (λ l. added a (l ++ next)) (sym (flat_map-append field_bytes xs ys))

-- With rest added to b, as much is there as with all of whole added to a: as a loop keeps it.
abbrev pub Left : List ℕ → List ℕ → List ℕ → List ℕ → Type 0
Left a whole b rest = (next : List ℕ) → added b (rest ++ next) ≡ added a (whole ++ next)

pub onward : (a whole b piece rest c : List ℕ) → Left a whole b (piece ++ rest) → Added b piece c → Left a whole c rest
onward a whole b piece rest c left more next =
    more (rest ++ next) ∙ ap (λ l. added b l) (sym (append_assoc piece rest next)) ∙ left next

-- the same, said of a list that is equal
pub same : (a xs ys b : List ℕ) → Added a xs b → xs ≡ ys → Added a ys b
same a xs ys b f is next = f next ∙ ap (λ l. added a (l ++ next)) is

-- one after the other, said of a list that is equal to both
pub both_as : (a xs b ys c whole : List ℕ) → Added a xs b → Added b ys c → xs ++ ys ≡ whole → Added a whole c
both_as a xs b ys c whole f g is = same a (xs ++ ys) whole c (both a xs b ys c f g) is

-- bytes cut to the room that is left
pub as_fits : (old bs : List ℕ) → length old ≤ room → old ++ take (room - length old) bs ≡ added old bs
as_fits old bs small =
    let sum : length old + (room - length old) ≡ room = omega arith in
    sym (take-append-add old bs (room - length old)) ∙ ap (λ n. take n (old ++ bs)) sum

-- numbers of one byte each are those bytes
pub as_they_are : (bs : List ℕ) → fields_bytes (map One bs) ≡ bs
as_they_are [] = refl
as_they_are (b ∷ bs) = ap (λ l. b ∷ l) (as_they_are bs)

-- what holds after an acceptance
pub succeeded : {E : Type 0} (r : Result (Unit {0}) E) (X : Type 0) → IsOk r → OnOk r X → X
succeeded (Ok u) X is x = x
succeeded (Err e) X is x = absurd (cc)

-- A loop over a list: W is what is added of the list, and g what is added of an element.
module _ {X : Type 0} (W : List X → List ℕ) (g : X → List ℕ) (law : (x : X) (xs : List X) → W (x ∷ xs) ≡ g x ++ W xs) where
  pub more : (xs : List X) (i : ℕ) (x : X) (a b c whole : List ℕ)
      → drop i xs ≡ x ∷ drop (i + 1) xs
      → Left a whole b (W (drop i xs))
      → Added b (g x) c
      → Left a whole c (W (drop (i + 1) xs))
  more xs i x a b c whole is left f =
      onward a whole b (g x) (W (drop (i + 1) xs)) c (λ next. ap (λ l. added b (l ++ next)) (sym (ap W is ∙ law x (drop (i + 1) xs))) ∙ left next) f

  pub done : (xs : List X) (i : ℕ) (a b whole : List ℕ) → W [] ≡ [] → drop i xs ≡ [] → Left a whole b (W (drop i xs)) → Added a whole b
  done xs i a b whole nil is left next = sym (ap (λ l. added b (W l ++ next)) is ∙ ap (λ l. added b (l ++ next)) nil) ∙ left next

-- a text that was empty, with the whole added
pub whole_text : (whole start items : List ℕ) → Added start whole items → start ≡ [] → length items ≤ room → items ≡ take room whole
whole_text whole start items f empty fits =
    sym (take_all room items fits)
    ∙ ap (take room) (sym (append-nil items))
    ∙ f []
    ∙ ap (λ s. take room (s ++ (whole ++ []))) empty
    ∙ ap (take room) (append-nil whole)
