-- Rows of a table, and the numbers of their faults.
use Rattle.std.proofs.Common.{◌≡◌, ℕ, suc, ◌+◌, ◌-◌, ◌<◌, ◌≤◌, true, false, eqb, List, [], ◌∷◌, ◌++◌, map, length, get_or, take, drop, set, sym, refl, ap, ◌∙◌, arith}
use Rattle.std.proofs.Math.Seq.{set-append_seam}
use Rattle.std.proofs.lemmas.List.{get_or-map, map-set, take-map, drop-map, map-append, drop-take, length-drop}
use Rattle.std.proofs.lemmas.List.Edits.{take-paste}
use Rattle.std.specs.List.{copy_within}
use Rattle.std.specs.Int.{from_bool}
use Rattle.faults.specs.declared.fault.Fault.{Fault}
use Rattle.faults.specs.Faults.{no_fault, values_of, marked, is_marked}

-- the mark is what the flag says
pub mark_is : (fault : Fault) → is_marked (values_of fault) ≡ fault.marked
mark_is fault = elim fault.marked as (λ b. eqb (from_bool b) 1 ≡ b) [ true ↦ refl | false ↦ refl ]

-- row i with its flag set
pub row_marked : (rows : List Fault) (i : ℕ) (d : Fault)
    → i < length rows
    → map values_of (set rows i (record { cause = (get_or rows i d).cause; place = (get_or rows i d).place; marked = true }))
    ≡ set (map values_of rows) i (marked (get_or (map values_of rows) i no_fault))
row_marked rows i d h = map-set values_of rows i _ ∙ ap (λ fault. set (map values_of rows) i (marked fault)) (sym (get_or-map values_of rows i d no_fault h))

-- rows that are turned round by k
pub turned_rows : (k : ℕ) (old new : List Fault) → new ≡ drop k old ++ take k old → map values_of new ≡ drop k (map values_of old) ++ take k (map values_of old)
turned_rows k old new is =
    ap (map values_of) is ∙ map-append values_of (drop k old) (take k old) ∙ (λ i. sym (drop-map values_of k old) i ++ sym (take-map values_of k old) i)

-- rows that are turned round by one, with another row in the last place
pub turned_put : {X : Type 0} (n : ℕ) (xs : List X) (y : X) → length xs ≡ suc n → set (drop 1 xs ++ take 1 xs) n y ≡ drop 1 xs ++ (y ∷ [])
turned_put n [] y h = absurd (omega arith)
turned_put n (x ∷ xs) y h =
    let last : n ≡ length xs = omega arith in
    ap (λ k. set (xs ++ (x ∷ [])) k y) last ∙ set-append_seam xs x [] y

-- rows of which those that are left come to the front
pub brought_front : (gone count : ℕ) (old new : List Fault)
    → gone ≤ count
    → count ≤ length old
    → new ≡ copy_within old gone count 0
    → take (count - gone) (map values_of new) ≡ drop gone (take count (map values_of old))
brought_front gone count old new h h' is =
    let left = count - gone in
    let all : gone + left ≡ count = omega arith in
    let none_before : left ≡ 0 + left = omega arith in
    take-map values_of left new
    ∙ ap (λ rows. map values_of (take left rows)) is
    ∙ ap (λ n. map values_of (take n (copy_within old gone count 0))) none_before
    ∙ ap (map values_of) (take-paste old 0 (drop gone old) left (omega arith) (omega (arith, length-drop gone old)))
    ∙ sym (take-map values_of left (drop gone old))
    ∙ ap (take left) (sym (drop-map values_of gone old))
    ∙ sym (drop-take gone left (map values_of old))
    ∙ ap (λ n. drop gone (take n (map values_of old))) all
