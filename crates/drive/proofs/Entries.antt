-- The fault list by the entries of a log.
use Rattle.std.proofs.Common.{◌≡◌, ℕ, zero, suc, ◌+◌, ◌-◌, List, [], ◌∷◌, ◌++◌, map, length, drop, sym, refl, ap, ◌∙◌, arith}
use Rattle.std.proofs.lemmas.List.{length-map, length-append, length-drop, length_push, drop-append-le, drop-drop, append_assoc, append-nil, map_push}
use Rattle.faults.specs.Causes.{Trip}
use Rattle.faults.specs.Faults.{FaultValues, with_mark, unmarked}
use Rattle.faults.specs.Lists.{newest, cycled}
use Rattle.drive.specs.View.{noted, noted_all}
use Rattle.drive.specs.Calls.{Entry, trip, cycle}
use Rattle.drive.specs.Log.{Recent, recent, with_entry, with_entries, fault_list}

-- a trip, as a fault with its mark
abbrev mark_it : Trip → FaultValues
mark_it t = with_mark t 1

with_append : (xs ys : List Entry) (trips : Recent) → with_entries trips (xs ++ ys) ≡ with_entries (with_entries trips xs) ys
with_append [] ys trips = refl
with_append (x ∷ xs) ys trips = with_append xs ys (with_entry trips x)

-- one more after the newest
newest_more : (xs : List FaultValues) (f : FaultValues) → newest (newest xs ++ (f ∷ [])) ≡ newest (xs ++ (f ∷ []))
newest_more xs f =
    let k = length xs - 16 in
    let j = length (drop k xs ++ (f ∷ [])) - 16 in
    let less = drop-append-le k xs (f ∷ []) (omega arith) in
    let is : k + j ≡ length (xs ++ (f ∷ [])) - 16 = omega (arith, length_push (drop k xs) f, length_push xs f, length-drop k xs) in
    ap (drop j) (sym less) ∙ drop-drop j k (xs ++ (f ∷ [])) ∙ ap (λ i. drop i (xs ++ (f ∷ []))) is

fault_list_trip : (es : List Entry) (t : Trip) → noted (fault_list es) (trip t) ≡ fault_list (es ++ (trip t ∷ []))
fault_list_trip es t =
    let trips = with_entries (recent [] []) es in
    let before = map mark_it trips.before in
    let since = map unmarked trips.since in
    newest_more (before ++ since) (unmarked t)
    ∙ ap newest (append_assoc before since (unmarked t ∷ []) ∙ ap (λ fs. before ++ fs) (sym (map_push unmarked trips.since t)))
    ∙ ap (λ (r : Recent). newest (map mark_it r.before ++ map unmarked r.since)) (sym (with_append es (trip t ∷ []) (recent [] [])))

-- over a cycle the marked go, however many of them were pushed out before
cycled_since : (ts : List Trip) (k : ℕ) → cycled (drop k (map unmarked ts)) ≡ drop k (map mark_it ts)
cycled_since [] zero = refl
cycled_since [] (suc k) = refl
cycled_since (t ∷ ts) zero = ap (λ fs. mark_it t ∷ fs) (cycled_since ts zero)
cycled_since (t ∷ ts) (suc k) = cycled_since ts k

cycled_both : (bs ts : List Trip) (k : ℕ) → cycled (drop k (map mark_it bs ++ map unmarked ts)) ≡ drop (k - length bs) (map mark_it ts)
cycled_both [] ts k = cycled_since ts k ∙ ap (λ i. drop i (map mark_it ts)) (omega arith)
cycled_both (b ∷ bs) ts zero = cycled_both bs ts zero ∙ ap (λ i. drop i (map mark_it ts)) (omega arith)
cycled_both (b ∷ bs) ts (suc k) = cycled_both bs ts k ∙ ap (λ i. drop i (map mark_it ts)) (omega arith)

fault_list_cycle : (es : List Entry) → noted (fault_list es) cycle ≡ fault_list (es ++ (cycle ∷ []))
fault_list_cycle es =
    let trips = with_entries (recent [] []) es in
    let before = trips.before in
    let since = trips.since in
    let all = map mark_it before ++ map unmarked since in
    let is : length all - 16 - length before ≡ length (map mark_it since) - 16
    = omega (arith, length-append (map mark_it before) (map unmarked since), length-map before mark_it, length-map since unmarked, length-map since mark_it) in
    cycled_both before since (length all - 16)
    ∙ ap (λ i. drop i (map mark_it since)) is
    ∙ ap newest (sym (append-nil (map mark_it since)))
    ∙ ap (λ (r : Recent). newest (map mark_it r.before ++ map unmarked r.since)) (sym (with_append es (cycle ∷ []) (recent [] [])))

fault_list_more : (es : List Entry) (e : Entry) → noted (fault_list es) e ≡ fault_list (es ++ (e ∷ []))
fault_list_more es (trip t) = fault_list_trip es t
fault_list_more es cycle = fault_list_cycle es

-- the fault list keeps to the entries
pub fault_list_on : (more es : List Entry) → noted_all (fault_list es) more ≡ fault_list (es ++ more)
fault_list_on [] es = ap fault_list (sym (append-nil es))
fault_list_on (e ∷ more) es =
    ap (λ fs. noted_all fs more) (fault_list_more es e) ∙ fault_list_on more (es ++ (e ∷ [])) ∙ ap fault_list (append_assoc es (e ∷ []) more)
