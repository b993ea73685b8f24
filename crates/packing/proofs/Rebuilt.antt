-- A module's bytes, taken apart and put together.
use Rattle.std.proofs.Common.{◌≡◌, ℕ, zero, suc, ◌+◌, ◌*◌, ◌<◌, ◌≤◌, List, [], ◌∷◌, ◌++◌, length, get_or, take, drop, sym, refl, ap, ◌∙◌, arith, length-drop, take-append-drop, take-add}
use Rattle.std.proofs.lemmas.List.FromFn.{length-map-range_with_len, get_or-map-range_with_len}
use Rattle.std.proofs.lemmas.List.{drop_more, drop-drop}
use Rattle.module.specs.Bytes.{Octets, two, four}
use Rattle.module.specs.Laid.{Laid}
use Rattle.module.specs.Layout as layout
use Rattle.module.specs.Layout.{entry_of}
use Rattle.module.specs.Contents.{body_row, entries, rows, image}
use Rattle.packing.specs.Packed.{low2, low4, no_entry, no_row, nth_entry, nth_row, before, entry_bytes, row_bytes, blocks, packed}
use Rattle.packing.proofs.Digits.{low2_is, low4_is}

-- blocks that are the parts of a list
pub blocks_part : (f : ℕ → List ℕ) (xs : List ℕ) (n : ℕ) → ((k : ℕ) → k < n → f k ≡ take 8 (drop (8 * k) xs)) → blocks f n ≡ take (8 * n) xs
blocks_part f xs zero e = refl
blocks_part f xs (suc n) e =
    let at : 8 * suc n ≡ 8 * n + 8 = omega arith in
    (λ i. blocks_part f xs n (λ k h. e k (omega arith)) i ++ e n (omega arith) i) ∙ sym (ap (λ m. take m xs) at ∙ take-add (8 * n) 8 xs)

module _ (bs : List ℕ) where
  next : (a b : ℕ) → a + 1 ≡ b → a < length bs → drop a bs ≡ get_or bs a 0 ∷ drop b bs
  next a b e h = drop_more bs a 0 h ∙ ap (λ x. get_or bs a 0 ∷ drop x bs) e

  -- the eight bytes from a place on
  pub eight : (at : ℕ) → at + 8 ≤ length bs
      → take 8 (drop at bs) ≡ get_or bs at 0 ∷ get_or bs (at + 1) 0 ∷ get_or bs (at + 2) 0 ∷ get_or bs (at + 3) 0 ∷ get_or bs (at + 4) 0 ∷ get_or bs (at + 5) 0 ∷ get_or bs (at + 6) 0 ∷ get_or bs (at + 7) 0 ∷ []
  eight at h =
      let e7 = next (at + 7) (at + 8) (omega arith) (omega arith) in
      let e6 = next (at + 6) (at + 7) (omega arith) (omega arith) ∙ ap (λ l. get_or bs (at + 6) 0 ∷ l) e7 in
      let e5 = next (at + 5) (at + 6) (omega arith) (omega arith) ∙ ap (λ l. get_or bs (at + 5) 0 ∷ l) e6 in
      let e4 = next (at + 4) (at + 5) (omega arith) (omega arith) ∙ ap (λ l. get_or bs (at + 4) 0 ∷ l) e5 in
      let e3 = next (at + 3) (at + 4) (omega arith) (omega arith) ∙ ap (λ l. get_or bs (at + 3) 0 ∷ l) e4 in
      let e2 = next (at + 2) (at + 3) (omega arith) (omega arith) ∙ ap (λ l. get_or bs (at + 2) 0 ∷ l) e3 in
      let e1 = next (at + 1) (at + 2) (omega arith) (omega arith) ∙ ap (λ l. get_or bs (at + 1) 0 ∷ l) e2 in
      ap (take 8) (next at (at + 1) (omega arith) (omega arith) ∙ ap (λ l. get_or bs at 0 ∷ l) e1)

module _ (bs : List ℕ) (small : Octets bs) where
  low4_at : (at : ℕ) → low4 (four bs at) ≡ get_or bs at 0 ∷ get_or bs (at + 1) 0 ∷ get_or bs (at + 2) 0 ∷ get_or bs (at + 3) 0 ∷ []
  low4_at at = low4_is _ _ _ _ (small at) (small (at + 1)) (small (at + 2)) (small (at + 3))

  low2_at : (at : ℕ) → low2 (two bs at) ≡ get_or bs at 0 ∷ get_or bs (at + 1) 0 ∷ []
  low2_at at = low2_is _ _ (small at) (small (at + 1))

  -- the bytes of the row that begins at a byte
  row_back : (at : ℕ) → at + 8 ≤ length bs → row_bytes (layout.row_from bs at) ≡ take 8 (drop at bs)
  row_back at h =
      let five : at + 4 + 1 ≡ at + 5 = omega arith in
      let six : at + 4 + 2 ≡ at + 6 = omega arith in
      let seven : at + 4 + 3 ≡ at + 7 = omega arith in
      let low : low4 (four bs (at + 4)) ≡ get_or bs (at + 4) 0 ∷ get_or bs (at + 5) 0 ∷ get_or bs (at + 6) 0 ∷ get_or bs (at + 7) 0 ∷ []
      = low4_at (at + 4) ∙ (λ i. get_or bs (at + 4) 0 ∷ get_or bs (five i) 0 ∷ get_or bs (six i) 0 ∷ get_or bs (seven i) 0 ∷ []) in
      ap (λ l. get_or bs at 0 ∷ get_or bs (at + 1) 0 ∷ get_or bs (at + 2) 0 ∷ get_or bs (at + 3) 0 ∷ l) low ∙ sym (eight bs at h)

  -- the bytes of an entry, where o is its offset
  entry_back : (r o : ℕ) → o ≡ layout.offset bs r → 4 + 8 * r + 8 ≤ length bs
      → low4 o ++ (low2 (layout.count bs r) ++ (layout.arguments bs r ∷ layout.results bs r ∷ [])) ≡ take 8 (drop (4 + 8 * r) bs)
  entry_back r o p h =
      let at = 4 + 8 * r in
      let c4 : 8 + 8 * r ≡ at + 4 = omega arith in
      let c5 : 8 + 8 * r + 1 ≡ at + 5 = omega arith in
      let a6 : 10 + 8 * r ≡ at + 6 = omega arith in
      let a7 : 11 + 8 * r ≡ at + 7 = omega arith in
      let low = ap low4 p ∙ low4_at at in
      let cnt : low2 (layout.count bs r) ≡ get_or bs (at + 4) 0 ∷ get_or bs (at + 5) 0 ∷ [] = low2_at (8 + 8 * r) ∙ (λ i. get_or bs (c4 i) 0 ∷ get_or bs (c5 i) 0 ∷ []) in
      (λ i. low i ++ (cnt i ++ (get_or bs (a6 i) 0 ∷ get_or bs (a7 i) 0 ∷ []))) ∙ sym (eight bs at h)

  module _ (ok : Laid bs) where
    abbrev n : ℕ
    n = layout.routines bs

    abbrev t : ℕ
    t = layout.total bs

    pub entries_long : length (entries bs) ≡ n
    entries_long = length-map-range_with_len (entry_of bs) 0 n

    pub rows_long : length (rows bs) ≡ t
    rows_long = length-map-range_with_len (body_row bs) 0 t

    pub image_long : length (image bs) ≡ layout.image_length bs
    image_long = omega (arith, length-drop (4 + 8 * n + 8 * t) bs, ok.long)

    pub entry_is : (r : ℕ) → r < n → nth_entry (entries bs) r ≡ entry_of bs r
    entry_is r h = get_or-map-range_with_len (entry_of bs) 0 n r r no_entry h (omega arith)

    pub row_is : (k : ℕ) → k < t → nth_row (rows bs) k ≡ body_row bs k
    row_is k h = get_or-map-range_with_len (body_row bs) 0 t k k no_row h (omega arith)

    pub before_is : (r : ℕ) → r ≤ n → before (entries bs) r ≡ layout.before bs r
    before_is zero h = refl
    before_is (suc r) h = λ i. before_is r (omega arith) i + (entry_is r (omega arith) i).count

    header : low2 (length (entries bs)) ++ low2 (length (image bs)) ≡ take 4 bs
    header =
        let long : 12 ≤ length bs = omega (arith, ok.long, ok.some) in
        let e3 = next bs 3 4 refl (omega arith) in
        let e2 = next bs 2 3 refl (omega arith) ∙ ap (λ l. get_or bs 2 0 ∷ l) e3 in
        let e1 = next bs 1 2 refl (omega arith) ∙ ap (λ l. get_or bs 1 0 ∷ l) e2 in
        let e0 = next bs 0 1 refl (omega arith) ∙ ap (λ l. get_or bs 0 0 ∷ l) e1 in
        (λ i. low2 (entries_long i) ++ low2 (image_long i)) ∙ (λ i. low2_at 0 i ++ low2_at 2 i) ∙ sym (ap (take 4) e0)

    contents : blocks (entry_bytes (entries bs)) (length (entries bs)) ≡ take (8 * n) (drop 4 bs)
    contents =
        let each : (k : ℕ) → k < n → entry_bytes (entries bs) k ≡ take 8 (drop (8 * k) (drop 4 bs))
        = λ k h. let e = entry_is k h in
        (λ i. low4 (4 + 8 * entries_long i + 8 * before_is k (omega arith) i) ++ (low2 (e i).count ++ ((e i).arguments ∷ (e i).results ∷ [])))
        ∙ entry_back k _ (sym (ok.entry k h).placed) (omega (arith, ok.long, h))
        ∙ sym (ap (take 8) (drop-drop (8 * k) 4 bs)) in
        ap (blocks (entry_bytes (entries bs))) entries_long ∙ blocks_part (entry_bytes (entries bs)) (drop 4 bs) n each

    bodies : blocks (λ k. row_bytes (nth_row (rows bs) k)) (length (rows bs)) ≡ take (8 * t) (drop (4 + 8 * n) bs)
    bodies =
        let each : (k : ℕ) → k < t → row_bytes (nth_row (rows bs) k) ≡ take 8 (drop (8 * k) (drop (4 + 8 * n) bs))
        = λ k h. ap row_bytes (row_is k h) ∙ row_back (4 + 8 * n + 8 * k) (omega (arith, ok.long, h)) ∙ sym (ap (take 8) (drop-drop (8 * k) (4 + 8 * n) bs)) in
        ap (blocks (λ k. row_bytes (nth_row (rows bs) k))) rows_long ∙ blocks_part (λ k. row_bytes (nth_row (rows bs) k)) (drop (4 + 8 * n) bs) t each

    pub repacked : packed (entries bs) (rows bs) (image bs) ≡ bs
    repacked =
        let code : take (8 * t) (drop (4 + 8 * n) bs) ++ image bs ≡ drop (4 + 8 * n) bs
        = ap (λ l. take (8 * t) (drop (4 + 8 * n) bs) ++ l) (sym (drop-drop (8 * t) (4 + 8 * n) bs)) ∙ take-append-drop (8 * t) (drop (4 + 8 * n) bs) in
        let rest : take (8 * n) (drop 4 bs) ++ drop (4 + 8 * n) bs ≡ drop 4 bs
        = ap (λ l. take (8 * n) (drop 4 bs) ++ l) (sym (drop-drop (8 * n) 4 bs)) ∙ take-append-drop (8 * n) (drop 4 bs) in
        (λ i. header i ++ (contents i ++ (bodies i ++ image bs)))
        ∙ ap (λ l. take 4 bs ++ (take (8 * n) (drop 4 bs) ++ l)) code
        ∙ ap (λ l. take 4 bs ++ l) rest
        ∙ take-append-drop 4 bs
