-- What a packed module shows: its entries, rows and image.
use Rattle.std.proofs.Common.{◌≡◌, ℕ, zero, suc, ◌+◌, ◌-◌, ◌*◌, ◌^◌, ◌<◌, ◌≤◌, true, ◌&&◌, eqb, leb, List, ◌++◌, map, length, get_or, drop, Ok, sym, refl, ap, ◌∙◌, append_assoc, arith, length-append}
use Rattle.std.proofs.lemmas.List.FromFn.{fill_by_all}
use Rattle.std.proofs.lemmas.List.{get_or_append_left, get_or-append_right, get_or-append-add, drop_at}
use Rattle.std.proofs.lemmas.Bool.{and_from, eq-eqb, le-leb}
use Rattle.std.proofs.lemmas.Bool.Decides.{nat_tests}
use Rattle.std.specs.List.{range_with_len}
use Rattle.refusal.specs.Values.{author}
use Rattle.isa.specs.declared.row.Row.{Row}
use Rattle.isa.specs.Form.{row, well_formed}
use Rattle.module.specs.declared.entry.Entry.{Entry}
use Rattle.module.specs.Bytes.{byte, four}
use Rattle.module.specs.First.{first_failing}
use Rattle.module.specs.Layout as layout
use Rattle.module.specs.Layout.{entry_of}
use Rattle.module.specs.Contents.{body_row, entries, rows, image}
use Rattle.module.proofs.Firsts.{all_pass}
use Rattle.packing.specs.Pack.{size}
use Rattle.packing.specs.Packed.{low2, no_entry, no_row, nth_entry, nth_row, before, total, entry_bytes, row_bytes, blocks, packed}
use Rattle.packing.specs.Shows.{Shows}
use Rattle.packing.specs.Tested.{EntriesRight}
use Rattle.packing.proofs.Blocks.{blocks_long, block_at}
use Rattle.packing.proofs.Digits.{two_back, four_back}
use Rattle.packing.proofs.Sums.{inside}

module _ (es : List Entry) (rs : List Row) (im : List ℕ) (ok : EntriesRight es rs im) (words : (k : ℕ) → k < length rs → (nth_row rs k).n < 2 ^ 32) where
  abbrev p : List ℕ
  p = packed es rs im

  abbrev n : ℕ
  n = length es

  abbrev hd : List ℕ
  hd = low2 (length es) ++ low2 (length im)

  abbrev contents : List ℕ
  contents = blocks (entry_bytes es) n

  abbrev bodies : List ℕ
  bodies = blocks (λ k. row_bytes (nth_row rs k)) (length rs)

  contents_long : length contents ≡ 8 * n
  contents_long = blocks_long (entry_bytes es) (λ k. refl) n

  bodies_long : length bodies ≡ 8 * length rs
  bodies_long = blocks_long (λ k. row_bytes (nth_row rs k)) (λ k. refl) (length rs)

  -- a byte of an entry, and of a row
  entry-byte : (at r j : ℕ) → at ≡ 4 + (8 * r + j) → r < n → j < 8 → byte p at ≡ get_or (entry_bytes es r) j 0
  entry-byte at r j e h g =
      ap (byte p) e ∙ get_or-append-add hd (contents ++ (bodies ++ im)) (8 * r + j) 0
      ∙ get_or_append_left contents (bodies ++ im) 0 (8 * r + j) (omega (arith, contents_long))
      ∙ block_at (entry_bytes es) (λ k. refl) n r j h g

  row-byte : (at k j : ℕ) → at ≡ 4 + (8 * n + (8 * k + j)) → k < length rs → j < 8 → byte p at ≡ get_or (row_bytes (nth_row rs k)) j 0
  row-byte at k j e h g =
      let i : 8 * n + (8 * k + j) - 8 * n ≡ 8 * k + j = omega arith in
      ap (byte p) e ∙ get_or-append-add hd (contents ++ (bodies ++ im)) (8 * n + (8 * k + j)) 0
      ∙ get_or-append_right contents (bodies ++ im) (8 * n) (8 * n + (8 * k + j)) 0 contents_long (omega arith)
      ∙ ap (λ m. get_or (bodies ++ im) m 0) i
      ∙ get_or_append_left bodies im 0 (8 * k + j) (omega (arith, bodies_long))
      ∙ block_at (λ m. row_bytes (nth_row rs m)) (λ m. refl) (length rs) k j h g

  routines_is : layout.routines p ≡ n
  routines_is = two_back n (omega (arith, ok.few))

  image_length_is : layout.image_length p ≡ length im
  image_length_is = two_back (length im) (omega (arith, ok.small))

  module _ (r : ℕ) (h : r < n) where
    short_count : before es r + (nth_entry es r).count ≤ 4096
    short_count = omega (arith, inside es r h, ok.short)

    count_is : layout.count p r ≡ (nth_entry es r).count
    count_is =
        (λ i. entry-byte (8 + 8 * r) r 4 (omega arith) h (omega arith) i + 256 * entry-byte (8 + 8 * r + 1) r 5 (omega arith) h (omega arith) i)
        ∙ two_back (nth_entry es r).count (omega (arith, short_count))

    arguments_is : layout.arguments p r ≡ (nth_entry es r).arguments
    arguments_is = entry-byte (10 + 8 * r) r 6 (omega arith) h (omega arith)

    results_is : layout.results p r ≡ (nth_entry es r).results
    results_is = entry-byte (11 + 8 * r) r 7 (omega arith) h (omega arith)

    offset_is : layout.offset p r ≡ 4 + 8 * n + 8 * before es r
    offset_is =
        (λ i. entry-byte (4 + 8 * r) r 0 (omega arith) h (omega arith) i
        + 256 * entry-byte (4 + 8 * r + 1) r 1 (omega arith) h (omega arith) i
        + 65536 * entry-byte (4 + 8 * r + 2) r 2 (omega arith) h (omega arith) i
        + 16777216 * entry-byte (4 + 8 * r + 3) r 3 (omega arith) h (omega arith) i)
        ∙ four_back (4 + 8 * n + 8 * before es r) (omega (arith, short_count, ok.few))

    entry_is : entry_of p r ≡ nth_entry es r
    entry_is = λ i. record { count = count_is i; arguments = arguments_is i; results = results_is i }

  before_is : (r : ℕ) → r ≤ n → layout.before p r ≡ before es r
  before_is zero h = refl
  before_is (suc r) h = λ i. before_is r (omega arith) i + count_is r (omega arith) i

  total_is : layout.total p ≡ total es
  total_is = ap (layout.before p) routines_is ∙ before_is n (omega arith)

  row_is : (k : ℕ) → k < length rs → body_row p k ≡ nth_row rs k
  row_is k h =
      let at = 4 + 8 * n + 8 * k in
      let get : (a j : ℕ) → a ≡ 4 + (8 * n + (8 * k + j)) → j < 8 → byte p a ≡ get_or (row_bytes (nth_row rs k)) j 0 = λ a j e g. row-byte a k j e h g in
      let word : four p (at + 4) ≡ (nth_row rs k).n
      = (λ i. get (at + 4) 4 (omega arith) (omega arith) i
      + 256 * get (at + 4 + 1) 5 (omega arith) (omega arith) i
      + 65536 * get (at + 4 + 2) 6 (omega arith) (omega arith) i
      + 16777216 * get (at + 4 + 3) 7 (omega arith) (omega arith) i)
      ∙ four_back (nth_row rs k).n (words k h) in
      ap (λ m. layout.row_from p (4 + 8 * m + 8 * k)) routines_is
      ∙ (λ i. row (get at 0 (omega arith) (omega arith) i) (get (at + 1) 1 (omega arith) (omega arith) i) (get (at + 2) 2 (omega arith) (omega arith) i) (get (at + 3) 3 (omega arith) (omega arith) i) (word i))

  pub entries_shown : entries p ≡ es
  entries_shown =
      ap (λ m. map (entry_of p) (range_with_len 0 m)) routines_is ∙ sym (fill_by_all (entry_of p) es n no_entry refl (λ k h. sym (entry_is k h)))

  pub rows_shown : rows p ≡ rs
  rows_shown =
      ap (λ m. map (body_row p) (range_with_len 0 m)) (total_is ∙ sym ok.all) ∙ sym (fill_by_all (body_row p) rs (length rs) no_row refl (λ k h. sym (row_is k h)))

  -- the length that the contents give
  given_is : layout.length_given p ≡ size es im
  given_is = λ i. 4 + 8 * routines_is i + 8 * total_is i + image_length_is i

  pub packed_long : length p ≡ size es im
  packed_long =
      omega (arith, length-append contents (bodies ++ im), length-append bodies im, contents_long, bodies_long, ok.all)

  pub image_shown : image p ≡ im
  image_shown =
      let front = hd ++ (contents ++ bodies) in
      let whole : p ≡ front ++ im = ap (λ l. hd ++ l) (sym (append_assoc contents bodies im)) ∙ sym (append_assoc hd (contents ++ bodies) im) in
      let long : length front ≡ 4 + 8 * n + 8 * total es = omega (arith, length-append contents bodies, contents_long, bodies_long, ok.all) in
      (λ i. drop (4 + 8 * routines_is i + 8 * total_is i) (whole i)) ∙ drop_at front im (4 + 8 * n + 8 * total es) long

  entry_right_lem : (r : ℕ) → r < n → layout.entry_right p r ≡ true
  entry_right_lem r h =
      let b = before_is r (omega arith) in
      (λ i. eqb (offset_is r h i) (4 + 8 * routines_is i + 8 * b i) && layout.right (entry_is r h i) r (b i))
      ∙ and_from _ _ (eq-eqb (4 + 8 * n + 8 * before es r) _ refl) (ok.right r h)

  counts_right_lem : layout.counts_right p ≡ true
  counts_right_lem = (λ i. layout.admitted (routines_is i) (image_length_is i)) ∙ grind (arith, nat_tests)

  pub opens : layout.opening p ≡ Ok (layout.counts p)
  opens =
      let long = packed_long in
      let none = ap (λ m. first_failing (layout.entry_right p) m 0) routines_is ∙ all_pass (layout.entry_right p) n 0 (λ j g h. entry_right_lem j (omega arith)) in
      let enough : leb 4 (length p) ≡ true = le-leb 4 (length p) (omega (arith, long)) in
      let room : leb (4 + 8 * layout.routines p) (length p) ≡ true = le-leb (4 + 8 * layout.routines p) (length p) (omega (arith, long, routines_is)) in
      let exact : eqb (length p) (layout.length_given p) ≡ true = eq-eqb (length p) (layout.length_given p) (long ∙ sym given_is) in
      λ i. layout.provided (enough i) (author 1 0 0)
      (layout.provided (counts_right_lem i) (author 2 0 0)
      (layout.provided (room i) (author 1 0 0)
      (layout.unless_wrong (none i)
      (layout.provided (exact i) (author 4 0 0)
      (Ok (layout.counts p))))))

  pub shows : ((k : ℕ) → k < length rs → well_formed (nth_row rs k) ≡ true) → Shows p es rs im
  shows formed = record { long = packed_long; opens = opens; contents = entries_shown; bodies = rows_shown; last = image_shown; formed = formed }
