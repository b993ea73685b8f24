use Rattle.std.proofs.Common.{◌≡◌, ◌+◌, ◌*◌, [], ◌∷◌, ◌++◌, length, drop, sym, refl, ap, ◌∙◌, append_assoc, add-one, arith, length-append}
use Rattle.packing.specs.Pack.{size}
use Rattle.packing.specs.Packed.{low2, low4, nth_entry, nth_row, before, entry_bytes, row_bytes, blocks, packed}
use Rattle.packing.proofs.Blocks.{put_more, block_more, blocks_long}
use Rattle.packing.proofs.Shown.{shows, packed_long}
use Rattle.packing.proofs.test.Tested.write.Goals as goal

pub loop-entry-preserved : goal.loop-entry-preserved
loop-entry-preserved c =
    let p = c.args.self.now.counted.parts in
    let es = p.entries.now in
    let i = c.loop-entry.entry-index in
    let so_far = c.loop-entry.invariant in
    let rest = low2 (nth_entry es i).count ++ ((nth_entry es i).arguments ∷ (nth_entry es i).results ∷ []) in
    let put = c.put-at-in-loop-entry.ensures in
    let bytes = c.entry_bytes.ensures ∙ ap (λ o. low4 o ++ rest) so_far.offset in
    record {
      at = omega (arith, put.end, ap length bytes, so_far.at);
      offset = omega (arith, so_far.offset, ap (before es) (add-one i));
      output = block_more (entry_bytes es) (λ k. refl) c.args.output.now (low2 (length es) ++ low2 (length p.image.now)) c.entry_bytes.result c.loop-entry.output _ c.loop-entry.at _ i so_far.output so_far.at bytes put.end put.output;
    }

pub loop-row-preserved : goal.loop-row-preserved
loop-row-preserved c =
    let p = c.args.self.now.counted.parts in
    let es = p.entries.now in
    let rs = p.rows.now in
    let so_far = c.loop-row.invariant in
    let put = c.put-at-in-loop-row.ensures in
    let front = (low2 (length es) ++ low2 (length p.image.now)) ++ blocks (entry_bytes es) (length es) in
    let long : c.loop-row.at ≡ length front + 8 * c.loop-row.row-index = omega (arith, so_far.at, blocks_long (entry_bytes es) (λ k. refl) (length es)) in
    record {
      at = omega (arith, put.end, ap length c.row_bytes.ensures, so_far.at);
      output = block_more (λ k. row_bytes (nth_row rs k)) (λ k. refl) c.args.output.now front c.row_bytes.result c.loop-row.output _ c.loop-row.at _ c.loop-row.row-index so_far.output long c.row_bytes.ensures put.end put.output;
    }

pub returns-clause-output : goal.returns-clause-output
returns-clause-output c =
    let p = c.args.self.now.counted.parts in
    let es = p.entries.now in
    let rs = p.rows.now in
    let im = p.image.now in
    let so_far = c.loop-row.invariant in
    let n : c.loop-row.row-index ≡ length rs = omega arith in
    let contents = (low2 (length es) ++ low2 (length im)) ++ blocks (entry_bytes es) (length es) in
    let bodies = blocks (λ k. row_bytes (nth_row rs k)) c.loop-row.row-index in
    let long : length (contents ++ bodies) ≡ c.loop-row.at
    = omega (arith, so_far.at, length-append contents bodies, blocks_long (entry_bytes es) (λ k. refl) (length es), blocks_long (λ k. row_bytes (nth_row rs k)) (λ k. refl) c.loop-row.row-index) in
    let whole : size es im ≡ c.loop-row.at + length im = omega (arith, so_far.at, n, c.args.self.now.counted.entries.all) in
    let all : (contents ++ bodies) ++ im ≡ packed es rs im = ap (λ k. (contents ++ blocks (λ j. row_bytes (nth_row rs j)) k) ++ im) n ∙ simp append_assoc in
    let whole_long : size es im ≡ length (packed es rs im) = sym (packed_long es rs im c.args.self.now.counted.entries c.args.self.now.rows.words) in
    put_more c.args.output.now (contents ++ bodies) im c.loop-row.output _ c.loop-row.at (size es im) so_far.output long whole c.put.ensures.output
    ∙ (λ i. all i ++ drop (whole_long i) c.args.output.now)

pub returns-clause-shows : goal.returns-clause-shows
returns-clause-shows c =
    let t = c.args.self.now.counted in
    let rows = c.args.self.now.rows in
    shows t.parts.entries.now t.parts.rows.now t.parts.image.now t.entries rows.words rows.formed
