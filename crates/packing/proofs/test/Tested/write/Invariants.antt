use Rattle.std.proofs.Common.{◌≡◌, ◌+◌, ◌*◌, ◌++◌, length, drop}
use Rattle.packing.specs.Packed.{low2, before, nth_row, entry_bytes, row_bytes, blocks}
use Rattle.packing.proofs.test.Tested.write.Given as goal

-- header and entries so far
abbrev pub invariant-loop-entry : goal.invariant-loop-entry
invariant-loop-entry l =
    let header = low2 (length l.entries) ++ low2 (length l.image) in
    record {
      at : l.at ≡ 4 + 8 * l.entry-index;
      offset : l.offset ≡ 4 + 8 * length l.entries + 8 * before l.entries l.entry-index;
      output : l.output ≡ (header ++ blocks (entry_bytes l.entries) l.entry-index) ++ drop l.at l.fn.output;
    }

-- header, entries and rows so far
abbrev pub invariant-loop-row : goal.invariant-loop-row
invariant-loop-row l =
    let es = l.self.counted.parts.entries.now in
    let header = low2 (length es) ++ low2 (length l.image) in
    record {
      at : l.at ≡ 4 + 8 * length es + 8 * l.row-index;
      output : l.output ≡ ((header ++ blocks (entry_bytes es) (length es)) ++ blocks (λ k. row_bytes (nth_row l.rows k)) l.row-index) ++ drop l.at l.fn.output;
    }
