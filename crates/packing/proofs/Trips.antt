-- The two round trips.
use Rattle.std.proofs.Common.{◌≡◌, ℕ, ◌&&◌, leb, List, length, is_ok, Ok, sym, ap, ◌∙◌, subst}
use Rattle.std.proofs.lemmas.List.FromFn.{length-map-range_with_len}
use Rattle.refusal.specs.Values.{caller}
use Rattle.isa.specs.declared.row.Row.{Row}
use Rattle.module.specs.declared.checked.Checked.{Checked}
use Rattle.module.specs.declared.entry.Entry.{Entry}
use Rattle.module.specs.Contents.{body_row, entries, rows, image}
use Rattle.module.specs.Layout.{routines, entry_of, total, provided}
use Rattle.module.specs.Told.{bytes_of}
use Rattle.module.proofs.Accepts.{accepts_checked, accepts_kept}
use Rattle.module.proofs.Opens.{opened_laid}
use Rattle.packing.specs.Shows.{Shows}
use Rattle.packing.specs.Trips.{PacksTo, UnpacksTo}
use Rattle.packing.specs.Unpack.{unpacking}
use Rattle.packing.specs.Written.{written_if}
use Rattle.packing.proofs.Again.{packing_is}
use Rattle.packing.proofs.Rebuilt.{repacked}

-- the entries, rows and image of a checked module pack to its bytes
module _ (m : Checked) where
  abbrev bs : List ℕ
  bs = bytes_of m.opened

  own : PacksTo bs (entries bs) (rows bs) (image bs)
  own =
      let laid = opened_laid m.opened in
      record {
        verdict = packing_is bs m.opened.octets laid (accepts_kept bs (accepts_checked m));
        bytes = repacked bs m.opened.octets laid;
      }

  pub packs : (es : List Entry) (rs : List Row) → es ≡ entries bs → rs ≡ rows bs → PacksTo bs es rs (image bs)
  packs es rs e r =
      subst (λ l. PacksTo bs l rs (image bs)) (sym e) (subst (λ l. PacksTo bs (entries bs) l (image bs)) (sym r) own)

pub unpacks : (bs : List ℕ) (es : List Entry) (rs : List Row) (im : List ℕ) → Shows bs es rs im → UnpacksTo bs es rs im
unpacks bs es rs im shows =
    let n : routines bs ≡ length es = sym (length-map-range_with_len (entry_of bs) 0 (routines bs)) ∙ ap length shows.contents in
    let t : total bs ≡ length rs = sym (length-map-range_with_len (body_row bs) 0 (total bs)) ∙ ap length shows.bodies in
    record {
      verdict = λ most_n most_t i. provided (leb (n i) most_n && leb (t i) most_t) (caller 13) (Ok (n i, t i));
      contents = λ lent other. ap (λ l. written_if (is_ok (unpacking bs (length lent) (length other))) l lent) shows.contents;
      bodies = λ other lent. ap (λ l. written_if (is_ok (unpacking bs (length other) (length lent))) l lent) shows.bodies;
      last = shows.last;
    }
