-- What there is at a place, from how the place compares with the counts.
use Rattle.std.proofs.Common.{◌≡◌, ℕ, ◌<◌, ◌≤◌, ◌&&◌, ltb, List, Some, None}
use Rattle.std.proofs.lemmas.Bool.{and_from, and_left, and_right, cond-true, cond-false, lt-ltb, le-ltb}
use Rattle.module.specs.Layout.{routines, count, signature, instr}
use Rattle.module.specs.Places.{inside, instr_at, signature_at}

module _ (bs : List ℕ) (r : ℕ) where
  pub no_signature : routines bs ≤ r → signature_at bs r ≡ None
  unfolding signature_at
  no_signature h = cond-false (ltb r (routines bs)) _ _ (le-ltb r (routines bs) h)

  pub a_signature : r < routines bs → signature_at bs r ≡ Some (signature bs r)
  unfolding signature_at
  a_signature h = cond-true (ltb r (routines bs)) _ _ (lt-ltb r (routines bs) h)

  module _ (i : ℕ) where
    pub no_routine : routines bs ≤ r → instr_at bs r i ≡ None
    unfolding instr_at inside
    no_routine h = cond-false (ltb r (routines bs) && ltb i (count bs r)) _ _ (and_left _ _ (le-ltb r (routines bs) h))

    pub no_instruction : count bs r ≤ i → instr_at bs r i ≡ None
    unfolding instr_at inside
    no_instruction h = cond-false (ltb r (routines bs) && ltb i (count bs r)) _ _ (and_right _ _ (le-ltb i (count bs r) h))

    pub an_instruction : r < routines bs → i < count bs r → instr_at bs r i ≡ instr bs r i
    unfolding instr_at inside
    an_instruction h k =
        cond-true (ltb r (routines bs) && ltb i (count bs r)) _ _ (and_from _ _ (lt-ltb r (routines bs) h) (lt-ltb i (count bs r) k))
