-- Reads and writes of the ports that are the first n of some rows.
use Rattle.std.proofs.Common.{◌≡◌, ℕ, ◌<◌, ltb, List, length, get_or, take, set, sym, ap, ◌∙◌, arith, length-take, get_or-take}
use lib.Seq.{take-set-lt}
use Rattle.std.proofs.lemmas.Bool.{cond-true, lt-ltb}
use Rattle.host.specs.declared.port.Port.{Port}
use Rattle.host.specs.Ports.{blank, ordering, ordered, writing, written}

module _ (n : ℕ) (rows : List Port) (p : ℕ) (h : p < length (take n rows)) where
  pub inside : p < n
  inside = let h' = simp length-take at h in omega arith

  pub in_rows : p < length rows
  in_rows = let h' = simp length-take at h in omega arith

  same : get_or (take n rows) p blank ≡ get_or rows p blank
  same = get_or-take n rows p blank inside

  module _ (v : ℕ) where
    pub front_write : writing (take n rows) p v ≡ ordering (get_or rows p blank) v
    front_write = cond-true (ltb p (length (take n rows))) _ _ (lt-ltb p (length (take n rows)) h) ∙ ap (λ port. ordering port v) same

    pub front_written : take n (set rows p (ordered (get_or rows p blank) v)) ≡ written (take n rows) p v
    front_written = take-set-lt n rows p _ inside ∙ ap (λ port. set (take n rows) p (ordered port v)) (sym same)
