-- What stays over ticks and refused writes, by what every host proves.
use Rattle.std.proofs.Common.{◌≡◌, ℕ, zero, suc, ◌<◌, ltb, List, [], ◌∷◌, length, get_or, set, Ok, Err, sym, ap, ◌∙◌, inl, inr, arith}
use Rattle.std.proofs.lemmas.List.{set-get_or, set_past}
use Rattle.std.proofs.lemmas.Bool.{cond-true, cond-false, lt-ltb, le-ltb, cases_lt}
use Rattle.std.specs.List.{AllZip}
use Rattle.refusal.specs.Values.{Values}
use Rattle.host.specs.declared.port.Port.{Port}
use Rattle.host.specs.Ports.{blank, value_at, reading, with_value, ordering, writing, written, if_ok}
use Rattle.host.specs.Lawful.{Sensed, LawfulHost, unchanged_ports}
use Rattle.host.specs.Response.{ticked}
use Rattle.host.proofs.SamePorts.{same_sensed, tick_senses}

sensed_trans : (p q r : Port) → Sensed p q → Sensed q r → Sensed p r
sensed_trans p q r s t = record {
  others = t.others ∙ ap (λ port. with_value port r.value) s.others;
  orders = λ order. t.orders (ap (λ port. port.flag) s.others ∙ order) ∙ s.orders order;
}

senses_trans : (ps qs rs : List Port) → AllZip Sensed ps qs → AllZip Sensed qs rs → AllZip Sensed ps rs
senses_trans [] [] [] s t = tt
senses_trans (p ∷ ps) (q ∷ qs) (r ∷ rs) s t = (sensed_trans p q r s.0 t.0, senses_trans ps qs rs s.1 t.1)
senses_trans [] (q ∷ qs) rs s t = absurd s
senses_trans (p ∷ ps) [] rs s t = absurd s
senses_trans [] [] (r ∷ rs) s t = absurd t
senses_trans (p ∷ ps) (q ∷ qs) [] s t = absurd t

-- any number of ticks of a host changes only values of sense ports, as one does
pub ticked_senses : {Self Base : Type 0} (base : Self → Base) (ports : Self → List Port) (rule : Base → List Port → List Port) → LawfulHost base ports rule → (n : ℕ) (host : Self)
    → AllZip Sensed (ports host) (ticked n (rule (base host)) (ports host))
ticked_senses base ports rule law zero host = unchanged_ports (ports host)
ticked_senses base ports rule law (suc n) host =
    let before = ticked n (rule (base host)) (ports host) in
    let senses = ticked_senses base ports rule law n host in
    senses_trans (ports host) before _ senses (tick_senses base ports rule law host before (same_sensed (ports host) before senses))

-- a refused write changes nothing
pub refused_written : (ports : List Port) (p v : ℕ) (e : Values) → writing ports p v ≡ Err e → written ports p v ≡ ports
refused_written ports p v e refused = elim (cases_lt p (length ports)) [
  | inl h ↦
      let asked : ordering (get_or ports p blank) v ≡ Err e = sym (cond-true (ltb p (length ports)) _ _ (lt-ltb p (length ports) h)) ∙ refused in
      ap (λ r. set ports p (if_ok r (with_value (get_or ports p blank) v) (get_or ports p blank))) asked ∙ set-get_or ports p blank
  | inr h ↦ set_past ports p _ h
]

-- a port that was read is there
pub read_there : (ports : List Port) (p x : ℕ) → reading ports p ≡ Ok x → p < length ports
read_there ports p x e = elim (cases_lt p (length ports)) [
  | inl h ↦ h
  | inr h ↦ let past = sym e ∙ cond-false (ltb p (length ports)) (Ok (value_at ports p)) _ (le-ltb p (length ports) h) in absurd (cc)
]

-- a port that was read is read again, where there are as many ports
pub read_again : (before after : List Port) (p x : ℕ) → length after ≡ length before → Ok x ≡ reading before p → reading after p ≡ Ok (value_at after p)
read_again before after p x same found =
    let there = read_there before p x (sym found) in
    cond-true (ltb p (length after)) _ _ (lt-ltb p (length after) (omega (arith, same, there)))
