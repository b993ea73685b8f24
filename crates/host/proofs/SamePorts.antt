-- Ports that are those of a host but perhaps for their values. They stay so over ticks, writes and rests.
use Rattle.std.proofs.Common.{◌≡◌, ℕ, zero, suc, List, [], ◌∷◌, Ok, Err, Result, refl, sym, ap, ◌∙◌, subst}
use Rattle.std.specs.List.{AllZip}
use Rattle.refusal.specs.Values.{Values}
use Rattle.host.specs.declared.port.Port.{Port}
use Rattle.host.specs.Ports.{value_at, with_value, if_ok, ordering, written, at_rest, rested}
use Rattle.host.specs.Lawful.{Sensed, LawfulHost, revalued}

-- qs are the ports ps, but perhaps for the values
abbrev pub SamePorts : List Port → List Port → Type 0
SamePorts ps qs = qs ≡ revalued (value_at qs) ps

pub same_self : (ps : List Port) → SamePorts ps ps
same_self [] = refl
same_self (p ∷ ps) = ap (λ qs. p ∷ qs) (same_self ps)

-- of values given twice the later ones stand
last_values : (v w : ℕ → ℕ) (ps : List Port) → revalued v (revalued w ps) ≡ revalued v ps
last_values v w [] = refl
last_values v w (p ∷ ps) = ap (λ qs. with_value p (v 0) ∷ qs) (last_values (λ k. v (suc k)) (λ k. w (suc k)) ps)

pub same_trans : (ps qs rs : List Port) → SamePorts ps qs → SamePorts qs rs → SamePorts ps rs
same_trans ps qs rs s t = t ∙ ap (revalued (value_at rs)) s ∙ last_values (value_at rs) (value_at qs) ps

pub same_sensed : (ps qs : List Port) → AllZip Sensed ps qs → SamePorts ps qs
same_sensed [] [] s = refl
same_sensed (p ∷ ps) (q ∷ qs) s = λ i. s.0.others i ∷ same_sensed ps qs s.1 i
same_sensed [] (q ∷ qs) s = absurd s
same_sensed (p ∷ ps) [] s = absurd s

-- a port that may have taken an order
same_ordered : (answer : Result (Unit {0}) Values) (p : Port) (v : ℕ)
    → if_ok answer (with_value p v) p ≡ with_value p (if_ok answer (with_value p v) p).value
same_ordered (Ok u) p v = refl
same_ordered (Err e) p v = refl

pub same_written : (ps : List Port) (p v : ℕ) → SamePorts ps (written ps p v)
same_written [] p v = refl
same_written (first ∷ ps) zero v = λ i. same_ordered (ordering first v) first v i ∷ same_self ps i
same_written (first ∷ ps) (suc p) v = ap (λ qs. first ∷ qs) (same_written ps p v)

pub same_rested : (ps : List Port) → SamePorts ps (rested ps)
same_rested [] = refl
same_rested (p ∷ ps) = ap (λ qs. at_rest p ∷ qs) (same_rested ps)

-- what the law says of a host says it of all ports that are the same
module _ {Self Base : Type 0} (base : Self → Base) (ports : Self → List Port) (rule : Base → List Port → List Port) (law : LawfulHost base ports rule) (host : Self) where
  pub tick_senses : (qs : List Port) → SamePorts (ports host) qs → AllZip Sensed qs (rule (base host) qs)
  tick_senses qs same = subst (λ ps. AllZip Sensed ps (rule (base host) ps)) (sym same) (law.senses host (value_at qs))

  pub same_ticked : (qs : List Port) → SamePorts (ports host) qs → SamePorts (ports host) (rule (base host) qs)
  same_ticked qs same = same_trans (ports host) qs _ same (same_sensed qs _ (tick_senses qs same))
