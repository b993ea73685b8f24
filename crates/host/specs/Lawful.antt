-- What each host proves of its ports and its tick rule.
use Rattle.std.specs.Prelude.{◌≡◌, ◌≤◌, ℕ, suc, List, [], ◌∷◌, length, Option, refl}
use Rattle.std.proofs.Common.{sym, ap}
use Rattle.std.specs.List.{AllZip}
use Rattle.host.specs.declared.port.Flag.TheVariants.{Order, Sense}
use Rattle.host.specs.declared.port.Port.{Port}
use Rattle.host.specs.Ports.{most_ports, with_value, by_flag}

-- q is the port p but perhaps for the value, which an order port keeps too
pub record Sensed (p q : Port) : Type 0 where
  pub others : q ≡ with_value p q.value
  pub orders : p.flag ≡ Order → q.value ≡ p.value

-- the ports, with these values in place of their own: port p has the value `values p`
abbrev pub revalued : (ℕ → ℕ) → List Port → List Port
revalued values [] = []
revalued values (p ∷ ps) = with_value p (values 0) ∷ revalued (λ k. values (suc k)) ps

-- A host has no more ports than the most. And whatever values its ports have, its rule keeps all else of them, their number
-- too, and the values of order ports.
pub record LawfulHost {Self Base : Type 0} (base : Self → Base) (ports : Self → List Port) (rule : Base → List Port → List Port) : Type 0 where
  pub few : (host : Self) → length (ports host) ≤ most_ports
  pub senses : (host : Self) (values : ℕ → ℕ) → AllZip Sensed (revalued values (ports host)) (rule (base host) (revalued values (ports host)))

-- The proof of a rule names each port: one that stays as it is, or a sense port that shows another value.
pub stays : {p : Port} → Sensed p p
stays = record { others = refl; orders = λ _. refl }

pub shows : {v w low high : ℕ} {rest : Option ℕ}
    → Sensed (record { value = v; low = low; high = high; flag = Sense; rest = rest }) (record { value = w; low = low; high = high; flag = Sense; rest = rest })
shows {v} {w} = record { others = refl; orders = λ order. ap (λ flag. by_flag flag w v) (sym order) }

-- ports that all stay
pub unchanged_ports : (ps : List Port) → AllZip Sensed ps ps
unchanged_ports [] = tt
unchanged_ports (p ∷ ps) = (stays, unchanged_ports ps)
