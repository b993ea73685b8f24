-- Ports, and what a read, a write and a rest make of them.
use Rattle.std.specs.Prelude.{◌≡◌, ◌≤◌, ℕ, Bool, cond, ◌&&◌, List, map, length, None, Ok, Err, Result, MatchResult, nat_le, nat_lt, slice_index_or, slice_set, unwrap_or}
use Rattle.refusal.specs.Values.{Values}
use Rattle.host.specs.declared.port.Flag.{Flag}
use Rattle.host.specs.declared.port.Flag.TheVariants.{Order, Sense}
use Rattle.host.specs.declared.port.Port.{Port}
use Rattle.host.specs.declared.port.HostRefusal.{HostRefusal}
use Rattle.host.specs.declared.port.HostRefusal.TheVariants.{NoPort}
use Rattle.host.specs.Refusals.{by_host}

-- the most ports that a host has
abbrev pub most_ports : ℕ
most_ports = 256

-- what the definitions read where there is no port; no answer shows it
abbrev pub blank : Port
blank = record { value = 0; low = 0; high = 0; flag = Order; rest = None }

-- the port with the value v, and all else as it is
abbrev pub with_value : Port → ℕ → Port
with_value port v = record { value = v; low = port.low; high = port.high; flag = port.flag; rest = port.rest }

-- the first of two at an order port, the second at a sense port
abbrev pub by_flag : {X : Type 0} → Flag → X → X → X
by_flag Order x y = x
by_flag Sense x y = y

-- the first of two after an acceptance, the second after a refusal
abbrev pub if_ok : {A X : Type 0} → Result A Values → X → X → X
if_ok (Ok a) x y = x
if_ok (Err e) x y = y

-- the value of port p
abbrev pub value_at : List Port → ℕ → ℕ
value_at ports p = (slice_index_or ports p blank).value

-- of `count` ports that have names, the one with the number p, or a refusal where there is none
abbrev pub NamesPort : {Name : Type 0} → (Name → ℕ) → ℕ → ℕ → Result Name HostRefusal → Type 0
NamesPort number_of count p answer = MatchResult answer (λ name. number_of name ≡ p) (λ e. (e ≡ NoPort) × (count ≤ p))

-- what a read of port p answers
abbrev pub reading : List Port → ℕ → Result ℕ Values
reading ports p = cond (nat_lt p (length ports)) (Ok (value_at ports p)) (Err (by_host 4))

-- v lies within the limits of a port
abbrev pub within : Port → ℕ → Bool
within port v = nat_le port.low v && nat_le v port.high

-- what one port answers to an order of v, and what it is then
abbrev pub ordering : Port → ℕ → Result (Unit {0}) Values
ordering port v = by_flag port.flag (cond (within port v) (Ok tt) (Err (by_host 6))) (Err (by_host 5))

abbrev pub ordered : Port → ℕ → Port
ordered port v = if_ok (ordering port v) (with_value port v) port

-- what a write of v to port p answers, and what the ports are then
abbrev pub writing : List Port → ℕ → ℕ → Result (Unit {0}) Values
writing ports p v = cond (nat_lt p (length ports)) (ordering (slice_index_or ports p blank) v) (Err (by_host 4))

abbrev pub written : List Port → ℕ → ℕ → List Port
written ports p v = slice_set ports p (ordered (slice_index_or ports p blank) v)

-- a port at rest: with its rest value, if it has one
abbrev pub at_rest : Port → Port
at_rest port = with_value port (unwrap_or port.rest port.value)

-- what a rest makes of the ports
abbrev pub rested : List Port → List Port
rested ports = map at_rest ports
