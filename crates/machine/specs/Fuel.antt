-- How many steps fuel makes, and where they lead.
use Rattle.std.specs.Prelude.{◌≡◌, ◌≢◌, ℕ, zero, suc, ◌+◌, ◌<◌, ◌≤◌, List, Some, unwrap_or}
use Rattle.host.specs.declared.port.Port.{Port}
use Rattle.machine.specs.World.{Phase, running, ended, tripped, World, step}

-- the tick rule of a host
abbrev pub TickRule : Type 0
TickRule = List Port → List Port

-- one of three, by whether a machine runs, has ended or has tripped
abbrev pub by_phase : {X : Type 0} → Phase → X → X → X → X
by_phase running x y z = x
by_phase ended x y z = y
by_phase (tripped trip) x y z = z

-- the world one step on; where no rule has a step, as it is
abbrev pub next : List ℕ → TickRule → World → World
next bs rule w = unwrap_or (step bs rule w) w

-- How many steps fuel makes: until it is used, or the phase leaves running. A machine that is as the check foretold never runs
-- where the rules have no step; `NeverStuck` says so.
abbrev pub steps : List ℕ → TickRule → ℕ → World → ℕ
steps bs rule zero w = 0
steps bs rule (suc fuel) w = by_phase w.phase (suc (steps bs rule fuel (next bs rule w))) 0 0

-- the world n steps on
abbrev pub advanced : List ℕ → TickRule → ℕ → World → World
advanced bs rule zero w = w
advanced bs rule (suc n) w = advanced bs rule n (next bs rule w)

-- Some steps lead from the world w to the world v: before each of them the machine runs, and each is a step by the rules.
abbrev pub StepsLead : List ℕ → TickRule → ℕ → World → World → Type 0
StepsLead bs rule zero w v = v ≡ w
StepsLead bs rule (suc n) w v = (w.phase ≡ running) × (u : World) × (step bs rule w ≡ Some u) × StepsLead bs rule n u v

-- Fuel was spent: no more steps were made than there was fuel, and fewer only if the machine does not run any more; and they are
-- steps by the rules, which lead from the world w to the world v.
pub record Spends (bs : List ℕ) (rule : TickRule) (fuel : ℕ) (w : World) (made : ℕ) (v : World) : Type 0 where
  pub within : made ≤ fuel
  pub stopped : made < fuel → v.phase ≢ running
  pub lead : StepsLead bs rule made w v

-- so many times `next` leads from the world w to the world v, and the machine runs before each: of any fuel the first n make these
-- steps, and what is left makes those that it makes from v on
pub record Goes (bs : List ℕ) (rule : TickRule) (n : ℕ) (w v : World) : Type 0 where
  pub reaches : advanced bs rule n w ≡ v
  pub counts : (more : ℕ) → steps bs rule (n + more) w ≡ n + steps bs rule more v
