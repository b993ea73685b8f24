-- The law over every list of calls.
use Rattle.std.specs.Prelude.{◌≡◌, ℕ, ◌+◌, ◌≤◌, Bool, true, ◌&&◌, ◌||◌, ◌⊎◌, List, [], ◌∷◌, map, Some, None, Ok, Err, Option, Result, ◌==◌, nat_le}
use Rattle.std.specs.List.{AllByRecursion}
use Rattle.refusal.specs.Values.{Values}
use Rattle.host.specs.declared.port.Port.{Port}
use Rattle.faults.specs.Causes.{Trip}
use Rattle.machine.specs.Foretold.{AsForetold, begun}
use Rattle.machine.specs.World.{Phase, ended, tripped, World, step}
use Rattle.machine.specs.Fuel.{TickRule, advanced, Spends}
use Rattle.drive.specs.declared.call.Call.{Call}
use Rattle.drive.specs.declared.call.Call.TheVariants.{Grant, Restart, PowerCycle}
use Rattle.drive.specs.declared.drive.Drive.{Drive}
use Rattle.drive.specs.Log.{new_log, log_after, answers, fault_list}
use Rattle.drive.specs.View.{module_of, world_in, faults_in, Said, Called}

-- a new drive of the module bs
pub record New (bs : List ℕ) (d : Drive) : Type 0 where
  pub bytes : module_of d ≡ bs
  pub world : (ports : List Port) → world_in d ports ≡ begun bs ports
  pub faults : faults_in d ≡ []

-- These calls, made one after the other over a host with this tick rule, were answered so, and lead from the drive d and the
-- ports ps to the drive e and the ports qs.
abbrev pub Leads : TickRule → List Call → List Said → Drive → List Port → Drive → List Port → Type 0
Leads rule [] [] d ps e qs = (e ≡ d) × (qs ≡ ps)
Leads rule [] (s ∷ said) d ps e qs = ⊥
Leads rule (call ∷ calls) [] d ps e qs = ⊥
Leads rule (call ∷ calls) (s ∷ said) d ps e qs =
    (answer : Result (ℕ × Phase) Values) × (s ≡ Some answer)
    × (m : Drive) × (ms : List Port) × Called rule call d ps answer m ms × Leads rule calls said m ms e qs

-- a drive that was new, on a host with these first ports, was called and answered so, and now it is d, and the host has these ports
abbrev pub Ran : List ℕ → TickRule → List Port → List Call → List Said → Drive → List Port → Type 0
Ran bs rule first calls said d ports = (new : Drive) × New bs new × Leads rule calls said new first d ports

-- The answers to these calls are the log's. The drive has the log's state, places and registers of all nested routines, and
-- memory, and its host the log's ports; its faults are the log's fault list.
pub record Logged (bs : List ℕ) (rule : TickRule) (first : List Port) (calls : List Call) (said : List Said) (d : Drive) (ports : List Port) : Type 0 where
  pub answered : said ≡ map Some (answers bs rule calls (new_log bs first))
  pub world : world_in d ports ≡ (log_after bs rule calls (new_log bs first)).world
  pub faults : faults_in d ≡ fault_list (log_after bs rule calls (new_log bs first)).entries

-- a cause that the documents list: 1 to 3 are the engine's, which has layer 2, 4 to 6 the host's, which has layer 3
abbrev pub is_listed : Trip → Bool
is_listed t = (nat_le 1 t.cause && (nat_le t.cause 3 && t.layer == 2)) || (nat_le 4 t.cause && (nat_le t.cause 6 && t.layer == 3))

-- a world is not stuck: it has a next step by the rules, or has ended, or has tripped for a listed cause
abbrev pub NotStuck : List ℕ → TickRule → World → Type 0
NotStuck bs rule w =
    ((v : World) × (step bs rule w ≡ Some v)) ⊎ ((w.phase ≡ ended) ⊎ ((t : Trip) × (w.phase ≡ tripped t) × (is_listed t ≡ true)))

-- a world is not stuck, and each of its nested routines has the depth and the constants that the check foretold for its place
pub record Sound (bs : List ℕ) (rule : TickRule) (w : World) : Type 0 where
  pub not_stuck : NotStuck bs rule w
  pub foretold : AllByRecursion (AsForetold bs) w.levels

-- What an accepted grant did to the drive d, over a host with the ports ps and this tick rule: it made at least one step and spent
-- the fuel; the drive is e then, in the phase that is answered, and the ports are qs; and before and after each of the steps, k of
-- them being made, it was sound.
pub record Granted (rule : TickRule) (fuel : ℕ) (d : Drive) (ps : List Port) (said : ℕ × Phase) (e : Drive) (qs : List Port) : Type 0 where
  pub some : 1 ≤ said.0
  pub spends : Spends (module_of d) rule fuel (world_in d ps) said.0 (world_in e qs)
  pub phase : said.1 ≡ (world_in e qs).phase
  pub sound : (k : ℕ) → k ≤ said.0 → Sound (module_of d) rule (advanced (module_of d) rule k (world_in d ps))

-- Every grant that was accepted is such a one, whoever made it.
abbrev pub EveryGrant : Type 0
EveryGrant =
    (rule : TickRule) (fuel : ℕ) (d : Drive) (ps : List Port) (said : ℕ × Phase) (e : Drive) (qs : List Port)
    → Called rule (Grant fuel) d ps (Ok said) e qs
    → Granted rule fuel d ps said e qs

-- what begins a run again
pub data Again : Type 0 where
  restart : Again
  power_cycle : Again

-- What is seen of a drive from its calls and their answers: the accepted restarts and power cycles in order, each with the
-- steps that were answered before it and after the one before, and the steps since the last.
pub record History : Type 0 where
  pub runs : List (ℕ × Again)
  pub latest : ℕ

-- a history, and before it a run of so many steps and what began the next
abbrev pub then : ℕ → Again → History → History
then made again h = record { runs = (made, again) ∷ h.runs; latest = h.latest }

-- by what an accepted call begins the run again, if it does
abbrev pub began : Call → Option Again
began (Grant fuel) = None
began Restart = Some restart
began PowerCycle = Some power_cycle

-- What is seen of an accepted call and of those after it: the steps of a grant are added to those made; with any other these are
-- the steps of a run, and the count begins at 0 again.
abbrev pub seen : Option Again → ℕ → ℕ → (ℕ → History) → History
seen None made steps later = later (made + steps)
seen (Some again) made steps later = then made again (later 0)

-- the history of the calls from here on, where so many steps were made since the run began
abbrev pub history_from : List Call → List Said → ℕ → History
history_from [] said made = record { runs = []; latest = made }
history_from (call ∷ calls) [] made = record { runs = []; latest = made }
history_from (call ∷ calls) (None ∷ said) made = history_from calls said made
history_from (call ∷ calls) (Some (Err e) ∷ said) made = history_from calls said made
history_from (call ∷ calls) (Some (Ok answer) ∷ said) made = seen (began call) made answer.0 (history_from calls said)

-- the history of all calls
abbrev pub history : List Call → List Said → History
history calls said = history_from calls said 0

-- two drives, with the ports of their hosts, agree in state, places, registers, memory, ports and faults
pub record Alike (d : Drive) (ports : List Port) (e : Drive) (others : List Port) : Type 0 where
  pub world : world_in e others ≡ world_in d ports
  pub faults : faults_in e ≡ faults_in d

-- The law of a drive that was new, of the module bs on a host with these first ports and this tick rule, and was called and
-- answered so. Any second drive that was new, of a module of equal bytes, on any host with equal first ports and an equal tick
-- rule, is alike if the same is seen of it.
pub record Law (bs : List ℕ) (rule : TickRule) (first : List Port) (calls : List Call) (said : List Said) (d : Drive) (ports : List Port) : Type 0 where
  pub sound : Sound bs rule (world_in d ports)
  pub alike : (bs2 : List ℕ) (rule2 : TickRule) (first2 : List Port) (calls2 : List Call) (said2 : List Said) (e : Drive) (others : List Port)
      → bs2 ≡ bs
      → rule2 ≡ rule
      → first2 ≡ first
      → Ran bs2 rule2 first2 calls2 said2 e others
      → history calls2 said2 ≡ history calls said
      → Alike d ports e others
  pub logged : Logged bs rule first calls said d ports

-- The law holds of every drive that was new and was called, whoever made the calls.
abbrev pub EveryRun : Type 0
EveryRun =
    (bs : List ℕ) (rule : TickRule) (first : List Port) (calls : List Call) (said : List Said) (d : Drive) (ports : List Port)
    → Ran bs rule first calls said d ports
    → Law bs rule first calls said d ports
