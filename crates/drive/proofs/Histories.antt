-- What is seen of a drive decides its log.
use Rattle.std.proofs.Common.{◌≡◌, ℕ, zero, suc, ◌+◌, List, [], ◌∷◌, ◌++◌, map, Some, None, Option, sym, refl, ap, ◌∙◌, subst, arith}
use Rattle.std.proofs.lemmas.List.{append-nil}
use Rattle.refusal.specs.Values.{Values}
use Rattle.host.specs.Ports.{rested}
use Rattle.machine.specs.Foretold.{begun}
use Rattle.machine.specs.World.{Phase, running, ended, tripped, World}
use Rattle.machine.specs.Fuel.{TickRule, by_phase, next, steps, advanced}
use Rattle.machine.proofs.Fuel.{none_made}
use Rattle.drive.specs.declared.call.Call.{Call}
use Rattle.drive.specs.declared.call.Call.TheVariants.{Grant, Restart, PowerCycle}
use Rattle.drive.specs.Calls.{refusal, trips_of, Entry, cycle, Outcome, done, unless_refused, outcome}
use Rattle.drive.specs.Law.{Again, restart, power_cycle, History, history_from}
use Rattle.drive.specs.Log.{Log, log, log_after, answers}
use Rattle.drive.proofs.Grants.{grants_run}

module _ (bs : List ℕ) (rule : TickRule) where
  -- a log some steps on: a step that trips is entered
  abbrev stepped : Log → Log
  stepped l =
      let w : World = next bs rule l.world in
      by_phase l.world.phase (log w (l.entries ++ trips_of w.phase)) l l

  abbrev stepping : ℕ → Log → Log
  stepping zero l = l
  stepping (suc n) l = stepping n (stepped l)

  stepping_add : (m n : ℕ) (l : Log) → stepping n (stepping m l) ≡ stepping (m + n) l
  stepping_add zero n l = let same : n ≡ 0 + n = omega arith in ap (λ k. stepping k l) same
  stepping_add (suc m) n l = stepping_add m n (stepped l) ∙ (let same : suc (m + n) ≡ suc m + n = omega arith in ap (λ k. stepping k l) same)

  -- a log where the run begins again
  abbrev began_again : Again → Log → Log
  began_again restart l = log (begun bs l.world.ports) (l.entries ++ [])
  began_again power_cycle l = log (begun bs (rested l.world.ports)) (l.entries ++ (cycle ∷ []))

  -- a log after what is seen
  abbrev replayed : List (ℕ × Again) → ℕ → Log → Log
  replayed [] latest l = stepping latest l
  replayed (run ∷ runs) latest l = replayed runs latest (began_again run.1 (stepping run.0 l))

  abbrev replay : History → Log → Log
  replay h l = replayed h.runs h.latest l

  -- what a grant and its steps leave, from a world on with these entries
  abbrev Granted : ℕ → World → List Entry → Log
  Granted n w es = log (advanced bs rule n w) (es ++ trips_of (advanced bs rule n w).phase)

  stopped : (n : ℕ) (w : World) (es : List Entry) → n ≡ 0 → Granted n w es ≡ stepping n (log w (es ++ trips_of w.phase))
  stopped n w es none = ap (λ n. Granted n w es) none ∙ ap (λ n. stepping n (log w (es ++ trips_of w.phase))) (sym none)

  -- a step leaves the machine running, or no more are made
  after_one : (fuel : ℕ) (w : World) (es : List Entry) (p : Phase) → w.phase ≡ p
      → (w.phase ≡ running → Granted (steps bs rule fuel w) w es ≡ stepping (steps bs rule fuel w) (log w es))
      → Granted (steps bs rule fuel w) w es ≡ stepping (steps bs rule fuel w) (log w (es ++ trips_of w.phase))
  after_one fuel w es running at on =
      on at ∙ ap (λ more. stepping (steps bs rule fuel w) (log w more)) (sym (append-nil es) ∙ ap (λ p. es ++ trips_of p) (sym at))
  after_one fuel w es ended at on = stopped (steps bs rule fuel w) w es (none_made bs rule fuel w (λ x. ap (λ p. by_phase p x 0 0) at))
  after_one fuel w es (tripped t) at on = stopped (steps bs rule fuel w) w es (none_made bs rule fuel w (λ x. ap (λ p. by_phase p x 0 0) at))

  -- a grant leaves the log that its steps leave
  grant_is : (fuel : ℕ) (w : World) (es : List Entry) → w.phase ≡ running → Granted (steps bs rule fuel w) w es ≡ stepping (steps bs rule fuel w) (log w es)
  grant_is zero w es run = ap (λ p. log w (es ++ trips_of p)) run ∙ ap (log w) (append-nil es)
  grant_is (suc fuel) w es run =
      let v = next bs rule w in
      let one : steps bs rule (suc fuel) w ≡ suc (steps bs rule fuel v) = ap (λ p. by_phase p (suc (steps bs rule fuel v)) 0 0) run in
      let first : stepped (log w es) ≡ log v (es ++ trips_of v.phase) = ap (λ p. by_phase p (log v (es ++ trips_of v.phase)) (log w es) (log w es)) run in
      ap (λ n. Granted n w es) one
      ∙ after_one fuel v es v.phase refl (λ at. grant_is fuel v es at)
      ∙ ap (stepping (steps bs rule fuel v)) (sym first)
      ∙ ap (λ n. stepping n (log w es)) (sym one)

  -- after these calls the log is what is seen of them, replayed
  abbrev Replays : List Call → ℕ → Log → Log → Type 0
  Replays calls made k l = log_after bs rule calls l ≡ replay (history_from calls (map Some (answers bs rule calls l)) made) k

  -- so it is after a call with this outcome
  abbrev Comes : List Call → ℕ → Log → Log → Call → Outcome → Type 0
  Comes calls made k l call o =
      let later : Log = log o.world (l.entries ++ o.entries) in
      log_after bs rule calls later ≡ replay (history_from (call ∷ calls) (Some o.answer ∷ map Some (answers bs rule calls later)) made) k

  module _ (calls : List Call) (later : (made : ℕ) (k : Log) → Replays calls made k (stepping made k)) (made : ℕ) (k : Log) where
    accepts : (call : Call) → refusal call (stepping made k).world.phase ≡ None → Comes calls made k (stepping made k) call (done bs rule call (stepping made k).world)
    accepts (Grant fuel) h =
        let l = stepping made k in
        let n = steps bs rule fuel l.world in
        let is = grant_is fuel l.world l.entries (grants_run fuel l.world.phase h) ∙ stepping_add made n k in
        subst (Replays calls (made + n) k) (sym is) (later (made + n) k)
    accepts Restart h = later 0 (began_again restart (stepping made k))
    accepts PowerCycle h = later 0 (began_again power_cycle (stepping made k))

    by_refusal : (call : Call) (r : Option Values) → refusal call (stepping made k).world.phase ≡ r
        → Comes calls made k (stepping made k) call (outcome bs rule call (stepping made k).world)
    by_refusal call None h =
        let l = stepping made k in
        subst (Comes calls made k l call) (ap (λ r. unless_refused r l.world (done bs rule call l.world)) (sym h)) (accepts call h)
    by_refusal call (Some e) h =
        let l = stepping made k in
        subst (Comes calls made k l call) (ap (λ r. unless_refused r l.world (done bs rule call l.world)) (sym h))
        (subst (Replays calls made k) (ap (log l.world) (sym (append-nil l.entries))) (later made k))

  replays : (calls : List Call) (made : ℕ) (k : Log) → Replays calls made k (stepping made k)
  replays [] made k = refl
  replays (call ∷ calls) made k = by_refusal calls (λ made k. replays calls made k) made k call (refusal call (stepping made k).world.phase) refl

  -- two lists of calls of which the same is seen leave one log
  pub same_log : (calls others : List Call) (l : Log)
      → history_from others (map Some (answers bs rule others l)) 0 ≡ history_from calls (map Some (answers bs rule calls l)) 0
      → log_after bs rule others l ≡ log_after bs rule calls l
  same_log calls others l e = replays others 0 l ∙ ap (λ h. replay h l) e ∙ sym (replays calls 0 l)
