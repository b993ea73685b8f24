-- What comes of a call, by the case of the drive's state and the call.
use Rattle.std.proofs.Common.{◌≡◌, ℕ, true, List, [], ◌∷◌, Some, None, Ok, Err, Result, sym, refl, ap, ◌∙◌}
use Rattle.std.proofs.lemmas.Bool.{cond-true}
use Rattle.refusal.specs.Values.{Values, caller}
use Rattle.host.specs.declared.port.Port.{Port}
use Rattle.host.specs.Ports.{rested}
use Rattle.machine.specs.declared.machine.State.{State}
use Rattle.machine.specs.declared.machine.State.TheVariants.{Running, Ended, Tripped}
use Rattle.machine.specs.Foretold.{begun}
use Rattle.machine.specs.Parts.{phase_of}
use Rattle.machine.specs.View.{world_of}
use Rattle.machine.specs.World.{Phase, running}
use Rattle.machine.specs.Fuel.{TickRule, steps, advanced}
use Rattle.drive.specs.declared.call.Call.{Call}
use Rattle.drive.specs.declared.call.Call.TheVariants.{Grant, Restart, PowerCycle}
use Rattle.drive.specs.declared.drive.Drive.{Drive}
use Rattle.drive.specs.Calls.{is_fuel, refusal, trips_of, cycle, Outcome, accepted, done, unless_refused}
use Rattle.faults.specs.Lists.{cycled}
use Rattle.drive.specs.View.{module_of, world_in, faults_in, Called, noted_all}
use Rattle.drive.proofs.Spending.{phase_is}

-- an answer, at the type at which it is compared
abbrev begun_answer : ℕ × Phase → Result (ℕ × Phase) Values
begun_answer answer = Ok answer

module _ (rule : TickRule) (call : Call) (d : Drive) (ps : List Port) where
  -- the refusal is that of the call and of the drive's state
  by_state : {c : Call} {s : State} → call ≡ c → d.machine.state ≡ s → refusal call (world_in d ps).phase ≡ refusal c (phase_of s)
  by_state is at = ap (refusal call) (phase_is d ps) ∙ (λ i. refusal (is i) (phase_of (at i)))

  -- a call is refused
  pub refused : (e : Values) → refusal call (world_in d ps).phase ≡ Some e → Called rule call d ps (Err e) d ps
  refused e h =
      let is = sym (ap (λ r. unless_refused r (world_in d ps) (done (module_of d) rule call (world_in d ps))) h) in
      record { answer = ap (λ o. o.answer) is; world = ap (λ o. o.world) is; faults = ap (λ o. noted_all (faults_in d) o.entries) is; bytes = refl }

  -- a call is accepted, and leaves what it is defined to leave
  accepts : (e : Drive) (qs : List Port) (said : Result (ℕ × Phase) Values) (o : Outcome)
      → refusal call (world_in d ps).phase ≡ None
      → done (module_of d) rule call (world_in d ps) ≡ o
      → said ≡ o.answer
      → world_in e qs ≡ o.world
      → faults_in e ≡ noted_all (faults_in d) o.entries
      → module_of e ≡ module_of d
      → Called rule call d ps said e qs
  accepts e qs said o h comes answer world faults bytes =
      let is = sym comes ∙ sym (ap (λ r. unless_refused r (world_in d ps) (done (module_of d) rule call (world_in d ps))) h) in
      record {
        answer = answer ∙ ap (λ o. o.answer) is;
        world = world ∙ ap (λ o. o.world) is;
        faults = faults ∙ ap (λ o. noted_all (faults_in d) o.entries) is;
        bytes = bytes;
      }

  module _ (fuel : ℕ) (is : call ≡ Grant fuel) (h : is_fuel fuel ≡ true) where
    pub when_ended : d.machine.state ≡ Ended → Called rule call d ps (Err (caller 15)) d ps
    when_ended at = refused (caller 15) (by_state is at ∙ cond-true (is_fuel fuel) _ _ h)

    pub when_tripped : {cause : _} {place : _} → d.machine.state ≡ Tripped cause place → Called rule call d ps (Err (caller 16)) d ps
    when_tripped at = refused (caller 16) (by_state is at ∙ cond-true (is_fuel fuel) _ _ h)

    -- a grant, after which the drive is e
    pub when_running : (e : Drive) (qs : List Port) (made : ℕ × State)
        → d.machine.state ≡ Running
        → made.0 ≡ steps (module_of d) rule fuel (world_in d ps)
        → world_in e qs ≡ advanced (module_of d) rule made.0 (world_in d ps)
        → made.1 ≡ e.machine.state
        → faults_in e ≡ noted_all (faults_in d) (trips_of (world_in e qs).phase)
        → module_of e ≡ module_of d
        → Called rule call d ps (Ok (made.0, phase_of made.1)) e qs
    when_running e qs made at count world state faults bytes =
        let bs = module_of d in
        let later = advanced bs rule made.0 (world_in d ps) in
        let comes : done bs rule call (world_in d ps) ≡ accepted made.0 later (trips_of later.phase)
        = ap (λ c. done bs rule c (world_in d ps)) is
        ∙ ap (λ n. accepted n (advanced bs rule n (world_in d ps)) (trips_of (advanced bs rule n (world_in d ps)).phase)) (sym count) in
        accepts e qs (Ok (made.0, phase_of made.1)) (accepted made.0 later (trips_of later.phase))
        (by_state is at ∙ cond-true (is_fuel fuel) _ _ h)
        comes
        (ap (λ p. Ok (made.0, p)) (ap phase_of state ∙ sym (phase_is e qs) ∙ ap (λ w. w.phase) world))
        world
        (faults ∙ ap (λ w. noted_all (faults_in d) (trips_of w.phase)) world)
        bytes

  pub not_while_running : call ≡ Restart → d.machine.state ≡ Running → Called rule call d ps (Err (caller 17)) d ps
  not_while_running is at = refused (caller 17) (by_state is at)

  -- the run begins again in e, which is told
  module _ (e : Drive) (said : ℕ × State) (is-said : said ≡ (0, Running)) (fresh : (ports : List Port) → world_in e ports ≡ begun (module_of d) ports) (same : module_of e ≡ module_of d) where
    is_told : begun_answer (said.0, phase_of said.1) ≡ begun_answer (0, running)
    is_told = ap (λ a. begun_answer (a.0, phase_of a.1)) is-said

    restarted : call ≡ Restart → refusal call (world_in d ps).phase ≡ None → faults_in e ≡ faults_in d
        → Called rule call d ps (Ok (said.0, phase_of said.1)) e ps
    unfolding world_of
    restarted is h faults =
        accepts e ps _ (accepted 0 (begun (module_of d) ps) []) h (ap (λ c. done (module_of d) rule c (world_in d ps)) is) is_told (fresh ps) faults same

    pub after_the_end : call ≡ Restart → d.machine.state ≡ Ended → faults_in e ≡ faults_in d → Called rule call d ps (Ok (said.0, phase_of said.1)) e ps
    after_the_end is at faults = restarted is (by_state is at) faults

    pub after_a_trip : {cause : _} {place : _} → call ≡ Restart → d.machine.state ≡ Tripped cause place → faults_in e ≡ faults_in d
        → Called rule call d ps (Ok (said.0, phase_of said.1)) e ps
    after_a_trip is at faults = restarted is (by_state is at) faults

    pub cycles : (qs : List Port) → call ≡ PowerCycle → qs ≡ rested ps → faults_in e ≡ cycled (faults_in d)
        → Called rule call d ps (Ok (said.0, phase_of said.1)) e qs
    unfolding world_of
    cycles qs is rest faults =
        accepts e qs _ (accepted 0 (begun (module_of d) (rested ps)) (cycle ∷ []))
        (ap (λ c. refusal c (world_in d ps).phase) is)
        (ap (λ c. done (module_of d) rule c (world_in d ps)) is)
        is_told
        (fresh qs ∙ ap (begun (module_of d)) rest)
        faults
        same
