-- The law over lists of calls.
use Rattle.std.proofs.Common.{◌≡◌, ℕ, ◌+◌, ◌<◌, List, [], ◌∷◌, ◌++◌, map, length, get_or, take, set, Some, Result, sym, refl, ap, ◌∙◌, subst, arith}
use Rattle.std.proofs.lemmas.List.{length-map, map_push, map-set, set-get_or, get_or-map, take_more, take_more_set}
use Rattle.refusal.specs.Values.{Values}
use Rattle.refusal.specs.declared.Refusal.{Refusal}
use Rattle.host.specs.declared.port.Port.{Port}
use Rattle.machine.specs.declared.machine.State.{State}
use Rattle.machine.specs.World.{Phase}
use Rattle.machine.specs.Fuel.{TickRule}
use Rattle.drive.specs.declared.call.Call.{Call}
use Rattle.drive.specs.declared.call.Turn.{Turn}
use Rattle.drive.specs.declared.drive.Drive.{Drive}
use Rattle.drive.specs.Calls.{outcome}
use Rattle.drive.specs.Log.{Log, new_log, after_call, log_after, answers, fault_list}
use Rattle.drive.specs.Law.{Leads, Ran, Logged, Sound, history, EveryRun}
use Rattle.drive.specs.View.{Said, module_of, world_in, faults_in, by_values, call_of, said_of, Called, noted_all}
use Rattle.drive.proofs.Entries.{fault_list_on}
use Rattle.drive.proofs.Histories.{same_log}
use Rattle.drive.proofs.Sound.{is_sound}

-- one call more
pub leads_push : (rule : TickRule) (calls : List Call) (said : List Said) (call : Call) (answer : Result (ℕ × Phase) Values) (d : Drive) (ps : List Port) (m : Drive) (ms : List Port) (e : Drive) (qs : List Port)
    → Leads rule calls said d ps m ms
    → Called rule call m ms answer e qs
    → Leads rule (calls ++ (call ∷ [])) (said ++ (Some answer ∷ [])) d ps e qs
leads_push rule [] [] call answer d ps m ms e qs h c =
    (answer, refl, e, qs, subst (λ k. Called rule call k ps answer e qs) h.0 (subst (λ ks. Called rule call m ks answer e qs) h.1 c), (refl, refl))
leads_push rule [] (s ∷ said) call answer d ps m ms e qs h c = absurd h
leads_push rule (x ∷ calls) [] call answer d ps m ms e qs h c = absurd h
leads_push rule (x ∷ calls) (s ∷ said) call answer d ps m ms e qs h c =
    (h.0, h.1, h.2, h.3, h.4, leads_push rule calls said call answer h.2 h.3 m ms e qs h.5 c)

-- a drive, with the ports of its host, is what a log says
record Agrees (bs : List ℕ) (d : Drive) (ports : List Port) (l : Log) : Type 0 where
  bytes : module_of d ≡ bs
  world : world_in d ports ≡ l.world
  faults : faults_in d ≡ fault_list l.entries

module _ (bs : List ℕ) (rule : TickRule) where
  -- a call keeps to the log
  keeps : (call : Call) (answer : Result (ℕ × Phase) Values) (d : Drive) (ps : List Port) (e : Drive) (qs : List Port) (l : Log)
      → Agrees bs d ps l
      → Called rule call d ps answer e qs
      → (answer ≡ (outcome bs rule call l.world).answer) × Agrees bs e qs (after_call bs rule call l)
  keeps call answer d ps e qs l a c =
      let same : outcome (module_of d) rule call (world_in d ps) ≡ outcome bs rule call l.world = λ i. outcome (a.bytes i) rule call (a.world i) in (
        c.answer ∙ ap (λ o. o.answer) same,
        record {
          bytes = c.bytes ∙ a.bytes;
          world = c.world ∙ ap (λ o. o.world) same;
          faults = c.faults ∙ (λ i. noted_all (a.faults i) (same i).entries) ∙ fault_list_on (outcome bs rule call l.world).entries l.entries;
        },
      )

  -- and so do calls, one after the other
  keep : (calls : List Call) (said : List Said) (d : Drive) (ps : List Port) (e : Drive) (qs : List Port) (l : Log)
      → Agrees bs d ps l
      → Leads rule calls said d ps e qs
      → (said ≡ map Some (answers bs rule calls l)) × Agrees bs e qs (log_after bs rule calls l)
  keep [] [] d ps e qs l a h = (refl, subst (λ k. Agrees bs k qs l) (sym h.0) (subst (λ ks. Agrees bs d ks l) (sym h.1) a))
  keep [] (s ∷ said) d ps e qs l a h = absurd h
  keep (call ∷ calls) [] d ps e qs l a h = absurd h
  keep (call ∷ calls) (s ∷ said) d ps e qs l a h =
      let one = keeps call h.0 d ps h.2 h.3 l a h.4 in
      let all = keep calls said h.2 h.3 e qs (after_call bs rule call l) one.1 h.5 in
      ((λ i. (h.1 ∙ ap Some one.0) i ∷ all.0 i), all.1)

  -- a drive that was new, and was called so, is what its log says
  module _ (first : List Port) (calls : List Call) (said : List Said) (d : Drive) (ports : List Port) (r : Ran bs rule first calls said d ports) where
    ends : (said ≡ map Some (answers bs rule calls (new_log bs first))) × Agrees bs d ports (log_after bs rule calls (new_log bs first))
    ends =
        let new = r.1 in
        keep calls said r.0 first d ports (new_log bs first) (record { bytes = new.bytes; world = new.world first; faults = new.faults }) r.2

    pub logged : Logged bs rule first calls said d ports
    logged = record { answered = ends.0; world = ends.1.world; faults = ends.1.faults }

    pub same_module : module_of d ≡ bs
    same_module = ends.1.bytes

-- the law
pub law_holds : EveryRun
law_holds bs rule first calls said d ports ran =
    let h = logged bs rule first calls said d ports ran in
    record {
      sound = subst (λ b. Sound b rule (world_in d ports)) (same_module bs rule first calls said d ports ran) (is_sound rule d ports);
      alike = λ bs2 rule2 first2 calls2 said2 e others b r f ran2 seen.
          let k = logged bs2 rule2 first2 calls2 said2 e others ran2 in
          let moved : map Some (answers bs2 rule2 calls2 (new_log bs2 first2)) ≡ map Some (answers bs rule calls2 (new_log bs first)) = λ i. map Some (answers (b i) (r i) calls2 (new_log (b i) (f i))) in
          let log2 : log_after bs2 rule2 calls2 (new_log bs2 first2) ≡ log_after bs rule calls2 (new_log bs first) = λ i. log_after (b i) (r i) calls2 (new_log (b i) (f i)) in
          let same
          = log2
          ∙ same_log bs rule calls calls2 (new_log bs first)
          (sym (ap (history calls2) (k.answered ∙ moved)) ∙ seen ∙ ap (history calls) h.answered) in
          record { world = k.world ∙ ap (λ l. l.world) same ∙ sym h.world; faults = k.faults ∙ ap (λ l. fault_list l.entries) same ∙ sym h.faults };
      logged = h;
    }

-- One turn: its call is made, and its answer filled in.
module _ (turns : List Turn) (i : ℕ) (turn : Turn) (answer : Result (ℕ × State) Refusal) (less : i < length turns) where
  pub same_calls : map call_of (set turns i (record { call = (get_or turns i turn).call; answer = Some answer })) ≡ map call_of turns
  same_calls =
      map-set call_of turns i _
      ∙ ap (set (map call_of turns) i) (sym (get_or-map call_of turns i turn (call_of turn) less))
      ∙ set-get_or (map call_of turns) i (call_of turn)

  pub one_answer : map said_of (take (i + 1) (set turns i (record { call = (get_or turns i turn).call; answer = Some answer })))
      ≡ map said_of (take i turns) ++ (Some (by_values answer) ∷ [])
  one_answer = ap (map said_of) (take_more_set turns i _ less) ∙ map_push said_of (take i turns) _

  pub one_call : (calls : List Call) → map call_of turns ≡ calls → take (i + 1) calls ≡ take i calls ++ ((get_or turns i turn).call ∷ [])
  one_call calls is =
      let room : i < length calls = omega (arith, less, length-map turns call_of, ap length is) in
      take_more calls i (call_of turn) room
      ∙ ap (λ c. take i calls ++ (c ∷ [])) (sym (ap (λ cs. get_or cs i (call_of turn)) is) ∙ get_or-map call_of turns i turn (call_of turn) less)
