-- What is printed one by one.
use Rattle.std.proofs.Common.{◌≡◌, ℕ, ◌+◌, List, [], ◌∷◌, ◌++◌, map, get_or, drop, Some, Ok, Err, Result, sym, refl, ap, ◌∙◌, inl, inr, append_assoc}
use Rattle.std.specs.Prelude.{slice_get}
use Rattle.std.specs.Option.{option_map}
use Rattle.std.proofs.lemmas.List.{drop_more, drop_all, append-nil}
use Rattle.std.proofs.lemmas.Option.{slice_get_cases}
use Rattle.refusal.specs.declared.Refusal.{Refusal}
use Rattle.refusal.specs.Values.{Values}
use Rattle.host.specs.declared.port.Port.{Port}
use Rattle.machine.specs.declared.machine.State.{State}
use Rattle.machine.specs.View.{world_of}
use Rattle.machine.specs.World.{Phase}
use Rattle.drive.specs.declared.call.Turn.{Turn}
use Rattle.drive.specs.declared.drive.Drive.{Drive}
use Rattle.drive.specs.Questions.{asked}
use Rattle.drive.specs.View.{world_in, said_of, by_values}

-- the answer in the only turn
pub only_answer : (turns : List Turn) (blank : Turn) (answer : Result (ℕ × State) Refusal) (x : Result (ℕ × Phase) Values)
    → (get_or turns 0 blank).answer ≡ Some answer
    → map said_of turns ≡ Some x ∷ []
    → by_values answer ≡ x
only_answer [] blank answer x is said = absurd (cc)
only_answer (turn ∷ turns) blank answer x is said =
    let first : said_of turn ≡ Some (by_values answer) = ap (option_map by_values) is in
    let parts : said_of turn ∷ map said_of turns ≡ Some x ∷ [] = said in
    cc

-- a drive's world has the ports that its host has
pub ports_in : (d : Drive) (ports : List Port) → ports ≡ (world_in d ports).ports
unfolding world_of
ports_in d ports = refl

-- a line, the lines of ports and those of faults, each added to the text before
pub put_together : (before line ports faults : List ℕ) → ((before ++ line) ++ ports) ++ faults ≡ before ++ ((line ++ []) ++ (ports ++ faults))
put_together before line ports faults =
    append_assoc (before ++ line) ports faults ∙ append_assoc before line (ports ++ faults) ∙ ap (λ l. before ++ (l ++ (ports ++ faults))) (sym (append-nil line))

module _ {X : Type 0} (xs : List X) (i : ℕ) where
  -- an element that is read is the next
  pub next_read : (x : X) → Ok x ≡ asked (slice_get xs i) → drop i xs ≡ x ∷ drop (i + 1) xs
  next_read x found = elim (slice_get_cases xs i).1 [
    | inl (y, less, is, at) ↦
        let same : Ok x ≡ Ok y = found ∙ ap asked is in
        let first : y ≡ x = cc in
        drop_more xs i y less ∙ ap (λ z. z ∷ drop (i + 1) xs) (at ∙ first)
    | inr (past, none) ↦ let same = found ∙ ap asked none in absurd (cc)
  ]

  -- where none is read, none is left
  pub none_read : (e : Values) → Err e ≡ asked (slice_get xs i) → drop i xs ≡ []
  none_read e refused = elim (slice_get_cases xs i).1 [
    | inl (y, less, is, at) ↦ let same = refused ∙ ap asked is in absurd (cc)
    | inr (past, none) ↦ drop_all i xs past
  ]
