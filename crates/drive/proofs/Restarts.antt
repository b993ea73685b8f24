-- A restart needs no host.
use Rattle.std.proofs.Common.{◌≡◌, ℕ, List, [], Result, refl, ap, ◌∙◌}
use Rattle.refusal.specs.Values.{Values}
use Rattle.host.specs.declared.port.Port.{Port}
use Rattle.machine.specs.Foretold.{begun}
use Rattle.machine.specs.View.{world_of}
use Rattle.machine.specs.World.{Phase, running, ended, tripped, World, world}
use Rattle.machine.specs.Fuel.{TickRule}
use Rattle.drive.specs.declared.call.Call.TheVariants.{Restart}
use Rattle.drive.specs.declared.drive.Drive.{Drive}
use Rattle.drive.specs.Calls.{refusal, Outcome, accepted, unless_refused}
use Rattle.drive.specs.View.{module_of, world_in, faults_in, Called, noted_all}

-- the same over other ports
abbrev over : List Port → World → World
over ports w = world w.phase w.levels w.memory ports

module _ (bs : List ℕ) (w : World) where
  abbrev restarts : Phase → List Port → Outcome
  restarts phase ports = unless_refused (refusal Restart phase) (over ports w) (accepted 0 (begun bs ports) [])

  same_answer : (phase : Phase) (ps qs : List Port) → (restarts phase ps).answer ≡ (restarts phase qs).answer
  same_answer running ps qs = refl
  same_answer ended ps qs = refl
  same_answer (tripped t) ps qs = refl

  same_world : (phase : Phase) (ps qs : List Port) → over qs (restarts phase ps).world ≡ (restarts phase qs).world
  same_world running ps qs = refl
  same_world ended ps qs = refl
  same_world (tripped t) ps qs = refl

  same_entries : (phase : Phase) (ps qs : List Port) → (restarts phase ps).entries ≡ (restarts phase qs).entries
  same_entries running ps qs = refl
  same_entries ended ps qs = refl
  same_entries (tripped t) ps qs = refl

pub over_any_host : (old : TickRule) (d : Drive) (ps : List Port) (answer : Result (ℕ × Phase) Values) (e : Drive) (qs : List Port)
    → Called old Restart d ps answer e qs
    → (rule : TickRule) (ports : List Port)
    → Called rule Restart d ports answer e ports
unfolding world_of
over_any_host old d ps answer e qs c rule ports =
    let bs = module_of d in
    let w = world_in d ps in
    record {
      answer = c.answer ∙ same_answer bs w w.phase ps ports;
      world = ap (over ports) c.world ∙ same_world bs w w.phase ps ports;
      faults = c.faults ∙ ap (noted_all (faults_in d)) (same_entries bs w w.phase ps ports);
      bytes = c.bytes;
    }
