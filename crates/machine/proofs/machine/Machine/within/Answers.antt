use Rattle.std.proofs.Common.{◌≡◌, ◌-◌, true, [], ◌∷◌, sym, ap, ◌∙◌, subst}
use Rattle.module.specs.Told.{bytes_behind}
use Rattle.machine.specs.Foretold.{as_foretold, as_foretold_in}
use Rattle.machine.specs.Fuel.{Goes}
use Rattle.machine.specs.Nested.{running_routine, waiting}
use Rattle.machine.specs.Parts.{world_from}
use Rattle.machine.specs.View.{world_of}
use Rattle.machine.specs.World.{World, world, running}
use Rattle.machine.proofs.Runs.{foretold_over, levels_foretold, running_foretold}
use Rattle.machine.proofs.Soundness.{head_replaced}
use Rattle.machine.proofs.Steps.{running_world, runs_from}
use Rattle.machine.proofs.machine.Machine.within.Goals as goal

pub within-requires : goal.within-requires
within-requires g c =
    let m = c.args.self.now in
    record { routine = c.requires.runs.routine; foretold = running_foretold (bytes_behind c.args.code) m (foretold_over m c.requires.runs) c.requires.runs.running }

pub invariant_of-self : goal.invariant_of-self
unfolding as_foretold as_foretold_in
invariant_of-self g c =
    let bs = bytes_behind c.args.code in
    let m = c.args.self.now in
    let run = c.requires.runs.running in
    let own = c.within.ensures.made in
    let k = c.within.new.self in
    let memory = c.within.new.memory in
    let stays = head_replaced bs (running_routine m.stack) (running_routine k) (waiting m.stack) (levels_foretold bs m (foretold_over m c.requires.runs) run) own.foretold own.routine in
    record { foretold = subst (λ b. as_foretold b (world_from m.state k memory []) ≡ true) (sym c.requires.runs.upon) (ap (as_foretold bs) (runs_from k run c.within.ensures.waiting memory []) ∙ stays) }

pub returns-clause-goes : goal.returns-clause-goes
unfolding world_of
returns-clause-goes g c =
    let h = g.H.Host in
    let bs = bytes_behind c.args.code in
    let m = c.args.self.now in
    let run = c.requires.runs.running in
    let k = c.within.new.self in
    let memory = c.within.new.memory in
    let rule = h.rule (h.base c.args.host.now) in
    let ports = h.ports c.args.host.now in
    let later = h.ports c.within.new.host in
    let n = c.args.fuel - c.within.result.0 in
    let ends = runs_from k run c.within.ensures.waiting memory later in
    subst (λ (w : World). Goes bs rule n w (world_from m.state k memory later)) (sym (running_world bs rule m ports run))
    (subst (λ (w : World). Goes bs rule n (world running (running_routine m.stack ∷ waiting m.stack) m.memory.bytes ports) w) (sym ends) (c.within.ensures.made.steps (waiting m.stack)))

pub returns-clause-runs : goal.returns-clause-runs
returns-clause-runs g c =
    record {
      running = c.requires.runs.running;
      bytes = c.requires.runs.bytes;
      upon = c.requires.runs.upon;
      routine = c.requires.runs.routine ∙ sym c.within.ensures.made.routine;
    }
