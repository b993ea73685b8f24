use Rattle.std.proofs.Common.{◌≡◌, ◌≢◌, ℕ, ◌+◌, ◌-◌, ◌≤◌, List, [], IfSome, sym, refl, ap, ◌∙◌, subst, arith}
use Rattle.std.specs.Option.{IfNone}
use Rattle.module.proofs.Accepts.{accepts_checked}
use Rattle.machine.specs.Foretold.{AsForetold}
use Rattle.machine.specs.Fuel.{TickRule, steps, advanced, Goes}
use Rattle.machine.specs.View.{module_of, world_of, RunsBody}
use Rattle.machine.specs.World.{World, running}
use Rattle.machine.proofs.Bodies.{has_body}
use Rattle.machine.proofs.Fuel.{other_phase, goes_then, none_made, spent}
use Rattle.machine.proofs.Runs.{as_its_type_says, rests, any_ports, any_phase, running_foretold}
use Rattle.machine.proofs.Soundness.{never_stuck}
use Rattle.machine.proofs.machine.Machine.run.Goals as goal
use Rattle.machine.proofs.machine.Machine.run.Goals.{else-loop-left-test, then-loop-left-test+in_default-next}

pub returns-in_default : goal.returns-in_default
returns-in_default g c =
    let h = g.H.Host in
    let ports = h.ports c.args.host.now in
    let none = none_made (module_of c.args.self.now) (h.rule (h.base c.args.host.now)) c.args.fuel (world_of c.args.self.now ports) (other_phase _ (rests c.args.self.now ports c.in_default.not-Running)) in
    record {
      made = sym none;
      world = refl;
      spends = record { within = omega arith; stopped = λ _. rests c.args.self.now ports c.in_default.not-Running; lead = refl };
      bytes = refl;
      base = refl;
    }

pub unwrap-code-requires : goal.unwrap-code-requires
unwrap-code-requires g c =
    let bs = module_of c.args.self.now in
    let told = subst (AsForetold bs) (sym c.running.ensures) (running_foretold bs c.args.self.now (as_its_type_says c.args.self.now) c.in-Running.is) in
    has_body bs c.running.result.now.routine c.body.result c.body.ensures told.routine

pub loop-left-preserved : goal.loop-left-preserved
unfolding world_of
loop-left-preserved g c =
    let h = g.H.Host in
    let bs = module_of c.args.self.now in
    let rule = h.rule (h.base c.args.host.now) in
    let inv = c.loop-left.invariant in
    let rest = c.turn-rest.result.0 in
    let first = world_of c.args.self.now (h.ports c.args.host.now) in
    let later = world_of c.turn-rest.new.self (h.ports c.turn-rest.new.host) in
    let own = subst (λ b. Goes b (h.rule (h.base c.loop-left.host)) (c.loop-left.left - rest) (world_of c.loop-left.self (h.ports c.loop-left.host)) later) inv.runs.bytes c.turn-rest.ensures.goes in
    let more = subst (λ b. Goes bs (h.rule b) (c.loop-left.left - rest) (world_of c.loop-left.self (h.ports c.loop-left.host)) later) inv.base own in
    let all : c.args.fuel - c.loop-left.left + (c.loop-left.left - rest) ≡ c.args.fuel - rest = omega (arith, inv.few, c.turn-rest.ensures.less) in
    record {
      goes = subst (λ n. Goes bs rule n first later) all (goes_then bs rule inv.goes more);
      few = omega (arith, c.turn-rest.ensures.less, inv.few);
      runs = subst (λ o. IfSome o (RunsBody bs c.turn-rest.new.self)) c.in-Some.is (subst (λ b. IfSome c.turn-rest.result.1 (RunsBody b c.turn-rest.new.self)) inv.runs.bytes c.turn-rest.ensures.runs);
      base = c.turn-rest.ensures.base ∙ inv.base;
    }

-- so much fuel makes the steps that were made, where no more are made with what is left
made : (bs : List ℕ) (rule : TickRule) (fuel left : ℕ) (first later : World) → left ≤ fuel → Goes bs rule (fuel - left) first later → steps bs rule left later ≡ 0 → fuel - left ≡ steps bs rule fuel first
made bs rule fuel left first later few goes none =
    let whole : fuel - left + left ≡ fuel = omega (arith, few) in
    let counted : steps bs rule fuel first ≡ fuel - left + steps bs rule left later = ap (λ n. steps bs rule n first) (sym whole) ∙ goes.counts left in
    omega (arith, counted, none)

pub returns-clause-made : goal.returns-clause-made
unfolding world_of
returns-clause-made g c =
    let h = g.H.Host in
    let bs = module_of c.args.self.now in
    let rule = h.rule (h.base c.args.host.now) in
    let inv = c.loop-left.invariant in
    let fuel = c.args.fuel in
    let first = world_of c.args.self.now (h.ports c.args.host.now) in
    elim c.loop-left-test.branch [
      | else-loop-left-test w ↦
          let none : steps bs rule 0 (world_of c.loop-left.self (h.ports c.loop-left.host)) ≡ 0 = refl in
          let is_none : c.loop-left.left ≡ 0 = omega (arith, w.loop-left-test.false) in
          rw w.left-is (made bs rule fuel c.loop-left.left first _ inv.few inv.goes (rw is_none none))
      | then-loop-left-test+in_default-next w ↦
          let rest = w.turn-rest.result.0 in
          let later = world_of w.turn-rest.new.self (h.ports w.turn-rest.new.host) in
          let own = subst (λ b. Goes b (h.rule (h.base c.loop-left.host)) (c.loop-left.left - rest) (world_of c.loop-left.self (h.ports c.loop-left.host)) later) inv.runs.bytes w.turn-rest.ensures.goes in
          let more = subst (λ b. Goes bs (h.rule b) (c.loop-left.left - rest) (world_of c.loop-left.self (h.ports c.loop-left.host)) later) inv.base own in
          let all : fuel - c.loop-left.left + (c.loop-left.left - rest) ≡ fuel - rest = omega (arith, inv.few, w.turn-rest.ensures.less) in
          let goes = subst (λ n. Goes bs rule n first later) all (goes_then bs rule inv.goes more) in
          let stopped = subst (λ o. IfNone o ((world_of w.turn-rest.new.self []).phase ≢ running)) w.in_default-next.is w.turn-rest.ensures.stopped in
          let none = none_made bs rule rest later (other_phase _ (any_phase w.turn-rest.new.self [] (h.ports w.turn-rest.new.host) stopped)) in
          rw w.left-is (made bs rule fuel rest first later (omega (arith, inv.few, w.turn-rest.ensures.less)) goes none)
    ]

pub returns-clause-world : goal.returns-clause-world
unfolding world_of
returns-clause-world g c =
    let h = g.H.Host in
    let bs = module_of c.args.self.now in
    let rule = h.rule (h.base c.args.host.now) in
    let inv = c.loop-left.invariant in
    let fuel = c.args.fuel in
    let first = world_of c.args.self.now (h.ports c.args.host.now) in
    elim c.loop-left-test.branch [
      | else-loop-left-test w ↦
          (λ i. world_of (w.self-is i) (h.ports (w.host-is i))) ∙ sym inv.goes.reaches ∙ (λ i. advanced bs rule (fuel - sym w.left-is i) first)
      | then-loop-left-test+in_default-next w ↦
          let rest = w.turn-rest.result.0 in
          let later = world_of w.turn-rest.new.self (h.ports w.turn-rest.new.host) in
          let own = subst (λ b. Goes b (h.rule (h.base c.loop-left.host)) (c.loop-left.left - rest) (world_of c.loop-left.self (h.ports c.loop-left.host)) later) inv.runs.bytes w.turn-rest.ensures.goes in
          let more = subst (λ b. Goes bs (h.rule b) (c.loop-left.left - rest) (world_of c.loop-left.self (h.ports c.loop-left.host)) later) inv.base own in
          let all : fuel - c.loop-left.left + (c.loop-left.left - rest) ≡ fuel - rest = omega (arith, inv.few, w.turn-rest.ensures.less) in
          let goes = subst (λ n. Goes bs rule n first later) all (goes_then bs rule inv.goes more) in
          (λ i. world_of (w.self-is i) (h.ports (w.host-is i))) ∙ sym goes.reaches ∙ (λ i. advanced bs rule (fuel - sym w.left-is i) first)
    ]

pub returns-clause-spends : goal.returns-clause-spends
returns-clause-spends g c =
    let h = g.H.Host in
    let m = c.args.self.now in
    let foretold = any_ports (module_of m) m [] (h.ports c.args.host.now) (as_its_type_says m) in
    spent (module_of m) (h.rule (h.base c.args.host.now)) (never_stuck (module_of m) (accepts_checked m.checked)) foretold (returns-clause-made g c) (returns-clause-world g c)

pub returns-clause-bytes : goal.returns-clause-bytes
returns-clause-bytes g c =
    let inv = c.loop-left.invariant in
    elim c.loop-left-test.branch [
      | else-loop-left-test w ↦ ap module_of w.self-is ∙ inv.runs.upon
      | then-loop-left-test+in_default-next w ↦ ap module_of w.self-is ∙ w.turn-rest.ensures.bytes ∙ inv.runs.upon
    ]
