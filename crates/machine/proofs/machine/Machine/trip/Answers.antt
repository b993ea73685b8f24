use Rattle.std.proofs.Common.{sym}
use Rattle.faults.specs.Causes.{cause_of}
use Rattle.machine.specs.Parts.{levels_in}
use Rattle.machine.specs.View.{module_of, world_of}
use Rattle.machine.specs.World.{after, world, tripped, trip_at}
use Rattle.machine.proofs.Runs.{as_its_type_says, trip_foretold}
use Rattle.machine.proofs.machine.Machine.trip.Goals as goal

pub invariant_of-self : goal.invariant_of-self
invariant_of-self c =
    let m = c.args.self.now in
    record { foretold = trip_foretold (module_of m) m (as_its_type_says m) c.requires.running _ _ }

pub returns-clause-trips : goal.returns-clause-trips
unfolding world_of after
returns-clause-trips c = λ ports i.
    let m = c.args.self.now in
    world (tripped (trip_at (cause_of c.args.cause) (c.running-running.ensures i))) (levels_in (sym c.requires.running i) m.stack) m.memory.bytes ports
