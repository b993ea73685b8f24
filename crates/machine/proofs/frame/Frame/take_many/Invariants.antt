use Rattle.std.proofs.Common.{◌≡◌, map, take}
use Rattle.machine.specs.Level.{level_of, value_of, still, given}
use Rattle.machine.proofs.frame.Frame.take_many.Given as goal

abbrev pub invariant-loop-k : goal.invariant-loop-k
invariant-loop-k l =
    level_of l.self ≡ still (level_of l.initial.self) (given (level_of l.initial.self).registers l.into (map value_of (take l.k l.results)))
