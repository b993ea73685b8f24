use Rattle.std.proofs.Common.{◌≡◌, ◌++◌, take}
use Rattle.machine.specs.Level.{level_of, still, as_variables}
use Rattle.machine.proofs.frame.Frame.push_many.Given as goal

abbrev pub invariant-loop-argument : goal.invariant-loop-argument
invariant-loop-argument l =
    level_of l.self ≡ still (level_of l.initial.self) ((level_of l.initial.self).registers ++ as_variables (take l.argument-index l.arguments))
