-- The nested routines of a stack.
use Rattle.std.specs.Prelude.{ℕ, zero, suc, List, [], ◌∷◌, map, slice_index_or}
use Rattle.machine.specs.declared.frame.Frame.{Frame}
use Rattle.machine.specs.declared.stack.Stack.{Stack}
use Rattle.machine.specs.Level.{Level, level, level_of}

-- what the definitions read where there is no routine
abbrev pub no_routine : Level
no_routine = level 0 0 []

-- the routine of frame k
abbrev pub level_at : List Frame → ℕ → Level
level_at frames k = slice_index_or (map level_of frames) k no_routine

-- the routines of the first n frames, the newest first
abbrev pub below : List Frame → ℕ → List Level
below frames zero = []
below frames (suc n) = level_at frames n ∷ below frames n

unfoldable pub running_routine : Stack → Level
running_routine stack = level_at stack.frames stack.top.index

-- those that wait, the newest first
unfoldable pub waiting : Stack → List Level
waiting stack = below stack.frames stack.top.index

-- the newest of routines, of which it stands first
abbrev pub newest_of : List Level → Level
newest_of levels = slice_index_or levels 0 no_routine
