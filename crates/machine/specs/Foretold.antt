-- What the check foretold of a run, and that no step is ever without a rule.
use Rattle.std.specs.Prelude.{◌≡◌, ℕ, ◌-◌, ◌<◌, Bool, true, false, ◌&&◌, List, [], ◌∷◌, ◌++◌, length, replicate, Some, ◌==◌}
use Rattle.std.specs.List.{AllByRecursion}
use Rattle.host.specs.declared.port.Port.{Port}
use Rattle.module.specs.Contents.{image}
use Rattle.module.specs.Layout.{routines, count}
use Rattle.module.specs.Places.{inside}
use Rattle.module.specs.Rules.{same_shape}
use Rattle.module.specs.Shape.{shape}
use Rattle.machine.specs.Level.{Level, level}
use Rattle.machine.specs.World.{Phase, running, ended, tripped, World, world, shape_of, here, calls_routine, step}

-- memory when a run begins: the image, and then zeros
abbrev pub first_memory : List ℕ → List ℕ
first_memory bs = image bs ++ replicate (4096 - length (image bs)) 0

-- where a run begins: at instruction 0 of routine 0, with no registers
abbrev pub begun : List ℕ → List Port → World
begun bs ports = world running (level 0 0 [] ∷ []) (first_memory bs) ports

-- a routine stands at a place that there is, with the depth and the constants that the check foretold for it
pub record AsForetold (bs : List ℕ) (l : Level) : Type 0 where
  pub routine : l.routine < routines bs
  pub place : l.pc < count bs l.routine
  pub registers : shape_of l.registers ≡ shape bs l.routine l.pc

-- the same as a test
unfoldable pub is_foretold : List ℕ → Level → Bool
is_foretold bs l = inside bs l.routine l.pc && same_shape (shape_of l.registers) (shape bs l.routine l.pc)

-- it holds of each of these routines
unfoldable pub all_foretold : List ℕ → List Level → Bool
all_foretold bs [] = true
all_foretold bs (l ∷ ls) = is_foretold bs l && all_foretold bs ls

-- below routine r, each routine that waits stands at a call of the one above it, and the oldest is routine 0
unfoldable pub linked : List ℕ → ℕ → List Level → Bool
linked bs r [] = r == 0
linked bs r (g ∷ gs) = calls_routine r (here bs g) && linked bs g.routine gs

-- Nested routines, the running one first, are as the check foretold: there is a running one, each stands as foretold, and those
-- that wait are linked to it.
unfoldable pub levels_as_foretold : List ℕ → List Level → Bool
levels_as_foretold bs [] = false
levels_as_foretold bs (l ∷ ls) = all_foretold bs (l ∷ ls) && linked bs l.routine ls

-- they are so in this phase: while a machine runs and after a trip as above, and after the end no routine is left
unfoldable pub as_foretold_in : List ℕ → Phase → List Level → Bool
as_foretold_in bs running ls = levels_as_foretold bs ls
as_foretold_in bs ended [] = true
as_foretold_in bs ended (l ∷ ls) = false
as_foretold_in bs (tripped trip) ls = levels_as_foretold bs ls

-- A machine is as the check foretold.
unfoldable pub as_foretold : List ℕ → World → Bool
as_foretold bs w = as_foretold_in bs w.phase w.levels

-- A module never gets stuck: its runs begin as the check foretold; a running machine that is as foretold has a next step, and
-- is as foretold after it; and then every nested routine has the depth and the constants that the check foretold for its place.
pub record NeverStuck (bs : List ℕ) : Type 0 where
  pub begins : (ports : List Port) → as_foretold bs (begun bs ports) ≡ true
  pub goes_on : (rule : List Port → List Port) (w : World) → w.phase ≡ running → as_foretold bs w ≡ true →
      (v : World) × (step bs rule w ≡ Some v) × (as_foretold bs v ≡ true)
  pub foretold : (w : World) → as_foretold bs w ≡ true → AllByRecursion (AsForetold bs) w.levels
