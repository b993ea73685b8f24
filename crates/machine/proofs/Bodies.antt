-- Bodies of routines.
use Rattle.std.proofs.Common.{◌≡◌, ℕ, ◌<◌, ◌≤◌, List, Some, None, Option, refl, arith}
use Rattle.std.specs.Option.{IsSome}
use Rattle.std.specs.Prelude.{MatchOption}
use Rattle.module.specs.declared.body.Body.{Body}
use Rattle.module.specs.Layout.{routines}
use Rattle.module.specs.Told.{bytes_behind, routine_of}

-- what is answered for the body of routine r
abbrev pub Answered : List ℕ → ℕ → Option Body → Type 0
Answered bs r o = MatchOption o (routines bs ≤ r) (λ t. (bytes_behind t ≡ bs) × (routine_of t ≡ r))

-- a routine that there is has one
pub has_body : (bs : List ℕ) (r : ℕ) (o : Option Body) → Answered bs r o → r < routines bs → IsSome o
has_body bs r None h lt = absurd (omega (arith, h, lt))
has_body bs r (Some t) h lt = refl
