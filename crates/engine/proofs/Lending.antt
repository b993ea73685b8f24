-- What is lent, from a room that is full of it.
use Rattle.std.proofs.Common.{◌≡◌, ℕ, take, replicate, min, arith, ap, ◌∙◌, ⊎_elim}
use Rattle.std.proofs.lemmas.Bool.{cases_lt}
use Rattle.std.proofs.lemmas.List.{take-replicate, take_all, length-replicate}
use Rattle.engine.specs.Lent.{lent}

pub first_lent : {X : Type 0} (x : X) (most count : ℕ) → take count (replicate most x) ≡ lent x most count
first_lent x most count =
    ⊎_elim
    (λ less. let all : count ≡ min count most = omega arith in take-replicate count most x (omega arith) ∙ ap (λ n. replicate n x) all)
    (λ past. let all : most ≡ min count most = omega arith in take_all count (replicate most x) (omega (arith, length-replicate most x)) ∙ ap (λ n. replicate n x) all)
    (cases_lt count most)
