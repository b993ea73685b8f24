-- The modules of the worked cases.
use Rattle.std.specs.Prelude.{◌≡◌, ℕ, ◌+◌, ◌*◌, ◌≤◌, List, [], ◌∷◌, map, length, Result}
use Rattle.refusal.specs.Values.{Values}
use Rattle.isa.specs.declared.instr.Instr.{Instr}
use Rattle.isa.specs.declared.instr.Instr.TheVariants.{New, Def, Load, Ret}
use Rattle.isa.specs.declared.instr.Width.TheVariants.{Four}
use Rattle.isa.specs.Form.{encoded}
use Rattle.module.specs.Layout.{routines}
use Rattle.module.specs.Verdict.{checking}
use Rattle.packing.specs.Packed.{packed}

-- the length of the header and the entries of a module
abbrev pub contents : List ℕ → ℕ
contents bs = 4 + 8 * routines bs

-- the sample, where the constant that it orders has these two low bytes
abbrev pub sample_ordering : ℕ → ℕ → List ℕ
sample_ordering low high =
    1 ∷ 0 ∷ 0 ∷ 0
    ∷ 12 ∷ 0 ∷ 0 ∷ 0 ∷ 6 ∷ 0 ∷ 0 ∷ 0
    ∷ 0 ∷ 0 ∷ 0 ∷ 0 ∷ 0 ∷ 0 ∷ 0 ∷ 0
    ∷ 1 ∷ 0 ∷ 0 ∷ 0 ∷ low ∷ high ∷ 0 ∷ 0
    ∷ 25 ∷ 0 ∷ 1 ∷ 0 ∷ 0 ∷ 0 ∷ 0 ∷ 0
    ∷ 26 ∷ 0 ∷ 0 ∷ 0 ∷ 0 ∷ 0 ∷ 0 ∷ 0
    ∷ 24 ∷ 0 ∷ 0 ∷ 2 ∷ 0 ∷ 0 ∷ 0 ∷ 0
    ∷ 23 ∷ 0 ∷ 0 ∷ 0 ∷ 0 ∷ 0 ∷ 0 ∷ 0
    ∷ []

-- the sample, which orders 1,200: the bytes B0 04
abbrev pub sample_bytes : List ℕ
sample_bytes = sample_ordering 176 4

-- the sample with its order raised to 4,000: the bytes A0 0F
abbrev pub raised_bytes : List ℕ
raised_bytes = sample_ordering 160 15

-- the module of one routine, which has these instructions, and of no image
abbrev pub program : List Instr → List ℕ
program xs = packed (record { count = length xs; arguments = 0; results = 0 } ∷ []) (map encoded xs) []

-- the instructions of a program that loads the four bytes at the address b + n
abbrev pub load_at : ℕ → ℕ → List Instr
load_at b n = Def b ∷ New ∷ Load Four 1 0 n ∷ Ret 0 ∷ []

-- what check answers of a program, over every sheet that is long enough
abbrev pub Checks : List Instr → Result (Unit {0}) Values → Type 0
Checks xs answer = (rows : ℕ) → length xs ≤ rows → checking (program xs) rows ≡ answer
