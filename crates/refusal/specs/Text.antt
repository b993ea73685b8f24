-- How a refusal is printed.
use Rattle.std.specs.Prelude.{ℕ, List, ◌++◌, codes, decimal}
use Rattle.refusal.specs.Values.{Values}

-- three numbers, each after a space
abbrev pub three : ℕ → ℕ → ℕ → List ℕ
three x y z = codes " " ++ (decimal x ++ (codes " " ++ (decimal y ++ (codes " " ++ decimal z))))

-- `refused` with the number and the place, byte by byte
abbrev pub refused : Values → List ℕ
refused e = codes "refused" ++ three e.number e.routine e.instruction
