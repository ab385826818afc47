-- The number that variables spell in an assignment.
use Rattle.std.specs.Prelude.{ℕ}
use Rattle.diagrams.specs.Tree.{Assignment}
use Rattle.diagrams.specs.Picked.{number_of}

-- the number of so many variables from v on, the first with the greatest weight
abbrev pub number_at : Assignment → ℕ → ℕ → ℕ
number_at a v n = number_of a n v
