-- Trees below a decision, as the rounds of the decision on a board.
use Rattle.std.specs.Prelude.{◌≡◌, ◌<◌, ◌≤◌, ◌-◌, ◌+◌, ℕ, List, slice_index, Option, Some, None}
use Rattle.diagrams.specs.Tree.{Assignment, Tree, value_at}
use Rattle.game.specs.Board.{Mover, Agent, Environment, Partition, Board, IsRound}
use Rattle.choosing.specs.Numbers.{number_at}
use Rattle.choosing.specs.Chosen.{no_number}

-- the variables of a decision end here: agent first it has none, environment first the inputs
abbrev pub from_of : Mover → ℕ → ℕ
from_of Agent inputs = 0
from_of Environment inputs = inputs

-- and here those of the outputs
abbrev pub to_of : Mover → ℕ → ℕ → ℕ
to_of Agent inputs outputs = outputs
to_of Environment inputs outputs = inputs + outputs

-- The tree stands below the decision: each assignment is a round with it, whose output is the number of the variables from
-- `from` to before `to`, and each round is one; the value is the number of the place that the round leads to, or so many as there
-- are places where it is illegal.
pub record StandsBelow {s : Partition} (b : Board s) (h : b.Place) (x from to size : ℕ) (place : ℕ → b.Place) (t : Tree) : Type 0 where
  pub width : to - from ≡ s.outputs
  pub letter : Assignment → ℕ
  pub round : (a : Assignment) → IsRound s x (number_at a from (to - from)) (letter a)
  pub each : (y r : ℕ) → IsRound s x y r → (a : Assignment) × (letter a ≡ r)
  pub within : (a : Assignment) → value_at t a ≤ size
  pub legal : (a : Assignment) → value_at t a < size → b.IsLegal h (letter a)
  pub illegal : (a : Assignment) → ¬ (value_at t a < size) → ¬ b.IsLegal h (letter a)
  pub leads : (a : Assignment) → value_at t a < size → b.after h (letter a) ≡ place (value_at t a)

-- a number, or what stands for none
abbrev pub code : Option ℕ → ℕ
code None = no_number
code (Some n) = n

-- the list has the numbers of places, and one more for illegal rounds
pub record IsTable {s : Partition} (b : Board s) (number : b.Place → Option ℕ) (place : ℕ → b.Place) (size illegal : ℕ) (values : List ℕ) : Type 0 where
  pub item : (v : ℕ) → v < size → slice_index values v ≡ code (number (place v))
  pub past : slice_index values size ≡ illegal
  pub small : (v n : ℕ) → v < size → number (place v) ≡ Some n → n < no_number
