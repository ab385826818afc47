-- Classes of locations.
use Rattle.std.specs.Prelude.{◌≡◌, ◌↔◌, ◌<◌, ◌≤◌, ◌+◌, ◌*◌, ◌^◌, ℕ, zero, suc, List, length}
use Rattle.forms.specs.Word.{Word, IsOver}
use Rattle.automata.specs.Moves.{Moves, mark_after}
use Rattle.linked_blocks.specs.Lists.{list_of, block_in}

-- two locations share a block exactly where no word leads them to different marks
abbrev pub AreClasses : ℕ → Moves → (ℕ → ℕ) → Type 0
AreClasses p m block = (i j : ℕ) → i < m.size → j < m.size
    → (block i ≡ block j) ↔ ((w : Word) → IsOver p w → mark_after m i w ≡ mark_after m j w)

-- no block is empty
abbrev pub AreFull : List (List ℕ) → Type 0
AreFull lists = (b : ℕ) → b < length lists → 0 < length (list_of lists b)

-- the sum of f over the first n numbers
abbrev pub sum_to : ℕ → (ℕ → ℕ) → ℕ
sum_to zero f = 0
sum_to (suc n) f = sum_to n f + f n

-- each location that moved so often stands in a block as many times halved
pub record IsPaid (size : ℕ) (lists : List (List ℕ)) (moves : ℕ) : Type 0 where
  pub cost : ℕ → ℕ
  pub small : (x : ℕ) → x < size → length (list_of lists (block_in lists x)) * 2 ^ cost x ≤ size
  pub sum : moves ≤ sum_to size cost

-- at most as many moves as there are locations, times the number of binary digits of that number
abbrev pub HasFewMoves : ℕ → ℕ → Type 0
HasFewMoves size moves = (d : ℕ) → size < 2 ^ d → moves ≤ size * d
