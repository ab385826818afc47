-- The numbering of locations by their least words in shortlex order.
use Rattle.std.specs.Prelude.{◌≡◌, ◌<◌, ℕ, true, false}
use Rattle.forms.specs.Word.{Word, IsOver}
use Rattle.forms.specs.Shortlex.{comes_before}
use Rattle.automata.specs.Moves.{Moves, location_after}

-- the word leads to the location, and no word that comes before it does
pub record IsLeastWord (p : ℕ) (m : Moves) (at : ℕ) (w : Word) : Type 0 where
  pub over : IsOver p w
  pub leads : location_after m m.first w ≡ at
  pub least : (v : Word) → IsOver p v → location_after m m.first v ≡ at → comes_before v w ≡ false

-- each location is reached, and of two locations the lower has the least word that comes first
pub record IsNumbered (p : ℕ) (m : Moves) : Type 0 where
  pub word : ℕ → Word
  pub least : (at : ℕ) → at < m.size → IsLeastWord p m at (word at)
  pub order : (i j : ℕ) → i < j → j < m.size → comes_before (word i) (word j) ≡ true
