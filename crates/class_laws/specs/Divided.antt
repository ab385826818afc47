-- Blocks of locations that words divide.
use Rattle.std.specs.Prelude.{◌≡◌, ◌≢◌, ◌<◌, ℕ, length}
use Rattle.forms.specs.Word.{Word, IsOver}
use Rattle.automata.specs.Moves.{Moves, mark_after}

-- both have one mark after each word of fewer than k letters
abbrev pub AgreeWithin : ℕ → Moves → ℕ → ℕ → ℕ → Type 0
AgreeWithin p m k i j = (w : Word) → IsOver p w → length w < k → mark_after m i w ≡ mark_after m j w

-- some word of fewer than k letters leads from the two to different marks
pub record AreDistinguishedWithin (p : ℕ) (m : Moves) (k i j : ℕ) : Type 0 where
  pub word : Word
  pub over : IsOver p word
  pub short : length word < k
  pub differ : mark_after m i word ≢ mark_after m j word

-- locations are in one block exactly where they agree after all words of fewer than k letters
pub record IsDivided (p : ℕ) (m : Moves) (k : ℕ) (block : ℕ → ℕ) : Type 0 where
  pub same : (i j : ℕ) → i < m.size → j < m.size → block i ≡ block j → AgreeWithin p m k i j
  pub apart : (i j : ℕ) → i < m.size → j < m.size → block i ≢ block j → AreDistinguishedWithin p m k i j
