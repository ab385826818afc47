-- The marks after words, from each location.
use Rattle.std.specs.Prelude.{◌≡◌, ◌<◌, ℕ, List, [], length, slice_index, slice_index_or}
use Rattle.forms.specs.Word.{Word}
use Rattle.automata.specs.Moves.{Moves, mark_after}

-- the marks after one word
pub record IsColumn (m : Moves) (w : Word) (column : List ℕ) : Type 0 where
  pub size : length column ≡ m.size
  pub mark : (at : ℕ) → at < m.size → slice_index column at ≡ mark_after m at w

-- a column for each word
pub record AreColumns (m : Moves) (words : List Word) (columns : List (List ℕ)) : Type 0 where
  pub size : length columns ≡ length words
  pub column : (k : ℕ) → k < length words → IsColumn m (slice_index_or words k []) (slice_index_or columns k [])

-- the mark of a location in the column at a place
abbrev pub mark_in : List (List ℕ) → ℕ → ℕ → ℕ
mark_in columns k at = slice_index (slice_index_or columns k []) at
