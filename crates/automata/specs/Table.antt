-- What contracts see of an automaton, and what it is to fit a store.
use Rattle.std.specs.Prelude.{◌≡◌, ◌<◌, ℕ, List, length, slice_index, slice_index_or}
use Rattle.forms.specs.Word.{Word, IsOver}
use Rattle.forms.specs.Tree.{Formula}
use Rattle.forms.specs.Satisfaction.{sat}
use Rattle.diagrams.specs.declared.top.Id.{Id}
use Rattle.diagrams.specs.Tree.{Assignment}
use Rattle.diagrams.specs.Eval.{Diagrams, eval, DependsOn, letter_truth}
use Rattle.diagrams.specs.Live.{IsLive}
use Rattle.automata.specs.Moves.{Moves, accepts}

-- the first location, and each location's mark and row
pub record Table : Type 0 where
  pub first : ℕ
  pub marks : List ℕ
  pub rows : List Id

-- how many locations there are
abbrev pub size_of : Table → ℕ
size_of t = length t.rows

-- the mark of a location
abbrev pub mark_of : Table → ℕ → ℕ
mark_of t at = slice_index t.marks at

-- the row of a location
abbrev pub row_of : Table → ℕ → Id
row_of t at = slice_index_or t.rows at (record { 0 = 0 })

-- the row is live, depends on propositions alone, and leads to locations
pub record IsRow (s : Diagrams) (size : ℕ) (row : Id) : Type 0 where
  pub live : IsLive s row
  pub letters : DependsOn s row (λ v. v < s.props)
  pub targets : (a : Assignment) → eval s row a < size

-- the automaton fits the store
abbrev pub Fits : Diagrams → Table → Type 0
Fits s t = (at : ℕ) → at < size_of t → IsRow s (size_of t) (row_of t at)

-- the next location: what the row says at the letter
abbrev pub next_of : Diagrams → Table → ℕ → ℕ → ℕ
next_of s t at letter = eval s (row_of t at) (letter_truth s.props letter)

-- what the automaton does, over the store
abbrev pub moves_of : Diagrams → Table → Moves
moves_of s t = record { size = size_of t; first = t.first; mark = mark_of t; next = next_of s t }

-- the automaton fits the store, and accepts a word over its propositions exactly where the formula holds at its front
pub record IsMeant (s : Diagrams) (t : Table) (f : Formula) : Type 0 where
  pub fits : Fits s t
  pub same : (w : Word) → IsOver s.props w → accepts (moves_of s t) w ≡ sat s.props f w
