-- Automata that stay at their ends, as they are made.
use Rattle.std.specs.Prelude.{◌≡◌, ◌<◌, ℕ, List, length, slice_index, true, false}
use Rattle.diagrams.specs.Eval.{Diagrams, id_at}
use Rattle.diagrams.specs.Live.{Means}
use Rattle.diagrams.specs.declared.top.Id.{Id}
use Rattle.automata.specs.Table.{Table, size_of, mark_of, row_of}
use Rattle.products.specs.Joins.{is_end}

-- one location alone, with the mark 0
pub record IsIdle (t : Table) : Type 0 where
  pub size : size_of t ≡ 1
  pub mark : mark_of t 0 ≡ 0

-- the row of a location: to itself where its mark is an end, else its own
pub record IsStoppedRow (s : Diagrams) (t : Table) (at : ℕ) (id : Id) : Type 0 where
  pub ends : is_end (mark_of t at) ≡ true → Means s id (λ _. at)
  pub goes : is_end (mark_of t at) ≡ false → id ≡ row_of t at

-- the first so many locations have their marks, and such rows
pub record AreStopped (s : Diagrams) (t : Table) (marks : List ℕ) (rows : List Id) (count : ℕ) : Type 0 where
  pub marks_count : length marks ≡ count
  pub rows_count : length rows ≡ count
  pub mark : (at : ℕ) → at < count → slice_index marks at ≡ mark_of t at
  pub row : (at : ℕ) → at < count → IsStoppedRow s t at (id_at rows at)
