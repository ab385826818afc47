-- Arenas as contracts see them, and as they are made.
use Rattle.std.specs.Prelude.{◌≡◌, ◌<◌, ◌+◌, ◌==◌, ℕ, Bool, true, false, List, length, slice_index, slice_index_or}
use Rattle.diagrams.specs.declared.top.Id.{Id}
use Rattle.diagrams.specs.Tree.{Assignment}
use Rattle.diagrams.specs.Eval.{Diagrams, eval, letter_truth, id_at}
use Rattle.diagrams.specs.Live.{Means}
use Rattle.automata.specs.Table.{Table, mark_of, row_of, IsRow}
use Rattle.game.specs.Board.{Partition}
use Rattle.game.specs.Arena.{Locations}
use Rattle.arena.specs.Numbered.{live_below}

-- who moves how, whether there is a duty, and of each location whether it meets the goal, whether it has broken the duty, and its
-- row
pub record ArenaTable : Type 0 where
  pub partition : Partition
  pub has_duty : Bool
  pub goals : List Bool
  pub broken : List Bool
  pub rows : List Id

-- whether a location meets the goal, and whether it has broken the duty
abbrev pub is_goal_at : ArenaTable → ℕ → Bool
is_goal_at t at = slice_index_or t.goals at false

abbrev pub is_broken_at : ArenaTable → ℕ → Bool
is_broken_at t at = slice_index_or t.broken at false

-- what the arena does, over the store
abbrev pub locations_of : Diagrams → ArenaTable → Locations
locations_of s t = record {
  size = length t.rows;
  next = λ at a. eval s (id_at t.rows at) (letter_truth s.props a);
  is_goal = is_goal_at t;
  is_broken = is_broken_at t;
}

-- Each row is live, depends on propositions alone, and leads to locations, or to their number where the round is illegal;
-- that of a location that meets the goal leads to itself.
pub record FitsArena (s : Diagrams) (t : ArenaTable) : Type 0 where
  pub rows : (at : ℕ) → at < length t.rows → IsRow s (length t.rows + 1) (id_at t.rows at)
  pub rests : (at : ℕ) → at < length t.rows → is_goal_at t at ≡ true → (a : Assignment) → eval s (id_at t.rows at) a ≡ at

-- the row of a location that is left: to itself where its mark is 1, else to the table's items
pub record IsLeftRow (s n : Diagrams) (table : List ℕ) (row : Id) (mark own : ℕ) (id : Id) : Type 0 where
  pub rests : (mark == 1) ≡ true → Means n id (λ _. own)
  pub goes : (mark == 1) ≡ false → Means n id (λ a. slice_index table (eval s row a))

-- of the first so many locations those with a mark below 3 have their rows, and whether their marks are 1 or 2
pub record AreLeft (s n : Diagrams) (t : Table) (table : List ℕ) (goals broken : List Bool) (rows : List Id) (count : ℕ) : Type 0 where
  pub goals_count : length goals ≡ live_below (mark_of t) count
  pub broken_count : length broken ≡ live_below (mark_of t) count
  pub rows_count : length rows ≡ live_below (mark_of t) count
  pub goal : (at : ℕ) → at < count → mark_of t at < 3 → slice_index_or goals (live_below (mark_of t) at) false ≡ (mark_of t at == 1)
  pub broke : (at : ℕ) → at < count → mark_of t at < 3 → slice_index_or broken (live_below (mark_of t) at) false ≡ (mark_of t at == 2)
  pub row : (at : ℕ) → at < count → mark_of t at < 3 → IsLeftRow s n table (row_of t at) (mark_of t at) (live_below (mark_of t) at) (id_at rows (live_below (mark_of t) at))
