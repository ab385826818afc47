-- What an automaton is that was made by its rows.
use Rattle.std.specs.Prelude.{◌≡◌, ◌-◌, ◌&&◌, ℕ, List, length, min, nat_lt, if◌then◌else◌, slice_get, Some}
use Rattle.diagrams.specs.Tree.{Assignment}
use Rattle.diagrams.specs.Eval.{Diagrams}
use Rattle.diagrams.specs.Live.{Means}
use Rattle.automata.specs.Table.{Table, mark_of, row_of}
use Rattle.test_support.specs.declared.building.Location.{Location}

-- the location to which a row leads: `hi` where there is such a proposition and it is true, else `lo`, and none past the last
abbrev pub target_at : ℕ → ℕ → ℕ → ℕ → ℕ → Assignment → ℕ
target_at props last var lo hi a = min (if nat_lt var props && a var then hi else lo) last

-- this location of the automaton has the mark and the row that were given
pub record IsLocation (s : Diagrams) (t : Table) (last at : ℕ) (given : Location) : Type 0 where
  pub mark : mark_of t at ≡ given.0
  pub row : Means s (row_of t at) (target_at s.props last given.1 given.2 given.3)

-- the automaton has the first location and the locations that were given, in their order
pub record IsBuilt (s : Diagrams) (start : ℕ) (table : List Location) (t : Table) : Type 0 where
  pub first : t.first ≡ min start (length table - 1)
  pub locations : (at : ℕ) (given : Location) → slice_get table at ≡ Some given → IsLocation s t (length table - 1) at given
