-- Which locations lead to a location.
use Rattle.std.specs.Prelude.{◌≡◌, ◌<◌, ◌⊎◌, ℕ, true, List, length}
use Rattle.std.specs.List.{flat_map}
use Rattle.diagrams.specs.Tree.{Assignment}
use Rattle.diagrams.specs.Eval.{Diagrams, eval}
use Rattle.automata.specs.Table.{Table, size_of, row_of}
use Rattle.linked_blocks.specs.Lists.{holds, list_of}

-- the list of each location has the locations that lead to it, and those alone
pub record HavePredecessors (s : Diagrams) (t : Table) (lists : List (List ℕ)) : Type 0 where
  pub all : (at : ℕ) → at < size_of t → (a : Assignment) → holds (list_of lists (eval s (row_of t at) a)) at ≡ true
  pub led : (target at : ℕ) → holds (list_of lists target) at ≡ true → (a : Assignment) × (eval s (row_of t at) a ≡ target)
  pub within : (target at : ℕ) → holds (list_of lists target) at ≡ true → at < size_of t

-- the lists of these locations, one after another
abbrev pub leaders : List (List ℕ) → List ℕ → List ℕ
leaders lists xs = flat_map (list_of lists) xs

-- the lists of these targets have one location more, and nothing else is new
pub record IsAdded (old new : List (List ℕ)) (targets : List ℕ) (at : ℕ) : Type 0 where
  pub long : length new ≡ length old
  pub kept : (x y : ℕ) → holds (list_of old x) y ≡ true → holds (list_of new x) y ≡ true
  pub added : (x : ℕ) → holds targets x ≡ true → holds (list_of new x) at ≡ true
  pub only : (x y : ℕ) → holds (list_of new x) y ≡ true → (holds (list_of old x) y ≡ true) ⊎ ((y ≡ at) × (holds targets x ≡ true))
