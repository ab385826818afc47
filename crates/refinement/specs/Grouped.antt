-- Locations that are put into lists by their keys.
use Rattle.std.specs.Prelude.{◌≡◌, ◌<◌, ℕ, Bool, true, List, Some, length, slice_get}
use Rattle.diagrams.specs.declared.top.Id.{Id}
use Rattle.linked_blocks.specs.Lists.{holds, list_of, IsOnce}
use Rattle.refinement.specs.declared.groups.Key.{Key}
use Rattle.refinement.specs.contracts.groups.KeyPartialEq.TheImpl as key_eq

-- whether two keys are the same
abbrev pub same_key : Key → Key → Bool
same_key = (key_eq.ghosts).eq

-- the locations seen so far are in lists, one for each different key
pub record AreGrouped (block : ℕ → ℕ) (row : ℕ → Id) (seen : List ℕ) (kinds : List Key) (groups : List (List ℕ)) : Type 0 where
  pub long : length groups ≡ length kinds
  pub apart : (a b : ℕ) (k : Key) → slice_get kinds a ≡ Some k → slice_get kinds b ≡ Some k → a ≡ b
  pub some : (g : ℕ) → g < length groups → 0 < length (list_of groups g)
  pub once : (g : ℕ) → g < length groups → IsOnce (list_of groups g)
  pub mine : (g x : ℕ) → g < length groups → holds (list_of groups g) x ≡ true → (holds seen x ≡ true) × (slice_get kinds g ≡ Some (record { block = block x; row = row x }))
  pub all : (x : ℕ) → holds seen x ≡ true → (g : ℕ) × (g < length groups) × (holds (list_of groups g) x ≡ true)
