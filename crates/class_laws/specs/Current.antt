-- What holds of the rows with blocks in place of locations as refinement goes on.
use Rattle.std.specs.Prelude.{◌≡◌, ◌≢◌, ◌<◌, ℕ, suc, true, false, List, length}
use Rattle.diagrams.specs.declared.top.Id.{Id}
use Rattle.diagrams.specs.Tree.{Assignment}
use Rattle.diagrams.specs.Eval.{Diagrams, eval, id_at}
use Rattle.diagrams.specs.Live.{Keeps, Means}
use Rattle.automata.specs.Table.{Table, size_of, row_of, moves_of}
use Rattle.class_laws.specs.Divided.{IsDivided}
use Rattle.linked_blocks.specs.Lists.{Lists, holds, list_of, block_in, IsOnce, HoldEach}
use Rattle.class_laws.specs.Classes.{AreFull, IsPaid}
use Rattle.class_laws.specs.Shifts.{IsGroup}

-- in n the keys are the rows that locations have in s, with blocks in place of locations
abbrev pub AreRowsBy : Diagrams → Diagrams → Table → (ℕ → ℕ) → (ℕ → Id) → Type 0
AreRowsBy s n t block key = (at : ℕ) → at < size_of t → Means n (key at) (λ a. block (eval s (row_of t at) a))

-- each block has one row, and it is that of each location that isn't to be looked at again
pub record AreCurrent (n : Diagrams) (t : Table) (lists : List (List ℕ)) (rows : List Id) (touched : List ℕ) : Type 0 where
  pub long : length rows ≡ size_of t
  pub one : (i j : ℕ) → i < size_of t → j < size_of t → block_in lists i ≡ block_in lists j → id_at rows i ≡ id_at rows j
  pub right : (at : ℕ) → at < size_of t → holds touched at ≡ false → Means n (id_at rows at) (λ a. block_in lists (eval n (row_of t at) a))
  pub within : (at : ℕ) → holds touched at ≡ true → at < size_of t

-- those that changed are in no block with one of their key that didn't, and the others of a block have one key
pub record AreChanges (size : ℕ) (block : ℕ → ℕ) (key : ℕ → Id) (changed : List ℕ) : Type 0 where
  pub once : IsOnce changed
  pub within : (x : ℕ) → holds changed x ≡ true → x < size
  pub apart : (i j : ℕ) → holds changed i ≡ true → j < size → holds changed j ≡ false → block i ≡ block j → key i ≢ key j
  pub rest : (i j : ℕ) → i < size → j < size → holds changed i ≡ false → holds changed j ≡ false → block i ≡ block j → key i ≡ key j

-- the list has each location from which some letter leads to one of these
pub record LeadTo (n : Diagrams) (t : Table) (shifted found : List ℕ) : Type 0 where
  pub rest : (at : ℕ) → at < size_of t → holds found at ≡ false → (a : Assignment) → holds shifted (eval n (row_of t at) a) ≡ false
  pub within : (at : ℕ) → holds found at ≡ true → at < size_of t

-- what holds before each look
pub record IsRefining (s n : Diagrams) (t : Table) (blocks : Lists) (rows : List Id) (touched : List ℕ) : Type 0 where
  pub keeps : Keeps s n
  pub each : HoldEach (size_of t) blocks.lists
  pub full : AreFull blocks.lists
  pub paid : IsPaid (size_of t) blocks.lists blocks.moves
  pub words : ℕ
  pub divided : IsDivided s.props (moves_of s t) (suc words) (block_in blocks.lists)
  pub current : AreCurrent n t blocks.lists rows touched

-- groups of the changes, one for each block and key
pub record AreGroups (size : ℕ) (block : ℕ → ℕ) (key : ℕ → Id) (changed : List ℕ) (groups : List (List ℕ)) : Type 0 where
  pub each : (g : ℕ) → g < length groups → IsGroup size block key (list_of groups g)
  pub all : (x : ℕ) → holds changed x ≡ true → (g : ℕ) × (g < length groups) × (holds (list_of groups g) x ≡ true)
