-- Blocks of locations with one mark and one relabelled row, each named by its first location, and the locations to which rows lead.
use Rattle.std.specs.Prelude.{◌≡◌, ◌<◌, ◌≤◌, ℕ, Bool, List, [], Contains, length, slice_index, slice_index_or}
use Rattle.diagrams.specs.declared.top.Id.{Id}
use Rattle.diagrams.specs.Tree.{Assignment}
use Rattle.diagrams.specs.Eval.{Diagrams, eval, id_at}
use Rattle.diagrams.specs.Live.{Means}
use Rattle.automata.specs.Table.{Table, size_of, mark_of, row_of}
use Rattle.dividing.specs.declared.divisions.Key.{Key}
use Rattle.dividing.specs.contracts.divisions.KeyPartialEq.TheImpl as key_eq

-- whether two keys are the same
abbrev pub same_key : Key → Key → Bool
same_key = (key_eq.ghosts).eq

-- in n the id is the row that the location has in s, with blocks in place of locations
abbrev pub IsRelabelled : Diagrams → Diagrams → Table → List ℕ → ℕ → Id → Type 0
IsRelabelled s n t blocks at id = Means n id (λ a. slice_index blocks (eval s (row_of t at) a))

-- in n the rows that so many locations have in s, with blocks in place of locations
pub record AreBlockRows (s n : Diagrams) (t : Table) (blocks : List ℕ) (rows : List Id) (count : ℕ) : Type 0 where
  pub size : length rows ≡ count
  pub row : (at : ℕ) → at < count → IsRelabelled s n t blocks at (id_at rows at)

-- two locations have one mark, and one row in a list
abbrev pub HaveOneKey : Table → List Id → ℕ → ℕ → Type 0
HaveOneKey t rows i j = (mark_of t i ≡ mark_of t j) × (id_at rows i ≡ id_at rows j)

-- locations with one mark and one row are in one block, whose name is its first location
pub record IsDivision (t : Table) (rows : List Id) (blocks : List ℕ) : Type 0 where
  pub size : length blocks ≡ size_of t
  pub low : (at : ℕ) → at < size_of t → slice_index blocks at ≤ at
  pub key : (at : ℕ) → at < size_of t → HaveOneKey t rows (slice_index blocks at) at
  pub one : (i j : ℕ) → i < size_of t → j < size_of t → HaveOneKey t rows i j → slice_index blocks i ≡ slice_index blocks j

-- the list has each location to which f leads, and those alone; they are before size
pub record AreTargets (s : Diagrams) (size : ℕ) (f : Id) (xs : List ℕ) : Type 0 where
  pub all : (a : Assignment) → Contains xs (eval s f a)
  pub led : (k : ℕ) → k < length xs → (a : Assignment) × (eval s f a ≡ slice_index xs k)
  pub within : (k : ℕ) → k < length xs → slice_index xs k < size

-- the list of one location
abbrev pub targets_at : List (List ℕ) → ℕ → List ℕ
targets_at lists at = slice_index_or lists at []

-- a list for each location
abbrev pub HaveTargets : Diagrams → Table → List (List ℕ) → Type 0
HaveTargets s t lists = (at : ℕ) → at < size_of t → AreTargets s (size_of t) (row_of t at) (targets_at lists at)

-- each listed location has the block that it had
abbrev pub HaveStayed : List ℕ → List ℕ → List ℕ → Type 0
HaveStayed locations old new = (k : ℕ) → k < length locations
    → slice_index old (slice_index locations k) ≡ slice_index new (slice_index locations k)
