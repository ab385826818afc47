-- A search breadth first from the first location, and the list of what it finds.
use Rattle.std.specs.Prelude.{◌≡◌, ◌≢◌, ◌<◌, ◌≤◌, ◌^◌, ◌⊎◌, ◌++◌, ◌-◌, ℕ, List, [], ◌∷◌, true, false, length, slice_index, slice_index_or}
use Rattle.forms.specs.Word.{Word, IsOver}
use Rattle.forms.specs.Shortlex.{comes_before}
use Rattle.diagrams.specs.declared.top.Id.{Id}
use Rattle.diagrams.specs.Eval.{Diagrams, eval}
use Rattle.diagrams.specs.Live.{Means}
use Rattle.automata.specs.Moves.{Moves, location_after}
use Rattle.automata.specs.Table.{Table, mark_of, row_of}

-- the location was found by the word
pub record IsFound (p : ℕ) (m : Moves) (at : ℕ) (w : Word) : Type 0 where
  pub over : IsOver p w
  pub leads : location_after m m.first w ≡ at

-- the target of the k-th location and the letter a was found, by a word that comes no later than this way to it
pub record IsTargetFound (p : ℕ) (m : Moves) (found : ℕ → ℕ) (word : ℕ → Word) (count k a : ℕ) : Type 0 where
  pub place : ℕ
  pub within : place < count
  pub target : found place ≡ m.next (found k) a
  pub early : comes_before (word k ++ a ∷ []) (word place) ≡ false

-- count locations were found, the first by the empty word, and the targets of the first `done` of them
pub record IsSearched (p : ℕ) (m : Moves) (found : ℕ → ℕ) (word : ℕ → Word) (count done : ℕ) : Type 0 where
  pub some : 0 < count
  pub start : found 0 ≡ m.first
  pub empty : word 0 ≡ []
  pub finds : (k : ℕ) → k < count → IsFound p m (found k) (word k)
  pub order : (i j : ℕ) → i < j → j < count → comes_before (word i) (word j) ≡ true
  pub once : (i j : ℕ) → i < count → j < count → found i ≡ found j → i ≡ j
  pub targets : (k a : ℕ) → k < done → a < 2 ^ p → IsTargetFound p m found word count k a

-- the targets of the first k locations are found, and each word so far comes before what the others lead to
pub record IsSearching (p : ℕ) (m : Moves) (found : ℕ → ℕ) (word : ℕ → Word) (count k : ℕ) : Type 0 where
  pub searched : IsSearched p m found word count k
  pub earlier : (i at a : ℕ) → i < count → k ≤ at → at < count → comes_before (word i) (word at ++ a ∷ []) ≡ true

-- a search found these locations, and all targets of the first k of them
pub record HasFound (p : ℕ) (m : Moves) (found : List ℕ) (k : ℕ) : Type 0 where
  pub word : ℕ → Word
  pub searching : IsSearching p m (slice_index found) word (length found) k

-- no place in a list
abbrev pub nowhere : ℕ
nowhere = 2 ^ 32 - 1

-- for each location its place among those found, or nowhere
pub record ArePlaces (found places : List ℕ) : Type 0 where
  pub few : length places < nowhere
  pub within : (i : ℕ) → i < length found → slice_index found i < length places
  pub place : (i : ℕ) → i < length found → slice_index places (slice_index found i) ≡ i
  pub back : (at : ℕ) → at < length places → slice_index places at ≢ nowhere
      → (slice_index places at < length found) × (slice_index found (slice_index places at) ≡ at)

-- the location was in the list, or stands at its end now
abbrev pub IsNoted : List ℕ → List ℕ → ℕ → Type 0
IsNoted old new at = ((new ≡ old) × ((i : ℕ) × (i < length old) × (slice_index old i ≡ at)))
    ⊎ ((new ≡ old ++ at ∷ []) × ((i : ℕ) → i < length old → slice_index old i ≢ at))

-- the marks of the found locations, in the order in which they are found
pub record AreMarks (t : Table) (found marks : List ℕ) (count : ℕ) : Type 0 where
  pub length : length marks ≡ count
  pub mark : (k : ℕ) → k < count → slice_index marks k ≡ mark_of t (slice_index found k)

-- in n the rows that the found locations have in s, with places instead of locations
pub record AreRows (s n : Diagrams) (t : Table) (found places : List ℕ) (rows : List Id) (count : ℕ) : Type 0 where
  pub length : length rows ≡ count
  pub row : (k : ℕ) → k < count → Means n (slice_index_or rows k (record { 0 = 0 })) (λ a. slice_index places (eval s (row_of t (slice_index found k)) a))
