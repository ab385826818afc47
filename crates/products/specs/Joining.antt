-- A join as it is made: places found, and a mark and a row for the first of them.
use Rattle.std.specs.Prelude.{◌≡◌, ◌⊎◌, ◌<◌, ◌≤◌, ℕ, List, length, slice_get, slice_index, Some, max, true, false}
use Rattle.diagrams.specs.Eval.{Diagrams, eval, id_at}
use Rattle.diagrams.specs.Live.{Means}
use Rattle.diagrams.specs.declared.top.Id.{Id}
use Rattle.automata.specs.Table.{Table, size_of, mark_of, row_of}
use Rattle.products.specs.declared.places.Place.{Place}
use Rattle.products.specs.Places.{ArePlaces, IsPairing}
use Rattle.products.specs.Joins.{is_end}

-- the place stands for locations of the two automata
abbrev pub IsWithin : Table → Table → Place → Type 0
IsWithin a b place = (place.left < size_of a) × (place.right < size_of b)

-- the mark of a place: the greater of the two
abbrev pub mark_at : Table → Table → Place → ℕ
mark_at a b place = max (mark_of a place.left) (mark_of b place.right)

-- the row of the place with number `at`: to itself where it is an end, else where the two rows lead
pub record IsJoinRow (s : Diagrams) (a b : Table) (places : List Place) (place : Place) (at : ℕ) (id : Id) : Type 0 where
  pub ends : is_end (mark_at a b place) ≡ true → Means s id (λ _. at)
  pub goes : is_end (mark_at a b place) ≡ false → IsPairing s places (eval s (row_of a place.left)) (eval s (row_of b place.right)) id

-- each new place stands for locations
abbrev pub AreNewWithin : Table → Table → List Place → List Place → Type 0
AreNewWithin a b old new = (i : ℕ) (place : Place) → slice_get new i ≡ Some place → (slice_get old i ≡ Some place) ⊎ IsWithin a b place

-- the first place stands for the first locations, each for locations, and the first so many have their marks and rows
pub record IsJoining (s : Diagrams) (a b : Table) (places : List Place) (marks : List ℕ) (rows : List Id) : Type 0 where
  pub distinct : ArePlaces places
  pub first : slice_get places 0 ≡ Some (record { left = a.first; right = b.first })
  pub within : (i : ℕ) (place : Place) → slice_get places i ≡ Some place → IsWithin a b place
  pub same : length marks ≡ length rows
  pub few : length rows ≤ length places
  pub mark : (i : ℕ) (place : Place) → i < length rows → slice_get places i ≡ Some place → slice_index marks i ≡ mark_at a b place
  pub row : (i : ℕ) (place : Place) → i < length rows → slice_get places i ≡ Some place → IsJoinRow s a b places place i (id_at rows i)
