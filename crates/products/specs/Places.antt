-- Pairs of locations, numbered when they are first met, and diagrams of their numbers.
use Rattle.std.specs.Prelude.{◌≡◌, ◌⊎◌, ◌≤◌, ◌^◌, ◌-◌, ℕ, Bool, List, length, slice_get, Some}
use Rattle.diagrams.specs.Tree.{Assignment}
use Rattle.diagrams.specs.Eval.{Diagrams, eval}
use Rattle.diagrams.specs.Live.{IsLive}
use Rattle.diagrams.specs.declared.top.Id.{Id}
use Rattle.products.specs.declared.places.Place.{Place}
use Rattle.products.specs.declared.places.Rows.{Rows}
use Rattle.products.specs.contracts.places.PlacePartialEq.TheImpl as place_eq
use Rattle.products.specs.contracts.places.RowsPartialEq.TheImpl as rows_eq

-- whether two places are the same
abbrev pub same_place : Place → Place → Bool
same_place = (place_eq.ghosts).eq

-- whether two pairs of rows are the same
abbrev pub same_rows : Rows → Rows → Bool
same_rows = (rows_eq.ghosts).eq

-- no place has two numbers, and there are not too many
pub record ArePlaces (places : List Place) : Type 0 where
  pub once : (i j : ℕ) (place : Place) → slice_get places i ≡ Some place → slice_get places j ≡ Some place → i ≡ j
  pub few : length places ≤ 2 ^ 32 - 2

-- each place keeps its number
abbrev pub Grows : List Place → List Place → Type 0
Grows old new = (i : ℕ) (place : Place) → slice_get old i ≡ Some place → slice_get new i ≡ Some place

-- each place that is new is a pair of values of two functions
abbrev pub AreMet : List Place → List Place → (Assignment → ℕ) → (Assignment → ℕ) → Type 0
AreMet old new f g = (i : ℕ) (place : Place) → slice_get new i ≡ Some place
    → (slice_get old i ≡ Some place) ⊎ ((a : Assignment) × (place ≡ record { left = f a; right = g a }))

-- the diagram gives the number of the pair of what two functions give
pub record IsPairing (s : Diagrams) (places : List Place) (f g : Assignment → ℕ) (id : Id) : Type 0 where
  pub live : IsLive s id
  pub value : (a : Assignment) → slice_get places (eval s id a) ≡ Some (record { left = f a; right = g a })

-- it is that of two live rows
pub record IsPaired (s : Diagrams) (places : List Place) (rows : Rows) (id : Id) : Type 0 where
  pub left : IsLive s rows.left
  pub right : IsLive s rows.right
  pub pairing : IsPairing s places (eval s rows.left) (eval s rows.right) id
