-- Marks of locations by their numbers, and the numbers as tables.
use Rattle.std.specs.Prelude.{◌≡◌, ◌<◌, ◌+◌, ℕ, Bool, true, false, List, length, slice_index, slice_index_or, Option, Some, None, is_some}
use Rattle.choosing.specs.declared.choice.Mark.{Mark}
use Rattle.choosing.specs.declared.choice.Mark.TheVariants.{Goal, Win, Pending, Lost, Held, LostIn}
use Rattle.choosing.specs.declared.choice.Tables.{Tables}
use Rattle.choosing.specs.Chosen.{no_number}
use Rattle.choosing.specs.Rounds.{code}
use Rattle.strategy.specs.declared.marks.Numbers.{Numbers}

-- the number of a location, where it has one
abbrev pub number_in : List (Option ℕ) → ℕ → Option ℕ
number_in numbers at = slice_index_or numbers at None

-- where there is no list, no location has a number
abbrev pub loss_in : Numbers → ℕ → Option ℕ
loss_in numbers at = elim numbers.losses [ None ↦ None | Some losses ↦ number_in losses.items at ]

-- whether there is a duty
abbrev pub has_losses : Numbers → Bool
has_losses numbers = is_some numbers.losses

abbrev pub goal_in : List Bool → ℕ → Bool
goal_in goals at = slice_index_or goals at false

-- each number is below what stands for none
abbrev pub AreSmall : (ℕ → Option ℕ) → ℕ → Type 0
AreSmall number size = (at n : ℕ) → at < size → number at ≡ Some n → n < no_number

-- where there is a duty there is a loss or none at the place
abbrev pub IsWithinLosses : Numbers → ℕ → Type 0
IsWithinLosses numbers at = elim numbers.losses [ None ↦ Unit {0} | Some losses ↦ at < length losses.items ]

-- where there is a duty there are so many
abbrev pub AreLossesOf : Numbers → ℕ → Type 0
AreLossesOf numbers size = elim numbers.losses [ None ↦ Unit {0} | Some losses ↦ length losses.items ≡ size ]

-- there are numbers for so many locations
pub record HasNumbers (numbers : Numbers) (size : ℕ) : Type 0 where
  pub ranks : length numbers.ranks.items ≡ size
  pub distances : length numbers.distances.items ≡ size
  pub losses : AreLossesOf numbers size
  pub small_ranks : AreSmall (number_in numbers.ranks.items) size
  pub small_distances : AreSmall (number_in numbers.distances.items) size
  pub small_losses : AreSmall (loss_in numbers) size

-- the mark of a location: whether it is a goal, its rank and distance, whether there is a duty, and its loss
abbrev pub mark_by : Bool → Option ℕ → Option ℕ → Bool → Option ℕ → Mark
mark_by true rank distance duty loss = Goal
mark_by false (Some n) distance duty loss = Win n
mark_by false None (Some n) duty loss = Pending n
mark_by false None None false loss = Lost
mark_by false None None true None = Held
mark_by false None None true (Some n) = LostIn n

-- the marks of the first so many locations
pub record AreMarks (goals : List Bool) (numbers : Numbers) (marks : List Mark) (count : ℕ) : Type 0 where
  pub size : length marks ≡ count
  pub each : (at : ℕ) → at < count
      → slice_index_or marks at Lost ≡ mark_by (goal_in goals at) (number_in numbers.ranks.items at) (number_in numbers.distances.items at) (has_losses numbers) (loss_in numbers at)

-- a table of the first so many numbers
pub record IsTableTo (numbers : List (Option ℕ)) (table : List ℕ) (count : ℕ) : Type 0 where
  pub size : length table ≡ count
  pub each : (at : ℕ) → at < count → slice_index table at ≡ code (number_in numbers at)

-- a table of all numbers, with the number of an illegal round at its end
pub record IsTableOf (number : ℕ → Option ℕ) (size illegal : ℕ) (table : List ℕ) : Type 0 where
  pub long : length table ≡ size + 1
  pub each : (at : ℕ) → at < size → slice_index table at ≡ code (number at)
  pub past : slice_index table size ≡ illegal

pub record AreTablesOf (numbers : Numbers) (size : ℕ) (tables : Tables) : Type 0 where
  pub ranks : IsTableOf (number_in numbers.ranks.items) size 0 tables.ranks.items
  pub distances : IsTableOf (number_in numbers.distances.items) size no_number tables.distances.items
  pub losses : IsTableOf (loss_in numbers) size no_number tables.losses.items
