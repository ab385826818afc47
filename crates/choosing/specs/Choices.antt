-- What is chosen for the decisions of rows, each choice numbered once.
use Rattle.std.specs.Prelude.{◌≡◌, ◌<◌, ◌≤◌, ℕ, Bool, List, length, slice_get, slice_index, nat_lt, Option, Some, None, if◌then◌else◌}
use Rattle.diagrams.specs.declared.top.Id.{Id}
use Rattle.diagrams.specs.Tree.{Assignment, Tree, AllVars, IsReduced, value_at}
use Rattle.diagrams.specs.Eval.{Diagrams, eval, tree, id_at}
use Rattle.diagrams.specs.Live.{IsLive}
use Rattle.choosing.specs.declared.choice.Chosen.{Chosen}
use Rattle.choosing.specs.declared.choice.Outputs.{Outputs}
use Rattle.choosing.specs.declared.choice.Tables.{Tables}
use Rattle.choosing.specs.Chosen.{IsChosenBelow}
use Rattle.choosing.specs.Cuts.{IsCutRow}

-- each value stands for an illegal round
abbrev pub IsAllIllegal : ℕ → Tree → Type 0
IsAllIllegal size t = (a : Assignment) → size ≤ value_at t a

-- there is no choice where each value is illegal; else it goes by the numbers that are reached
abbrev pub IsChoiceBelow : Outputs → ℕ → Bool → Tables → Tree → Option Chosen → Type 0
IsChoiceBelow outputs size duty tables t None = IsAllIllegal size t
IsChoiceBelow outputs size duty tables t (Some c) = (¬ IsAllIllegal size t)
    × IsChosenBelow outputs.from outputs.to duty tables.ranks.items tables.distances.items tables.losses.items t c.mark c.output

-- the choices below the first so many diagrams
pub record AreChoicesBelow (s : Diagrams) (outputs : Outputs) (size : ℕ) (duty : Bool) (tables : Tables) (items : List Id) (choices : List (Option Chosen)) (count : ℕ) : Type 0 where
  pub long : length choices ≡ count
  pub each : (k : ℕ) → k < count → (c : Option Chosen) × (slice_get choices k ≡ Some c) × IsChoiceBelow outputs size duty tables (tree s (id_at items k)) c

-- no choice has two numbers
abbrev pub AreDistinct : List (Option Chosen) → Type 0
AreDistinct choices = (i j : ℕ) (c : Option Chosen) → slice_get choices i ≡ Some c → slice_get choices j ≡ Some c → i ≡ j

-- the first so many choices have numbers, by which they stand in a list of different choices
pub record AreNumbered (choices : List (Option Chosen)) (numbers : List ℕ) (distinct : List (Option Chosen)) (count : ℕ) : Type 0 where
  pub size : length numbers ≡ count
  pub choice : (k : ℕ) → k < count → slice_get distinct (slice_index numbers k) ≡ slice_get choices k
  pub once : AreDistinct distinct

-- the first so many rows with their values looked up
pub record AreLookedUp (s n : Diagrams) (numbers : List ℕ) (rows made : List Id) (count : ℕ) : Type 0 where
  pub size : length made ≡ count
  pub live : (k : ℕ) → k < count → IsLive n (id_at made k)
  pub value : (k : ℕ) → k < count → (a : Assignment) → eval n (id_at made k) a ≡ slice_index numbers (eval s (id_at rows k) a)

-- the variables before the bound as in the first assignment, the others as in the second
abbrev pub mixed : ℕ → Assignment → Assignment → Assignment
mixed bound a c v = if nat_lt v bound then a v else c v

-- The choice for a row where the decision's variables are as in an assignment: that below the tree of what is left.
pub record IsChoiceAt (s : Diagrams) (row : Id) (a : Assignment) (outputs : Outputs) (size : ℕ) (duty : Bool) (tables : Tables) (choice : Option Chosen) : Type 0 where
  pub rest : Tree
  pub values : (c : Assignment) → value_at rest c ≡ eval s row (mixed outputs.from a c)
  pub vars : AllVars (λ v. outputs.from ≤ v) rest
  pub reduced : IsReduced rest
  pub chosen : IsChoiceBelow outputs size duty tables rest choice

-- In n each row of s has a diagram over the decisions' variables that leads to the number of the choice, and no choice has two numbers.
pub record AreChoices (s n : Diagrams) (outputs : Outputs) (size : ℕ) (duty : Bool) (tables : Tables) (rows moves : List Id) (choices : List (Option Chosen)) : Type 0 where
  pub long : length moves ≡ length rows
  pub cut : (k : ℕ) → k < length rows → IsCutRow n outputs.from (length choices) (id_at moves k)
  pub distinct : AreDistinct choices
  pub each : (k : ℕ) → k < length rows → (a : Assignment)
      → (c : Option Chosen) × (slice_get choices (eval n (id_at moves k) a) ≡ Some c) × IsChoiceAt s (id_at rows k) a outputs size duty tables c
