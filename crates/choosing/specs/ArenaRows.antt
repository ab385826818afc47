-- Rows and tables of an arena, and the law that what is chosen for a row is chosen for the decision.
use Rattle.std.specs.Prelude.{◌≡◌, ◌<◌, ◌≤◌, ◌^◌, ℕ, Bool, true, false, Option}
use Rattle.diagrams.specs.declared.top.Id.{Id}
use Rattle.diagrams.specs.Tree.{Assignment}
use Rattle.diagrams.specs.Eval.{Diagrams, DependsOn, eval, letter_truth}
use Rattle.game.specs.Board.{Partition, Board, IsChoice, width}
use Rattle.game.specs.Arena.{Locations, locations}
use Rattle.game.specs.Playable.{IsPlayable}
use Rattle.choosing.specs.declared.choice.Chosen.{Chosen}
use Rattle.choosing.specs.declared.choice.Outputs.{Outputs}
use Rattle.choosing.specs.declared.choice.Tables.{Tables}
use Rattle.choosing.specs.Chosen.{no_number}
use Rattle.choosing.specs.Choices.{IsChoiceAt}
use Rattle.choosing.specs.MarkOf.{IsChosenThere}
use Rattle.choosing.specs.Numbers.{number_at}
use Rattle.choosing.specs.Rounds.{IsTable, from_of, to_of}

-- the row has the values of where letters lead
pub record IsRowAt (parts : Partition) (m : Locations) (s : Diagrams) (at : ℕ) (row : Id) : Type 0 where
  pub over : DependsOn s row (λ v. v < width parts)
  pub targets : (a : Assignment) → eval s row a ≤ m.size
  pub next : (a : ℕ) → a < 2 ^ width parts → m.next at a ≡ eval s row (letter_truth (width parts) a)

-- the lists have the numbers of the locations; of losses only where there is a duty
pub record AreTables {s : Partition} (b : Board s) (place : ℕ → b.Place) (size : ℕ) (ranks distances losses : b.Place → Option ℕ) (tables : Tables) : Type 0 where
  pub rank_table : IsTable b ranks place size 0 tables.ranks.items
  pub distance_table : IsTable b distances place size no_number tables.distances.items
  pub loss_table : b.has_duty ≡ true → IsTable b losses place size no_number tables.losses.items

-- the variables of outputs
abbrev pub outputs_of : Partition → Outputs
outputs_of s = record { from = from_of s.first s.inputs; to = to_of s.first s.inputs s.outputs }

-- On an arena where the game goes on, the choice for a location's row is that for the decision which the assignment spells.
abbrev pub RowChoicesAreChosen : Type 0
RowChoicesAreChosen = (s : Partition) (has_duty : Bool) (m : Locations) (d : Diagrams) (row : Id) (at x : ℕ) (a : Assignment) (tables : Tables)
    → (ranks distances losses : ℕ → Option ℕ) → at < m.size → m.is_goal at ≡ false → IsChoice s x
    → IsPlayable (locations s has_duty m) (λ g. g < m.size) → IsRowAt s m d at row → number_at a 0 (from_of s.first s.inputs) ≡ x
    → AreTables (locations s has_duty m) (λ v. v) m.size ranks distances losses tables → (choice : Option Chosen)
    → IsChoiceAt d row a (outputs_of s) m.size has_duty tables choice
    → IsChosenThere (locations s has_duty m) ranks distances losses at x choice
