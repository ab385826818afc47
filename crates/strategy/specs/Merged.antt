-- Strategies that are merged from rows, numbers and answers.
use Rattle.std.specs.Prelude.{◌≡◌, ◌<◌, ℕ, Bool, false, List, length, Option, Some, None, is_some, not, slice_index_or}
use Rattle.diagrams.specs.declared.top.Id.{Id}
use Rattle.diagrams.specs.Eval.{Diagrams, eval, id_at, letter_truth}
use Rattle.game.specs.Board.{Partition, IsShown}
use Rattle.game.specs.Arena.{Locations, locations}
use Rattle.game.specs.Playable.{IsPlayable}
use Rattle.printed_strategy.specs.Strategy.{Strategy}
use Rattle.game.specs.Values.{AreNumbers, IsAnswerBy}
use Rattle.printed_strategy.specs.Planned.{IsComputedOn}
use Rattle.choosing.specs.ArenaRows.{IsRowAt}
use Rattle.strategy.specs.declared.marks.Numbers.{Numbers}
use Rattle.strategy.specs.Numbers.{number_in, loss_in, has_losses, goal_in}
use Rattle.strategy.specs.Fits.{IsAnswerTable}

-- the table of a location, where it has one
abbrev pub table_at : List (Option Id) → ℕ → Option Id
table_at answers at = slice_index_or answers at None

-- a location that isn't a goal has a table exactly where it has no rank, and each table fits the store
pub record HasAnswers (s : Diagrams) (parts : Partition) (goals : List Bool) (numbers : Numbers) (answers : List (Option Id)) (size : ℕ) : Type 0 where
  pub count : length answers ≡ size
  pub present : (at : ℕ) → at < size → goal_in goals at ≡ false → is_some (table_at answers at) ≡ not (is_some (number_in numbers.ranks.items at))
  pub table : (at : ℕ) (id : Id) → at < size → table_at answers at ≡ Some id → IsAnswerTable s parts id

-- the locations are those of the rows
pub record AreRowsOf (s : Diagrams) (parts : Partition) (m : Locations) (rows : List Id) (goals : List Bool) : Type 0 where
  pub size : m.size ≡ length rows
  pub row : (at : ℕ) → at < m.size → IsRowAt parts m s at (id_at rows at)
  pub goal : (at : ℕ) → at < m.size → m.is_goal at ≡ goal_in goals at

-- each location without a rank that isn't a goal has a table of its answers
abbrev pub AreAnswersOn : Diagrams → Partition → Bool → Locations → (ℕ → Option ℕ) → List (Option Id) → Type 0
AreAnswersOn s parts duty m ranks answers = (at : ℕ) → at < m.size → m.is_goal at ≡ false → ranks at ≡ None
    → (id : Id) × (table_at answers at ≡ Some id) × ((y : ℕ) → IsShown parts y → IsAnswerBy (locations parts duty m) ranks at y (eval s id (letter_truth parts.outputs y)))

-- On each arena on which the game goes on, whose rows, numbers and answers these are, the strategy is what is computed.
abbrev pub IsMerged : Diagrams → Partition → List Id → List Bool → Numbers → List (Option Id) → Strategy → Type 0
IsMerged s parts rows goals numbers answers t = (m : Locations) → AreRowsOf s parts m rows goals
    → IsPlayable (locations parts (has_losses numbers) m) (λ at. at < m.size)
    → AreNumbers (locations parts (has_losses numbers) m) (λ at. at < m.size) (number_in numbers.ranks.items) (number_in numbers.distances.items) (loss_in numbers)
    → AreAnswersOn s parts (has_losses numbers) m (number_in numbers.ranks.items) answers
    → IsComputedOn parts (has_losses numbers) m (number_in numbers.ranks.items) (number_in numbers.distances.items) (loss_in numbers) t
