-- What was found of an arena's locations, as merging asks for it.
use Rattle.std.specs.Prelude.{◌≡◌, ◌<◌, ℕ, Bool, true, false, List, length, Option, Some, None, is_some}
use Rattle.diagrams.specs.declared.top.Id.{Id}
use Rattle.diagrams.specs.Eval.{Diagrams}
use Rattle.attractor.specs.Graph.{number_at}
use Rattle.game.specs.Board.{Partition}
use Rattle.game.specs.Arena.{Locations}
use Rattle.layers.specs.Ranked.{AreRanks, AreDistances}
use Rattle.layers.specs.HistoryNumbers.{AreBelow}
use Rattle.arena.specs.Left.{ArenaTable, locations_of}
use Rattle.adversarial.specs.Answered.{AreAnswers, AreAnswerDiagrams}
use Rattle.cooperative.specs.declared.loss.Loss.{Loss}
use Rattle.cooperative.specs.declared.loss.Loss.TheVariants.{Held, In}
use Rattle.cooperative.specs.Lost.{loss_at, AreKeptOrLost}
use Rattle.strategy.specs.declared.marks.Numbers.{Numbers}
use Rattle.strategy.specs.Numbers.{number_in, loss_in, has_losses, AreLossesOf}

-- the number of rounds of a loss, where it has one
abbrev pub rounds_of : Option Loss → Option ℕ
rounds_of None = None
rounds_of (Some Held) = None
rounds_of (Some (In n)) = Some n

-- the number of rounds of a location's loss, where there are losses
abbrev pub rounds_at : Option (List (Option Loss)) → ℕ → Option ℕ
rounds_at None at = None
rounds_at (Some losses) at = rounds_of (loss_at losses at)

-- so many losses as numbers of rounds
pub record AreRounds (losses : List (Option Loss)) (numbers : List (Option ℕ)) (count : ℕ) : Type 0 where
  pub size : length numbers ≡ count
  pub each : (at : ℕ) → at < count → number_in numbers at ≡ rounds_of (loss_at losses at)

-- where there are losses there are so many
abbrev pub AreLossesFor : Option (List (Option Loss)) → ℕ → Type 0
AreLossesFor None size = Unit {0}
AreLossesFor (Some losses) size = length losses ≡ size

-- the numbers are those of the lists
pub record AreNumbersOf (ranks distances : List (Option ℕ)) (losses : Option (List (Option Loss))) (numbers : Numbers) : Type 0 where
  pub rank : numbers.ranks.items ≡ ranks
  pub distance : numbers.distances.items ≡ distances
  pub given : has_losses numbers ≡ is_some losses
  pub counted : AreLossesOf numbers (length ranks)
  pub loss : (at : ℕ) → at < length ranks → loss_in numbers at ≡ rounds_at losses at

-- there are losses exactly where there is a duty, and they are those of the locations
abbrev pub AreLossesWhere : Partition → Bool → Locations → List (Option ℕ) → List (Option ℕ) → Option (List (Option Loss)) → Type 0
AreLossesWhere parts duty m ranks distances None = duty ≡ false
AreLossesWhere parts duty m ranks distances (Some losses) = (duty ≡ true) × AreKeptOrLost parts duty m (number_at ranks) (number_at distances) losses

-- Of each location of the arena the rank, the distance and, where there is a duty, the loss; and the answers of those without
-- a rank.
pub record AreFound (s : Diagrams) (t : ArenaTable) (ranks distances : List (Option ℕ)) (answers : List (Option Id)) (losses : Option (List (Option Loss))) : Type 0 where
  pub rank_count : length ranks ≡ length t.rows
  pub distance_count : length distances ≡ length t.rows
  pub rank : AreRanks t.partition t.has_duty (locations_of s t) (number_at ranks)
  pub rank_below : AreBelow (length t.rows) (number_at ranks)
  pub distance : AreDistances t.partition t.has_duty (locations_of s t) (number_at distances)
  pub distance_below : AreBelow (length t.rows) (number_at distances)
  pub answer : AreAnswers s t.partition t.has_duty (locations_of s t) (number_at ranks) answers
  pub answer_over : AreAnswerDiagrams s t.partition answers
  pub loss : AreLossesWhere t.partition t.has_duty (locations_of s t) ranks distances losses
