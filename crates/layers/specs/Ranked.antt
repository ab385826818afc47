-- What least numbers at the locations of an arena say, and what is asked of its rounds.
use Rattle.std.specs.Prelude.{◌≡◌, ◌<◌, ◌^◌, ℕ, Bool, Option}
use Rattle.game.specs.Board.{width, input_of}
use Rattle.forms.specs.declared.partition.Partition.{Partition}
use Rattle.forms.specs.declared.partition.Mover.TheVariants.{Agent, Environment}
use Rattle.game.specs.Winning.{WinsWithin, ReachesWithin, FailsDutyWithin}
use Rattle.game.specs.Arena.{Locations, locations}
use Rattle.game.specs.Playable.{IsPlayable}
use Rattle.game.specs.Numbers.{IsLeastOrNone}

-- the numbers are the least within which the agent wins
abbrev pub AreRanks : (s : Partition) → Bool → Locations → (ℕ → Option ℕ) → Type 0
AreRanks s duty m rank = (at : ℕ) → at < m.size → IsLeastOrNone (λ n. WinsWithin (locations s duty m) n at) (rank at)

-- the numbers are the least within which the goal can be hoped for
abbrev pub AreDistances : (s : Partition) → Bool → Locations → (ℕ → Option ℕ) → Type 0
AreDistances s duty m distance = (at : ℕ) → at < m.size → IsLeastOrNone (λ n. ReachesWithin (locations s duty m) n at) (distance at)

-- at these locations the numbers are the least within which the environment can break the duty
abbrev pub AreLosses : (s : Partition) → Bool → Locations → (ℕ → Type 0) → (ℕ → Option ℕ) → Type 0
AreLosses s duty m Among loss = (at : ℕ) → at < m.size → Among at → IsLeastOrNone (λ n. FailsDutyWithin (locations s duty m) n at) (loss at)

-- the game can be played on the locations: before the goal each has a decision, and each decision with each output a legal round
abbrev pub IsPlayableArena : (s : Partition) → Bool → Locations → Type 0
IsPlayableArena s duty m = IsPlayable (locations s duty m) (λ at. at < m.size)

-- environment first, the rounds with one input are legal together
abbrev pub GoesByInput : (s : Partition) → Locations → Type 0
GoesByInput s m = elim s.first [
  | Agent ↦ Unit {0}
  | Environment ↦ (at a c : ℕ) → at < m.size → a < 2 ^ width s → c < 2 ^ width s → input_of s a ≡ input_of s c → m.next at a < m.size → m.next at c < m.size
]
