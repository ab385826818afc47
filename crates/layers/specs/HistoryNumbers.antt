-- Least numbers at the histories that lead to an arena's locations, and the environment's answers at them.
use Rattle.std.specs.Prelude.{◌≡◌, ◌<◌, ◌≤◌, ℕ, Bool, true, Option, Some, None}
use Rattle.forms.specs.Word.{Word}
use Rattle.forms.specs.declared.partition.Partition.{Partition}
use Rattle.game.specs.Board.{width, IsLeastNumber}
use Rattle.game.specs.Winning.{WinsWithin, DecisionWinsWithin, IsWinnable, ReachesWithin, DecisionReachesWithin, DecisionFailsDutyWithin}
use Rattle.game.specs.Histories.{Aims, histories}
use Rattle.game.specs.Arena.{Locations, locations, location_from, LeadsTo, IsDecisionThere}
use Rattle.game.specs.Numbers.{IsLeastOrNone}

-- each history that leads to a location has the location's rank
abbrev pub AreHistoryRanks : Aims → Locations → (ℕ → Option ℕ) → Type 0
AreHistoryRanks s m rank = (h : Word) (at : ℕ) → LeadsTo (width s.parts) m h at → IsLeastOrNone (λ n. WinsWithin (histories s) n h) (rank at)

-- and its distance
abbrev pub AreHistoryDistances : Aims → Locations → (ℕ → Option ℕ) → Type 0
AreHistoryDistances s m distance = (h : Word) (at : ℕ) → LeadsTo (width s.parts) m h at → IsLeastOrNone (λ n. ReachesWithin (histories s) n h) (distance at)

-- the answers at a location, where there is one
abbrev pub answers_there : (ℕ → Option (ℕ → ℕ)) → Option ℕ → Option (ℕ → ℕ)
answers_there answer None = None
answers_there answer (Some at) = answer at

-- at a history the answers are those of the location to which it leads
abbrev pub history_answers : Locations → (ℕ → Option (ℕ → ℕ)) → Word → Option (ℕ → ℕ)
history_answers m answer h = answers_there answer (location_from m 0 h)

-- each number of a location is below the number of locations
abbrev pub AreBelow : ℕ → (ℕ → Option ℕ) → Type 0
AreBelow size number = (at n : ℕ) → at < size → number at ≡ Some n → n < size

-- the least number of rounds within which a decision is won is at most the number of locations
abbrev pub AreWinsFew : Partition → Bool → Locations → Type 0
AreWinsFew s duty m = (at x n : ℕ) → at < m.size → IsLeastNumber (λ k. DecisionWinsWithin (locations s duty m) k at x) n → n ≤ m.size

-- and so is the least number within which the goal is reached from a decision that can't be won
abbrev pub AreHopesFew : Partition → Bool → Locations → Type 0
AreHopesFew s duty m = (at x n : ℕ) → at < m.size → ¬ IsWinnable (locations s duty m) at x
    → IsLeastNumber (λ k. DecisionReachesWithin (locations s duty m) k at x) n → n ≤ m.size

-- and so is the least number within which the environment breaks the duty from a decision
abbrev pub AreBreaksFew : Partition → Bool → Locations → Type 0
AreBreaksFew s duty m = (at x n : ℕ) → at < m.size → IsLeastNumber (λ k. DecisionFailsDutyWithin (locations s duty m) k at x) n → n ≤ m.size
