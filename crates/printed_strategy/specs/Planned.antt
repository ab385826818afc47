-- Strategies that are made on an arena.
use Rattle.std.specs.Prelude.{◌≡◌, ◌<◌, ◌^◌, ℕ, false, Bool, Option, Some, None, nat_lt, if◌then◌else◌}
use Rattle.game.specs.Board.{Partition, Board, width, IsChoice, IsShown}
use Rattle.game.specs.Arena.{Locations, locations}
use Rattle.printed_strategy.specs.Strategy.{Strategy, Choice}
use Rattle.printed_strategy.specs.Printed.{IsVerdict, IsRightAt}
use Rattle.game.specs.Values.{AreNumbers, IsChosen, IsMarkedBy, IsAnswerBy}

-- the location to which a letter leads, if it is one
abbrev pub target_on : Locations → ℕ → ℕ → Option ℕ
target_on m at a = if nat_lt (m.next at a) m.size then Some (m.next at a) else None

-- The strategy has the arena's locations and rounds, and on its board the verdict of location 0, and at each location its
-- mark, choices and answers.
pub record IsPlanOn (s : Partition) (has_duty : Bool) (m : Locations) (t : Strategy) : Type 0 where
  pub parts : t.parts ≡ s
  pub duty : t.has_duty ≡ has_duty
  pub verdict : IsVerdict (locations s has_duty m) 0 t.verdict
  pub size : t.size ≡ m.size
  pub target : (at a : ℕ) → at < m.size → m.is_goal at ≡ false → a < 2 ^ width s → t.target at a ≡ target_on m at a
  pub right : (at : ℕ) → at < m.size → IsRightAt (locations s has_duty m) t at at

-- the choice for a decision is that of the numbers after its rounds; an input that is no decision has none
abbrev pub IsChosenFor : {s : Partition} (b : Board s) → (ranks distances losses : b.Place → Option ℕ) → b.Place → ℕ → Option Choice → Type 0
IsChosenFor b ranks distances losses h x None = ¬ b.IsDecision h x
IsChosenFor b ranks distances losses h x (Some c) = b.IsDecision h x × IsChosen b ranks distances losses h x c.mark c.output

-- What is computed on an arena: the numbers of its locations, and by them the strategy.
pub record IsComputedOn (s : Partition) (has_duty : Bool) (m : Locations) (ranks distances losses : ℕ → Option ℕ) (t : Strategy) : Type 0 where
  pub parts : t.parts ≡ s
  pub duty : t.has_duty ≡ has_duty
  pub verdict : t.verdict ≡ ranks 0
  pub size : t.size ≡ m.size
  pub target : (at a : ℕ) → at < m.size → m.is_goal at ≡ false → a < 2 ^ width s → t.target at a ≡ target_on m at a
  pub numbers : AreNumbers (locations s has_duty m) (λ at. at < m.size) ranks distances losses
  pub mark : (at : ℕ) → at < m.size → IsMarkedBy (locations s has_duty m) ranks distances losses at (t.mark at)
  pub choice : (at x : ℕ) → at < m.size → m.is_goal at ≡ false → IsChoice s x → IsChosenFor (locations s has_duty m) ranks distances losses at x (t.choice at x)
  pub answers : (at : ℕ) → at < m.size → m.is_goal at ≡ false → ranks at ≡ None
      → (f : ℕ → ℕ) × (t.answers at ≡ Some f) × ((y : ℕ) → IsShown s y → IsAnswerBy (locations s has_duty m) ranks at y (f y))
  pub unanswered : (at n : ℕ) → at < m.size → m.is_goal at ≡ false → ranks at ≡ Some n → t.answers at ≡ None
