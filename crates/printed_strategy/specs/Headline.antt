-- What a printed strategy gives: it wins within the printed least number of rounds where any strategy can force the goal,
-- else keeps a legal continuation that meets it wherever one exists, and where the goal can't be forced the printed
-- answers refute every number of rounds.
use Rattle.std.specs.Prelude.{◌≡◌, ◌<◌, ℕ, suc, false, [], ◌∷◌, ◌++◌, Some, None}
use Rattle.forms.specs.Word.{Word}
use Rattle.game.specs.Board.{Partition, Board, IsChoice, IsLeastNumber, decision_of, output_of}
use Rattle.game.specs.Winning.{WinsWithin, DecisionWinsWithin, IsWinnable, CanMeetWithin, CanMeetFrom, FailsDutyWithin}
use Rattle.game.specs.Following.{Moves, Answers, ForcesWithin, ForcesFrom, LeavesOpenWithin, LeavesOpenFrom, HoldsDutyWithin, HoldsDutyFrom, RefutesWithin}
use Rattle.game.specs.Marks.{Mark, Goal, Win, Pending, Lost, Held, LostIn, HasNumberBelow}
use Rattle.game.specs.Histories.{Aims, histories, IsHistory, IsRunning, IsLive}
use Rattle.printed_strategy.specs.Strategy.{Strategy, Choice, is_goal, location_after, choice_from, move_at, answers_at}

-- no number of rounds wins, and the answers refute each
abbrev pub IsRefuted : {s : Partition} (b : Board s) → Answers b → b.Place → Type 0
IsRefuted b answer h = ((k : ℕ) → ¬ WinsWithin b k h) × ((k : ℕ) → RefutesWithin b answer k h)

-- What stands at a place with this mark, where the goal isn't met. Some legal continuation of at most n rounds meets the goal
-- where the mark is `win n` or `open n`, and none does where it is another.
abbrev pub Promises : {s : Partition} (b : Board s) → Moves b → Answers b → b.Place → Mark → Type 0
Promises b move answer h Goal = ⊥
Promises b move answer h (Win n) = IsLeastNumber (λ k. WinsWithin b k h) n × ForcesWithin b move n h × CanMeetWithin b n h
Promises b move answer h (Pending n) = IsRefuted b answer h × LeavesOpenWithin b move n h × CanMeetWithin b n h
Promises b move answer h Lost = IsRefuted b answer h × ((k : ℕ) → ¬ CanMeetWithin b k h)
Promises b move answer h Held = IsRefuted b answer h × ((k : ℕ) → ¬ CanMeetWithin b k h) × ((k : ℕ) → HoldsDutyWithin b move k h)
Promises b move answer h (LostIn n) = IsRefuted b answer h × ((k : ℕ) → ¬ CanMeetWithin b k h) × IsLeastNumber (λ k. FailsDutyWithin b k h) n

-- what stands from a decision with this mark
abbrev pub PromisesFrom : {s : Partition} (b : Board s) → Moves b → b.Place → ℕ → Mark → Type 0
PromisesFrom b move h x Goal = ⊥
PromisesFrom b move h x (Win n) = IsLeastNumber (λ k. DecisionWinsWithin b k h x) n × ForcesFrom b move n h x × CanMeetFrom b n h x
PromisesFrom b move h x (Pending n) = (¬ IsWinnable b h x) × LeavesOpenFrom b move n h x × CanMeetFrom b n h x
PromisesFrom b move h x Lost = (¬ IsWinnable b h x) × ((k : ℕ) → ¬ CanMeetFrom b k h x)
PromisesFrom b move h x Held = (¬ IsWinnable b h x) × ((k : ℕ) → ¬ CanMeetFrom b k h x) × ((k : ℕ) → HoldsDutyFrom b move k h x)
PromisesFrom b move h x (LostIn n) = (¬ IsWinnable b h x) × ((k : ℕ) → ¬ CanMeetFrom b k h x)

-- each output in the history is the printed move for its decision
abbrev pub PlaysMoves : Aims → Strategy → Word → Type 0
PlaysMoves s t h = (u v : Word) (a : ℕ) → h ≡ u ++ a ∷ v
    → output_of s.parts a ≡ move_at t u (decision_of s.parts a)

-- the history follows the strategy
abbrev pub Follows : Aims → Strategy → Word → Type 0
Follows s t h = IsLive s h × PlaysMoves s t h

-- Numbers are few: that of a location and that of the verdict are below the number of locations, and that of a decision is at
-- most it.
pub record HasFewNumbers (t : Strategy) : Type 0 where
  pub locations : (at : ℕ) → at < t.size → HasNumberBelow t.size (t.mark at)
  pub decisions : (at x : ℕ) (c : Choice) → at < t.size → is_goal (t.mark at) ≡ false → IsChoice t.parts x → t.choice at x ≡ Some c
      → HasNumberBelow (suc t.size) c.mark
  pub verdict : (n : ℕ) → t.verdict ≡ Some n → n < t.size

-- The headline: at every running history, so at each that follows the strategy and doesn't meet the goal, and from each
-- decision at it; and at the start. Its numbers are few.
pub record KeepsPromises (s : Aims) (t : Strategy) : Type 0 where
  pub marks : (h : Word) → IsHistory s h → IsRunning s h
      → (at : ℕ) × (location_after t h ≡ Some at) × Promises (histories s) (move_at t) (answers_at t) h (t.mark at)
  pub decisions : (h : Word) (x : ℕ) → IsHistory s h → IsRunning s h → (histories s).IsDecision h x
      → (c : Choice) × (choice_from t (location_after t h) x ≡ Some c) × PromisesFrom (histories s) (move_at t) h x c.mark
  pub realisable : (n : ℕ) → t.verdict ≡ Some n → IsLeastNumber (λ k. WinsWithin (histories s) k []) n × ForcesWithin (histories s) (move_at t) n []
  pub unrealisable : t.verdict ≡ None → IsRefuted (histories s) (answers_at t) []
  pub numbers : HasFewNumbers t
