-- The printed strategy of a specification.
use Rattle.std.specs.Prelude.{◌≡◌, ◌<◌, ◌^◌, ◌↔◌, ℕ, [], true, false, Option, Some, None, IsSome}
use Rattle.forms.specs.Word.{Word}
use Rattle.forms.specs.Shortlex.{comes_before}
use Rattle.game.specs.Board.{Partition, Board, width, IsChoice, IsShown}
use Rattle.game.specs.Numbers.{IsLeastOrNone}
use Rattle.game.specs.Winning.{WinsWithin}
use Rattle.game.specs.Marks.{Mark, Goal, Win, Pending, Lost, Held, LostIn, HasMark, HasDecisionMark, IsMove, IsAnswer}
use Rattle.game.specs.Histories.{Aims, histories, IsHistory, IsLive, ShareLocation, is_given}
use Rattle.printed_strategy.specs.Strategy.{Strategy, Choice, is_goal, location_after}

-- the goal is forced from the place within n rounds and no fewer, or by no number
abbrev pub IsVerdict : {s : Partition} (b : Board s) → b.Place → Option ℕ → Type 0
IsVerdict b h verdict = IsLeastOrNone (λ k. WinsWithin b k h) verdict

-- the history leads to the location, and none that leads there comes before it
pub record IsLeastHistory (s : Aims) (t : Strategy) (at : ℕ) (h : Word) : Type 0 where
  pub over : IsHistory s h
  pub leads : location_after t h ≡ Some at
  pub least : (u : Word) → IsHistory s u → location_after t u ≡ Some at → comes_before u h ≡ false

-- A history has a location exactly where it is live; two that are live have one location exactly where they share it;
-- and locations are numbered by their least histories.
pub record HasLocations (s : Aims) (t : Strategy) : Type 0 where
  pub live : (h : Word) → IsHistory s h → IsSome (location_after t h) ↔ IsLive s h
  pub within : (h : Word) (at : ℕ) → IsHistory s h → location_after t h ≡ Some at → at < t.size
  pub same : (u v : Word) → IsHistory s u → IsHistory s v → IsLive s u → IsLive s v
      → (location_after t u ≡ location_after t v) ↔ ShareLocation s u v
  pub word : ℕ → Word
  pub least : (at : ℕ) → at < t.size → IsLeastHistory s t at (word at)
  pub order : (i j : ℕ) → i < j → j < t.size → comes_before (word i) (word j) ≡ true

-- the choice for a decision is its mark and move; an input that is no decision has none
abbrev pub IsChoiceFor : {s : Partition} (b : Board s) → b.Place → ℕ → Option Choice → Type 0
IsChoiceFor b h x None = ¬ b.IsDecision h x
IsChoiceFor b h x (Some c) = b.IsDecision h x × HasDecisionMark b h x c.mark × IsMove b h x c.mark c.output

-- the table has the printed answer to each thing that may be shown
abbrev pub AreAnswers : {s : Partition} (b : Board s) → b.Place → Option (ℕ → ℕ) → Type 0
AreAnswers b h None = ⊥
AreAnswers {s = s} b h (Some f) = (y : ℕ) → IsShown s y → IsAnswer b h y (f y)

-- answers stand where the mark isn't won or met
abbrev pub AreAnswersFor : {s : Partition} (b : Board s) → b.Place → Mark → Option (ℕ → ℕ) → Type 0
AreAnswersFor b h Goal answers = Unit {0}
AreAnswersFor b h (Win n) answers = answers ≡ None
AreAnswersFor b h (Pending n) answers = AreAnswers b h answers
AreAnswersFor b h Lost answers = AreAnswers b h answers
AreAnswersFor b h Held answers = AreAnswers b h answers
AreAnswersFor b h (LostIn n) answers = AreAnswers b h answers

-- the location's mark is that of the place; where the goal isn't met, its choices and answers are
pub record IsRightAt {s : Partition} (b : Board s) (t : Strategy) (h : b.Place) (at : ℕ) : Type 0 where
  pub mark : HasMark b h (t.mark at)
  pub choice : ¬ b.IsMet h → (x : ℕ) → IsChoice s x → IsChoiceFor b h x (t.choice at x)
  pub answers : ¬ b.IsMet h → AreAnswersFor b h (t.mark at) (t.answers at)

-- the printed strategy of the specification
pub record IsPrintedFor (s : Aims) (t : Strategy) : Type 0 where
  pub parts : t.parts ≡ s.parts
  pub duty : t.has_duty ≡ is_given s.duty
  pub verdict : IsVerdict (histories s) [] t.verdict
  pub locations : HasLocations s t
  pub right : (h : Word) (at : ℕ) → IsHistory s h → location_after t h ≡ Some at → IsRightAt (histories s) t h at

-- what a table answers, where there is one
abbrev pub answer_in : Option (ℕ → ℕ) → ℕ → Option ℕ
answer_in None y = None
answer_in (Some f) y = Some (f y)

-- The two say the same, of as many locations; of what follows a met goal they say nothing.
pub record AreTheSame (t u : Strategy) : Type 0 where
  pub parts : t.parts ≡ u.parts
  pub duty : t.has_duty ≡ u.has_duty
  pub verdict : t.verdict ≡ u.verdict
  pub size : t.size ≡ u.size
  pub mark : (at : ℕ) → at < t.size → t.mark at ≡ u.mark at
  pub target : (at a : ℕ) → at < t.size → is_goal (t.mark at) ≡ false → a < 2 ^ width t.parts → t.target at a ≡ u.target at a
  pub choice : (at x : ℕ) → at < t.size → is_goal (t.mark at) ≡ false → IsChoice t.parts x → t.choice at x ≡ u.choice at x
  pub answer : (at y : ℕ) → at < t.size → is_goal (t.mark at) ≡ false → IsShown t.parts y → answer_in (t.answers at) y ≡ answer_in (u.answers at) y

-- every printed strategy of the specification is this one
abbrev pub IsOnlyPrintedFor : Aims → Strategy → Type 0
IsOnlyPrintedFor s t = (u : Strategy) → IsPrintedFor s u → AreTheSame u t
