-- What the marks, moves and answers of a certificate mean in its game.
use Rattle.std.specs.Prelude.{◌≡◌, ◌≢◌, ◌<◌, ◌^◌, ℕ, length, Bool, true, false}
use Rattle.game.specs.Marks.{Mark, Goal, Win, Pending, Lost, Held, LostIn, HasMark, HasDecisionMark}
use Rattle.game.specs.Following.{ForcesWithin, ForcesFrom, LeavesOpenWithin, LeavesOpenFrom, HoldsDutyWithin, HoldsDutyFrom, RefutesWithin}
use Rattle.printed_strategy.specs.Printed.{IsVerdict}
use Rattle.certificate_rules.specs.Certificate.{Certificate, board, mark_at, answers_at, moves_of, Decides}
use Rattle.certificate_rules.specs.Rules.{IsWon}

-- the mark is one that a location or a decision of this version may have
abbrev pub IsMarkOf : Bool → Mark → Type 0
IsMarkOf duty Lost = duty ≡ false
IsMarkOf duty Held = duty ≡ true
IsMarkOf duty (LostIn n) = duty ≡ true
IsMarkOf duty m = Unit {0}

-- a decision's mark is no `goal`, and its move an output
pub record IsChoiceOf (c : Certificate) (m : Mark) (y : ℕ) : Type 0 where
  pub no_goal : m ≢ Goal
  pub version : IsMarkOf c.has_duty m
  pub output : y < 2 ^ c.parts.outputs

-- what the lines of a text give by their form alone, of which the laws have need
pub record IsFitting (c : Certificate) : Type 0 where
  pub some : 0 < length c.locations
  pub marks : (q : ℕ) → IsMarkOf c.has_duty (mark_at c q)
  pub choices : (q x : ℕ) (m : Mark) (y : ℕ) → Decides c q x m y → IsChoiceOf c m y

-- What a certificate promises: the verdict is that of location 0, and each mark that of the game; moves force where it says
-- `win`, leave open where it says `open`, and keep the duty where it says `held`; and answers refute every number where it is
-- not won.
pub record IsRight (c : Certificate) : Type 0 where
  pub verdict : IsVerdict (board c) 0 c.verdict
  pub marks : (q : ℕ) → HasMark (board c) q (mark_at c q)
  pub decisions : (q x : ℕ) (m : Mark) (y : ℕ) → mark_at c q ≢ Goal → Decides c q x m y → HasDecisionMark (board c) q x m
  pub forced : (q n : ℕ) → mark_at c q ≡ Win n → ForcesWithin (board c) (moves_of c) n q
  pub forced_from : (q x n y : ℕ) → mark_at c q ≢ Goal → Decides c q x (Win n) y → ForcesFrom (board c) (moves_of c) n q x
  pub open_within : (q n : ℕ) → mark_at c q ≡ Pending n → LeavesOpenWithin (board c) (moves_of c) n q
  pub open_from : (q x n y : ℕ) → mark_at c q ≢ Goal → Decides c q x (Pending n) y → LeavesOpenFrom (board c) (moves_of c) n q x
  pub refuted : (q n : ℕ) → ¬ IsWon (mark_at c q) → RefutesWithin (board c) (answers_at c) n q
  pub held : (q n : ℕ) → mark_at c q ≡ Held → HoldsDutyWithin (board c) (moves_of c) n q
  pub held_from : (q x y n : ℕ) → mark_at c q ≢ Goal → Decides c q x Held y → HoldsDutyFrom (board c) (moves_of c) n q x
