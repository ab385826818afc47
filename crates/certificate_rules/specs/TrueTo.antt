-- A certificate whose marks, moves and answers are those of its game: what a printed strategy gives.
use Rattle.std.specs.Prelude.{◌≢◌, ◌<◌, ◌^◌, ℕ, MatchOption}
use Rattle.game.specs.Board.{IsOutput, IsLetter, width, shown}
use Rattle.game.specs.Winning.{WinsWithin}
use Rattle.game.specs.Marks.{Mark, Goal, HasMark, HasDecisionMark, IsMove}
use Rattle.certificate_rules.specs.Certificate.{Certificate, board, mark_at, answers_at, Decides}
use Rattle.certificate_rules.specs.Rules.{CanPlay, IsRankVerdict, IsWon}
use Rattle.certificate_rules.specs.Right.{IsFitting}

pub record IsTrueTo (c : Certificate) : Type 0 where
  pub fitting : IsFitting c
  pub play : (q : ℕ) → mark_at c q ≢ Goal → CanPlay c.parts.first c q
  pub marks : (q : ℕ) → HasMark (board c) q (mark_at c q)
  pub decisions : (q x : ℕ) (m : Mark) (y : ℕ) → mark_at c q ≢ Goal → Decides c q x m y → HasDecisionMark (board c) q x m
  pub moves : (q x : ℕ) (m : Mark) (y : ℕ) → mark_at c q ≢ Goal → Decides c q x m y → IsMove (board c) q x m y
  pub answers : (q : ℕ) → ¬ IsWon (mark_at c q) → MatchOption (answers_at c q) ⊥ (λ input. (y : ℕ) → IsOutput c.parts y
      → (a : ℕ) × IsLetter c.parts (input (shown c.parts y)) y a × (board c).IsLegal q a × ((k : ℕ) → ¬ WinsWithin (board c) k ((board c).after q a)))
  pub broken : (q a : ℕ) → a < 2 ^ width c.parts → (board c).IsBroken q → (board c).IsLegal q a → (board c).IsBroken ((board c).after q a)
  pub verdict : IsRankVerdict c.verdict (mark_at c 0)
