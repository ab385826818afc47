-- What a board is to have where the game is played.
use Rattle.std.specs.Prelude.{◌<◌, ◌^◌, ℕ}
use Rattle.game.specs.Board.{Partition, Board, IsOutput, IsRound, width, decision_of}

-- The places of I go on to such places by legal rounds, each of which belongs to a decision; before the goal there is a
-- decision, and to each decision a legal round with each output.
pub record IsPlayable {s : Partition} (b : Board s) (I : b.Place → Type 0) : Type 0 where
  pub kept : (h : b.Place) → I h → ¬ b.IsMet h → (a : ℕ) → a < 2 ^ width s → b.IsLegal h a → I (b.after h a)
  pub belongs : (h : b.Place) → I h → ¬ b.IsMet h → (a : ℕ) → a < 2 ^ width s → b.IsLegal h a → b.IsDecision h (decision_of s a)
  pub decides : (h : b.Place) → I h → ¬ b.IsMet h → (x : ℕ) × b.IsDecision h x
  pub goes_on : (h : b.Place) → I h → ¬ b.IsMet h → (x y : ℕ) → b.IsDecision h x → IsOutput s y → (a : ℕ) × IsRound s x y a × b.IsLegal h a
