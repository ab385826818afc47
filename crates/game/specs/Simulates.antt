-- A relation between the places of two boards under which the game is the same.
use Rattle.std.specs.Prelude.{◌≡◌, ◌<◌, ◌^◌, ◌⊎◌, ◌↔◌, ℕ}
use Rattle.game.specs.Board.{Partition, Board, width}

-- related places agree on the goal, the duty and, before the goal, on decisions and legal rounds, which lead to related places
pub record Simulates {s : Partition} (b c : Board s) (R : b.Place → c.Place → Type 0) : Type 0 where
  pub duty : b.has_duty ≡ c.has_duty
  pub decided : (h : b.Place) (g : c.Place) → R h g → b.IsMet h ⊎ (¬ b.IsMet h)
  pub met : (h : b.Place) (g : c.Place) → R h g → b.IsMet h ↔ c.IsMet g
  pub broken : (h : b.Place) (g : c.Place) → R h g → b.IsBroken h ↔ c.IsBroken g
  pub decision : (h : b.Place) (g : c.Place) → R h g → ¬ b.IsMet h → (x : ℕ) → b.IsDecision h x ↔ c.IsDecision g x
  pub legal : (h : b.Place) (g : c.Place) → R h g → ¬ b.IsMet h → (a : ℕ) → a < 2 ^ width s → b.IsLegal h a ↔ c.IsLegal g a
  pub kept : (h : b.Place) (g : c.Place) → R h g → ¬ b.IsMet h → (a : ℕ) → a < 2 ^ width s → b.IsLegal h a → R (b.after h a) (c.after g a)
