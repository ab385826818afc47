-- A decision that gives hope within some rounds gives it within more.
use Rattle.std.proofs.Common.{◌≤◌, inl, inr, ℕ, zero, suc, arith}
use Rattle.game.specs.Board.{Partition, Board}
use Rattle.game.specs.Winning.{DecisionReachesWithin}
use Rattle.game.proofs.WinningLemmas.{decision_wins-more, reaches-more}

pub decision_reaches-more : {s : Partition} (b : Board s) (j k : ℕ) (q : b.Place) (x : ℕ) → j ≤ k → DecisionReachesWithin b j q x → DecisionReachesWithin b k q x
decision_reaches-more b zero k q x le w = absurd w
decision_reaches-more b (suc j) zero q x le w = absurd (omega arith)
decision_reaches-more b (suc j) (suc k) q x le (inl w) = inl (decision_wins-more b (suc j) (suc k) q x le w)
decision_reaches-more b (suc j) (suc k) q x le (inr t) = inr (t.0, t.1, t.2, (t.3.0, t.3.1, t.3.2, reaches-more b j k (b.after q t.3.0) (omega arith) t.3.3))
