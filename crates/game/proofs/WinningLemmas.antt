-- What holds within some rounds holds within more.
use Rattle.std.proofs.Common.{◌≤◌, ℕ, zero, suc, inl, inr}
use Rattle.game.specs.Board.{Partition, Board}
use Rattle.game.specs.Winning.{WinsWithin, DecisionWinsWithin, ReachesWithin, DecisionReachesWithin, FailsDutyWithin}
use Rattle.game.proofs.LeastLemmas.{upwards}

pub wins-suc : {s : Partition} (b : Board s) (n : ℕ) (h : b.Place) → WinsWithin b n h → WinsWithin b (suc n) h
wins-suc b zero h w = inl w
wins-suc b (suc n) h (inl m) = inl m
wins-suc b (suc n) h (inr f) = inr (λ x d. let w = f x d in (w.0, w.1, λ a r l. wins-suc b n (b.after h a) (w.2 a r l)))

-- what is won within n rounds is won within more
pub wins-more : {s : Partition} (b : Board s) (n m : ℕ) (h : b.Place) → n ≤ m → WinsWithin b n h → WinsWithin b m h
wins-more b n m h l w = upwards (λ k. WinsWithin b k h) (λ k. wins-suc b k h) n m l w

pub decision_wins-suc : {s : Partition} (b : Board s) (n : ℕ) (h : b.Place) (x : ℕ) → DecisionWinsWithin b n h x → DecisionWinsWithin b (suc n) h x
decision_wins-suc b zero h x w = absurd w.2
decision_wins-suc b (suc n) h x w = (w.0, w.1, λ a r l. wins-suc b n (b.after h a) (w.2 a r l))

pub decision_wins-more : {s : Partition} (b : Board s) (n m : ℕ) (h : b.Place) (x : ℕ) → n ≤ m → DecisionWinsWithin b n h x → DecisionWinsWithin b m h x
decision_wins-more b n m h x l w = upwards (λ k. DecisionWinsWithin b k h x) (λ k. decision_wins-suc b k h x) n m l w

pub reaches-suc : {s : Partition} (b : Board s) (n : ℕ) (h : b.Place) → ReachesWithin b n h → ReachesWithin b (suc n) h
reaches-suc b zero h w = inl w
reaches-suc b (suc n) h (inl m) = inl m
reaches-suc b (suc n) h (inr (x, d, (inl w))) = inr (x, d, inl (decision_wins-suc b (suc n) h x w))
reaches-suc b (suc n) h (inr (x, d, (inr (c, y, o, (a, r, l, w))))) = inr (x, d, inr (c, y, o, (a, r, l, reaches-suc b n (b.after h a) w)))

pub reaches-more : {s : Partition} (b : Board s) (n m : ℕ) (h : b.Place) → n ≤ m → ReachesWithin b n h → ReachesWithin b m h
reaches-more b n m h l w = upwards (λ k. ReachesWithin b k h) (λ k. reaches-suc b k h) n m l w

pub fails-suc : {s : Partition} (b : Board s) (n : ℕ) (h : b.Place) → FailsDutyWithin b n h → FailsDutyWithin b (suc n) h
fails-suc b zero h w = inl w
fails-suc b (suc n) h (inl m) = inl m
fails-suc b (suc n) h (inr (x, d, f)) = inr (x, d, λ y o. let s = f y o in (s.0, s.1, s.2, fails-suc b n (b.after h s.0) s.3))

pub fails-more : {s : Partition} (b : Board s) (n m : ℕ) (h : b.Place) → n ≤ m → FailsDutyWithin b n h → FailsDutyWithin b m h
fails-more b n m h l w = upwards (λ k. FailsDutyWithin b k h) (λ k. fails-suc b k h) n m l w

-- a place from which a decision reaches the goal reaches it
pub reaches-by : {s : Partition} (b : Board s) (n : ℕ) (h : b.Place) (x : ℕ) → b.IsDecision h x → DecisionReachesWithin b n h x → ReachesWithin b n h
reaches-by b zero h x d w = absurd w
reaches-by b (suc n) h x d w = inr (x, d, w)

-- a decision that wins reaches the goal
pub reaches-won : {s : Partition} (b : Board s) (n : ℕ) (h : b.Place) (x : ℕ) → DecisionWinsWithin b n h x → DecisionReachesWithin b n h x
reaches-won b zero h x w = absurd w.2
reaches-won b (suc n) h x w = inl w
