-- Whether a board has a duty matters for marks alone: what can be forced and hoped for doesn't see it.
use Rattle.std.proofs.Common.{ℕ, Bool, zero, suc, inl, inr}
use Rattle.game.specs.Board.{Partition, Board}
use Rattle.game.specs.Winning.{WinsWithin, DecisionWinsWithin, IsWinnable, ReachesWithin, CanMeetWithin, FailsDutyWithin}

-- the board with this answer to whether there is a duty
abbrev pub with_duty : {s : Partition} → Board s → Bool → Board s
with_duty b e = record {
  Place = b.Place;
  after = b.after;
  IsMet = b.IsMet;
  IsBroken = b.IsBroken;
  IsLegal = b.IsLegal;
  IsDecision = b.IsDecision;
  has_duty = e;
}

pub wins_any : {s : Partition} (b : Board s) (e : Bool) (n : ℕ) (h : b.Place) → WinsWithin b n h → WinsWithin (with_duty b e) n h
wins_any b e zero h w = w
wins_any b e (suc n) h (inl m) = inl m
wins_any b e (suc n) h (inr f) = inr (λ x d. let w = f x d in (w.0, w.1, λ a r l. wins_any b e n (b.after h a) (w.2 a r l)))

pub decision_wins_any : {s : Partition} (b : Board s) (e : Bool) (n : ℕ) (h : b.Place) (x : ℕ) → DecisionWinsWithin b n h x → DecisionWinsWithin (with_duty b e) n h x
decision_wins_any b e zero h x w = w
decision_wins_any b e (suc n) h x (y, o, w) = (y, o, λ a r l. wins_any b e n (b.after h a) (w a r l))

-- the board itself has its own answer, so this goes back too
winnable_back : {s : Partition} (b : Board s) (e : Bool) (h : b.Place) (x : ℕ) → IsWinnable (with_duty b e) h x → IsWinnable b h x
winnable_back b e h x (n, w) = (n, decision_wins_any (with_duty b e) b.has_duty n h x w)

pub reaches_any : {s : Partition} (b : Board s) (e : Bool) (n : ℕ) (h : b.Place) → ReachesWithin b n h → ReachesWithin (with_duty b e) n h
reaches_any b e zero h w = w
reaches_any b e (suc n) h (inl m) = inl m
reaches_any b e (suc n) h (inr (x, d, inl w)) = inr (x, d, inl (decision_wins_any b e (suc n) h x w))
reaches_any b e (suc n) h (inr (x, d, inr (never, y, o, (a, r, l, w)))) =
    inr (x, d, inr ((λ v. never (winnable_back b e h x v)), y, o, (a, r, l, reaches_any b e n (b.after h a) w)))

pub can_meet_any : {s : Partition} (b : Board s) (e : Bool) (n : ℕ) (h : b.Place) → CanMeetWithin b n h → CanMeetWithin (with_duty b e) n h
can_meet_any b e zero h w = w
can_meet_any b e (suc n) h (inl m) = inl m
can_meet_any b e (suc n) h (inr (a, k, l, w)) = inr (a, k, l, can_meet_any b e n (b.after h a) w)

pub fails_any : {s : Partition} (b : Board s) (e : Bool) (n : ℕ) (h : b.Place) → FailsDutyWithin b n h → FailsDutyWithin (with_duty b e) n h
fails_any b e zero h w = w
fails_any b e (suc n) h (inl m) = inl m
fails_any b e (suc n) h (inr (x, d, f)) = inr (x, d, λ y o. let s = f y o in (s.0, s.1, s.2, fails_any b e n (b.after h s.0) s.3))
