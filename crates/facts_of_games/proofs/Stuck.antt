-- Places that legal rounds don't leave and at which the goal isn't met are out of reach, and so is a decision that leads to them.
use Rattle.std.proofs.Common.{◌⊎◌, ℕ, zero, suc, inl, inr}
use Rattle.game.specs.Board.{Partition, Board, IsOutput, IsRound}
use Rattle.game.specs.Winning.{DecisionWinsWithin, DecisionReachesWithin, CanMeetWithin}
use Rattle.game.specs.Playable.{IsPlayable}
use Rattle.game.specs.Marks.{IsOutOfReach, IsDecisionOutOfReach}
use Rattle.game.proofs.Hope.{winning_is_meeting, hope_is_meeting}

module _ {s : Partition} (b : Board s) (I : b.Place → Type 0) (p : IsPlayable b I) (unmet : (h : b.Place) → I h → ¬ b.IsMet h) where
  never_can : (n : ℕ) (h : b.Place) → I h → ¬ CanMeetWithin b n h
  never_can zero h i w = unmet h i w
  never_can (suc n) h i (inl m) = unmet h i m
  never_can (suc n) h i (inr (a, k, l, w)) = never_can n (b.after h a) (p.kept h i (unmet h i) a k l) w

  decided : (h : b.Place) → I h → b.IsMet h ⊎ (¬ b.IsMet h)
  decided h i = inr (unmet h i)

  pub out_there : (h : b.Place) → I h → IsOutOfReach b h
  out_there h i = (
    λ n w. never_can n h i (winning_is_meeting b I p decided n h i w),
    λ n w. never_can n h i (hope_is_meeting b I p decided n h i w),
  )

  module _ (h : b.Place) (x : ℕ) (goes : (y : ℕ) → IsOutput s y → (a : ℕ) × IsRound s x y a × b.IsLegal h a)
      (into : (y a : ℕ) → IsRound s x y a → b.IsLegal h a → I (b.after h a)) where
    never_wins : (n : ℕ) → ¬ DecisionWinsWithin b n h x
    never_wins zero w = w.2
    never_wins (suc n) (y, o, w) =
        let r = goes y o in
        (out_there (b.after h r.0) (into y r.0 r.1 r.2)).0 n (w r.0 r.1 r.2)

    never_reaches : (n : ℕ) → ¬ DecisionReachesWithin b n h x
    never_reaches zero w = w
    never_reaches (suc n) (inl w) = never_wins (suc n) w
    never_reaches (suc n) (inr (c, y, o, (a, r, l, w))) = (out_there (b.after h a) (into y a r l)).1 n w

    pub decision_out : IsDecisionOutOfReach b h x
    decision_out = (never_wins, never_reaches)
