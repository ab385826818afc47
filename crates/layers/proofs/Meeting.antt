-- The goal can be hoped for exactly where some legal rounds lead to it, where each decision can be won or can't.
use Rattle.std.proofs.Common.{ℕ, zero, suc, ◌<◌, ◌^◌, ◌⊎◌, inl, inr}
use Rattle.game.specs.Board.{Board, width, decision_of, output_of}
use Rattle.forms.specs.declared.partition.Partition.{Partition}
use Rattle.game.specs.Winning.{WinsWithin, IsWinnable, ReachesWithin, CanMeetWithin}
use Rattle.game.specs.Marks.{IsOutOfReach}
use Rattle.game.specs.Playable.{IsPlayable}
use Rattle.game.proofs.Rounds.{output_small, own_round}
use Rattle.game.proofs.WinningLemmas.{reaches-by, reaches-won}

module _ {s : Partition} (b : Board s) (Among : b.Place → Type 0) (p : IsPlayable b Among) (met : (h : b.Place) → Among h → b.IsMet h ⊎ (¬ b.IsMet h)) where
  -- what is won is to be hoped for within as many rounds
  pub wins_reaches : (n : ℕ) (h : b.Place) → Among h → WinsWithin b n h → ReachesWithin b n h
  wins_reaches zero h i w = w
  wins_reaches (suc n) h i (inl w) = inl w
  wins_reaches (suc n) h i (inr w) = elim (met h i) [
    | inl m ↦ inl m
    | inr m ↦ let d = p.decides h i m in inr (d.0, d.1, inl (w d.0 d.1))
  ]

  module _ (decided : (h : b.Place) (x : ℕ) → Among h → b.IsDecision h x → IsWinnable b h x ⊎ (¬ IsWinnable b h x)) where
    -- a legal round to where there is hope leaves hope
    round_reaches : (n : ℕ) (h : b.Place) (a : ℕ) → Among h → ¬ b.IsMet h → a < 2 ^ width s → b.IsLegal h a → ReachesWithin b n (b.after h a) → (k : ℕ) × ReachesWithin b k h
    round_reaches n h a i m l g w =
        let d = p.belongs h i m a l g in
        elim (decided h (decision_of s a) i d) [
          | inl v ↦ (v.0, reaches-by b v.0 h (decision_of s a) d (reaches-won b v.0 h (decision_of s a) v.1))
          | inr v ↦ (suc n, inr (decision_of s a, d, inr (v, output_of s a, output_small s a l, (a, own_round s a l, g, w))))
        ]

    -- what can be met is to be hoped for, by a number that may be greater
    pub can_reaches : (n : ℕ) (h : b.Place) → Among h → CanMeetWithin b n h → (k : ℕ) × ReachesWithin b k h
    can_reaches zero h i w = (zero, w)
    can_reaches (suc n) h i (inl w) = (zero, w)
    can_reaches (suc n) h i (inr (a, l, g, w)) = elim (met h i) [
      | inl m ↦ (zero, m)
      | inr m ↦ let c = can_reaches n (b.after h a) (p.kept h i m a l g) w in round_reaches c.0 h a i m l g c.1
    ]

    -- where no number leaves hope no legal continuation meets the goal
    pub never_met : (h : b.Place) → Among h → ((k : ℕ) → ¬ ReachesWithin b k h) → (n : ℕ) → ¬ CanMeetWithin b n h
    never_met h i f n w = let c = can_reaches n h i w in f c.0 c.1

    -- legal rounds from where the goal is out of reach lead to where it is
    pub out_of_reach_stays : (h : b.Place) (a : ℕ) → Among h → a < 2 ^ width s → b.IsLegal h a → IsOutOfReach b h → IsOutOfReach b (b.after h a)
    out_of_reach_stays h a i l g (v, f) =
        let m : ¬ b.IsMet h = λ e. f zero e in (
          λ k w. let c = round_reaches k h a i m l g (wins_reaches k (b.after h a) (p.kept h i m a l g) w) in f c.0 c.1,
          λ k w. let c = round_reaches k h a i m l g w in f c.0 c.1,
        )
