-- Where the goal can be met at all, no strategy that wins where it can loses all hope of it.
use Rattle.std.proofs.Common.{◌⊎◌, ℕ, zero, suc, inl, inr}
use Rattle.game.specs.Board.{Partition, Board, decision_of, output_of}
use Rattle.game.specs.Winning.{WinsWithin, ReachesWithin, CanMeetWithin, CanMeetFrom, DecisionWinsWithin, DecisionReachesWithin}
use Rattle.game.specs.Playable.{IsPlayable}
use Rattle.game.proofs.Rounds.{output_small, own_round}

-- a decision that is won counts
won_counts : {s : Partition} (b : Board s) (h : b.Place) (x : ℕ) → b.IsDecision h x → (n : ℕ) → DecisionWinsWithin b n h x → (k : ℕ) × ReachesWithin b k h
won_counts b h x d zero (y, o, w) = absurd w
won_counts b h x d (suc n) w = (suc n, inr (x, d, inl w))

-- What can be met can't be out of reach. Which decisions are won is not decided on every board, so this is said by what is
-- not so.
pub meeting_is_hoped_for : {s : Partition} (b : Board s) (I : b.Place → Type 0) → IsPlayable b I → (n : ℕ) (h : b.Place) → I h
    → ((h : b.Place) → I h → b.IsMet h ⊎ (¬ b.IsMet h)) → CanMeetWithin b n h → ¬ (¬ ((k : ℕ) × ReachesWithin b k h))
meeting_is_hoped_for b I p zero h i decided m = λ never. never (zero, m)
meeting_is_hoped_for b I p (suc n) h i decided (inl m) = λ never. never (zero, m)
meeting_is_hoped_for {s = s} b I p (suc n) h i decided (inr (a, k, l, w)) = λ never.
    let unmet : ¬ b.IsMet h = λ m. never (zero, m) in
    let x = decision_of s a in
    let d = p.belongs h i unmet a k l in
    meeting_is_hoped_for b I p n (b.after h a) (p.kept h i unmet a k l) decided w (λ (j, r).
    never (
      suc j,
      inr (
        x,
        d,
        inr (
          (λ (m, v). never (won_counts b h x d m v)),
          output_of s a,
          output_small s a k,
          (a, own_round s a k, l, r),
        ),
      ),
    ))

-- what is out of reach can't be met
pub out_of_reach_is_never_met : {s : Partition} (b : Board s) (I : b.Place → Type 0) → IsPlayable b I → ((h : b.Place) → I h → b.IsMet h ⊎ (¬ b.IsMet h))
    → (h : b.Place) → I h → ((k : ℕ) → ¬ ReachesWithin b k h) → (n : ℕ) → ¬ CanMeetWithin b n h
out_of_reach_is_never_met b I p decided h i none n m = meeting_is_hoped_for b I p n h i decided m (λ (k, r). none k r)

-- what is won can be met
pub winning_is_meeting : {s : Partition} (b : Board s) (I : b.Place → Type 0) → IsPlayable b I → ((h : b.Place) → I h → b.IsMet h ⊎ (¬ b.IsMet h))
    → (n : ℕ) (h : b.Place) → I h → WinsWithin b n h → CanMeetWithin b n h
winning_is_meeting b I p decided zero h i w = w
winning_is_meeting b I p decided (suc n) h i (inl m) = inl m
winning_is_meeting {s = s} b I p decided (suc n) h i (inr w) =
    elim (decided h i) [
      | inl m ↦ inl m
      | inr unmet ↦
          let d = p.decides h i unmet in
          let v = w d.0 d.1 in
          let r = p.goes_on h i unmet d.0 v.0 d.1 v.1 in
          inr (r.0, r.1.letter, r.2, winning_is_meeting b I p decided n (b.after h r.0) (p.kept h i unmet r.0 r.1.letter r.2) (v.2 r.0 r.1 r.2))
    ]

-- what is hoped for can be met
pub hope_is_meeting : {s : Partition} (b : Board s) (I : b.Place → Type 0) → IsPlayable b I → ((h : b.Place) → I h → b.IsMet h ⊎ (¬ b.IsMet h))
    → (n : ℕ) (h : b.Place) → I h → ReachesWithin b n h → CanMeetWithin b n h
hope_is_meeting b I p decided zero h i w = w
hope_is_meeting b I p decided (suc n) h i (inl m) = inl m
hope_is_meeting {s = s} b I p decided (suc n) h i (inr (x, d, inl (y, o, w))) =
    elim (decided h i) [
      | inl m ↦ inl m
      | inr unmet ↦
          let r = p.goes_on h i unmet x y d o in
          inr (r.0, r.1.letter, r.2, winning_is_meeting b I p decided n (b.after h r.0) (p.kept h i unmet r.0 r.1.letter r.2) (w r.0 r.1 r.2))
    ]
hope_is_meeting {s = s} b I p decided (suc n) h i (inr (x, d, inr (never, y, o, (a, round, l, w)))) =
    elim (decided h i) [
      | inl m ↦ inl m
      | inr unmet ↦ inr (a, round.letter, l, hope_is_meeting b I p decided n (b.after h a) (p.kept h i unmet a round.letter l) w)
    ]

-- the same from a decision
pub winning_is_meeting_from : {s : Partition} (b : Board s) (I : b.Place → Type 0) → IsPlayable b I → ((h : b.Place) → I h → b.IsMet h ⊎ (¬ b.IsMet h))
    → (n : ℕ) (h : b.Place) (x : ℕ) → I h → ¬ b.IsMet h → b.IsDecision h x → DecisionWinsWithin b n h x → CanMeetFrom b n h x
winning_is_meeting_from b I p decided zero h x i unmet d w = absurd w.2
winning_is_meeting_from b I p decided (suc n) h x i unmet d (y, o, w) =
    let r = p.goes_on h i unmet x y d o in
    (y, o, (r.0, r.1, r.2, winning_is_meeting b I p decided n (b.after h r.0) (p.kept h i unmet r.0 r.1.letter r.2) (w r.0 r.1 r.2)))

pub hope_is_meeting_from : {s : Partition} (b : Board s) (I : b.Place → Type 0) → IsPlayable b I → ((h : b.Place) → I h → b.IsMet h ⊎ (¬ b.IsMet h))
    → (n : ℕ) (h : b.Place) (x : ℕ) → I h → ¬ b.IsMet h → b.IsDecision h x → DecisionReachesWithin b n h x → CanMeetFrom b n h x
hope_is_meeting_from b I p decided zero h x i unmet d w = absurd w
hope_is_meeting_from b I p decided (suc n) h x i unmet d (inl w) = winning_is_meeting_from b I p decided (suc n) h x i unmet d w
hope_is_meeting_from b I p decided (suc n) h x i unmet d (inr (never, y, o, (a, round, l, w))) =
    (y, o, (a, round, l, hope_is_meeting b I p decided n (b.after h a) (p.kept h i unmet a round.letter l) w))

-- what is won is hoped for
pub winning_is_hope : {s : Partition} (b : Board s) (I : b.Place → Type 0) → IsPlayable b I → ((h : b.Place) → I h → b.IsMet h ⊎ (¬ b.IsMet h))
    → (n : ℕ) (h : b.Place) → I h → WinsWithin b n h → ReachesWithin b n h
winning_is_hope b I p decided zero h i w = w
winning_is_hope b I p decided (suc n) h i (inl m) = inl m
winning_is_hope b I p decided (suc n) h i (inr f) =
    elim (decided h i) [
      | inl m ↦ inl m
      | inr unmet ↦ let x = p.decides h i unmet in inr (x.0, x.1, inl (f x.0 x.1))
    ]
