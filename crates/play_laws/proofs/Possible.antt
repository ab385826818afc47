-- What can be met can be come near, and the other way round; and what answers refute.
use Rattle.std.proofs.Common.{◌≡◌, ◌⊎◌, ℕ, zero, suc, refl, sym, subst, inl, inr, Option, Some, None}
use Rattle.std.specs.Prelude.{IsSome, MatchOption}
use Rattle.game.specs.Board.{Partition, Board, IsOutput, IsLetter, decision_of, output_of, shown}
use Rattle.game.specs.Winning.{WinsWithin, DecisionWinsWithin, ReachesWithin, DecisionReachesWithin, IsWinnable, CanMeetWithin, CanMeetFrom}
use Rattle.game.specs.Following.{Moves, Answers, RefutesWithin}
use Rattle.game.specs.Marks.{Mark, Goal, Win, Pending, Lost, Held, LostIn, HasDecisionMark, Evades}
use Rattle.game.specs.Playing.{GoesOn, GoByMarks}
use Rattle.game.proofs.Rounds.{output_small, own_round}
use Rattle.game.proofs.WinningLemmas.{wins-suc, reaches-by}

-- a decision can be won or can't, by its mark
pub winnable-or-not : {s : Partition} (b : Board s) (h : b.Place) (x : ℕ) (m : Mark) → HasDecisionMark b h x m → IsWinnable b h x ⊎ (¬ IsWinnable b h x)
winnable-or-not b h x Goal d = absurd d
winnable-or-not b h x (Win n) d = inl (n, d.holds)
winnable-or-not b h x (Pending n) d = inr (λ w. d.0 w.0 w.1)
winnable-or-not b h x Lost d = inr (λ w. d.1.0 w.0 w.1)
winnable-or-not b h x Held d = inr (λ w. d.1.0 w.0 w.1)
winnable-or-not b h x (LostIn n) d = inr (λ w. d.1.0 w.0 w.1)

module _ {s : Partition} (b : Board s) (In : b.Place → Type 0) (move : Moves b) (on : GoesOn b In) (marked : GoByMarks b In move) where
  near-from : (n : ℕ) → ((h : b.Place) → In h → CanMeetWithin b n h → (k : ℕ) × ReachesWithin b k h) → (h : b.Place) (x : ℕ) → In h → ¬ b.IsMet h → b.IsDecision h x
      → CanMeetFrom b (suc n) h x → (k : ℕ) × DecisionReachesWithin b k h x
  near-from n later h x i m d (y, o, (a, r, l, w)) =
      let g = marked h x i m d in
      elim (winnable-or-not b h x g.0 g.1) [
        | inl won ↦ (suc won.0, won-near won.0 won.1)
        | inr c ↦ let z = later (b.after h a) (on.playable.kept h i m a r.letter l) w in (suc z.0, inr (c, y, o, (a, r, l, z.1)))
      ]
    where
      won-near : (n : ℕ) → DecisionWinsWithin b n h x → DecisionReachesWithin b (suc n) h x
      won-near zero w = absurd w.2
      won-near (suc n) w = inl (w.0, w.1, λ a r l. wins-suc b n (b.after h a) (w.2 a r l))

  -- what can be met is come near
  pub near-can : (n : ℕ) (h : b.Place) → In h → CanMeetWithin b n h → (k : ℕ) × ReachesWithin b k h
  near-can zero h i w = (0, w)
  near-can (suc n) h i (inl m) = (0, m)
  near-can (suc n) h i (inr (a, k, l, w)) =
      elim (on.met h i) [
        | inl m ↦ (0, m)
        | inr m ↦
            let x = decision_of s a in
            let d = on.playable.belongs h i m a k l in
            let z = near-from n (near-can n) h x i m d (output_of s a, output_small s a k, (a, own_round s a k, l, w)) in
            (z.0, reaches-by b z.0 h x d z.1)
      ]

  -- the same from a decision
  pub near-can_from : (n : ℕ) (h : b.Place) (x : ℕ) → In h → ¬ b.IsMet h → b.IsDecision h x → CanMeetFrom b n h x → (k : ℕ) × DecisionReachesWithin b k h x
  near-can_from zero h x i m d w = absurd w
  near-can_from (suc n) h x i m d w = near-from n (near-can n) h x i m d w

is_some-by : {A : Type 0} (o : Option A) (f : A) → o ≡ Some f → IsSome o
is_some-by None f e = cc
is_some-by (Some g) f e = refl

-- answers that lead from places that can't be won to such places refute every number of rounds
pub refutes-never : {s : Partition} (b : Board s) (In : b.Place → Type 0) (answer : Answers b) → GoesOn b In
    → ((h : b.Place) → In h → ((k : ℕ) → ¬ WinsWithin b k h) → (f : ℕ → ℕ) × (answer h ≡ Some f) × ((y : ℕ) → IsOutput s y → Evades b h (f (shown s y)) y))
    → (n : ℕ) (h : b.Place) → In h → ((k : ℕ) → ¬ WinsWithin b k h) → RefutesWithin b answer n h
refutes-never b In answer on right zero h i never = let r = right h i never in (never 0, is_some-by (answer h) r.0 r.1)
refutes-never {s = s} b In answer on right (suc n) h i never =
    let r = right h i never in
    let P : (ℕ → ℕ) → Type 0 =
    λ input. (y : ℕ) → IsOutput s y → (a : ℕ) × IsLetter s (input (shown s y)) y a × b.IsLegal h a × RefutesWithin b answer n (b.after h a) in (
      never 0,
      subst (λ o. MatchOption o ⊥ P) (sym r.1) (λ y o. let a = r.2 y o in
          (a.0, a.1, a.2, refutes-never b In answer on right n (b.after h a.0) (on.playable.kept h i (never 0) a.0 a.1.letter a.2) a.3)),
    )
