-- What moves that go by the marks give.
use Rattle.std.proofs.Common.{◌≡◌, ◌≤◌, ℕ, zero, suc, true, sym, ◌∙◌, inl, inr, arith}
use Rattle.std.proofs.lemmas.Bool.{true≢false}
use Rattle.std.proofs.lemmas.Nat.{pow_pos}
use Rattle.game.specs.Board.{Partition, Board, EachLeads, SomeLeads, IsOutput, IsRound}
use Rattle.game.specs.Winning.{WinsWithin, DecisionWinsWithin, ReachesWithin, DecisionReachesWithin, IsWinnable, FailsDutyWithin, KeepsDuty}
use Rattle.game.specs.Following.{Moves, ForcesWithin, ForcesFrom, LeavesOpenWithin, LeavesOpenFrom, HoldsDutyWithin, HoldsDutyFrom}
use Rattle.game.specs.Marks.{Mark, Goal, Win, Pending, Lost, Held, LostIn, HasMark, HasDecisionMark, IsMove, IsOutOfReach, IsDecisionOutOfReach}
use Rattle.game.specs.Playing.{GoesOn, GoByMarks, Keeps, KeepsFrom}
use Rattle.game.proofs.Hope.{winning_is_hope}
use Rattle.game.proofs.LeastLemmas.{least-below}
use Rattle.game.proofs.WinningLemmas.{wins-more, reaches-more, reaches-by, reaches-won}

-- the move for a decision that is won within n rounds wins within n
move-wins : {s : Partition} (b : Board s) (h : b.Place) (x n : ℕ) (m : Mark) (y : ℕ) → HasDecisionMark b h x m → IsMove b h x m y
    → DecisionWinsWithin b (suc n) h x → EachLeads b (WinsWithin b n) h x y
move-wins b h x n Goal y d v w = absurd d
move-wins b h x n (Win zero) y d v w = absurd d.holds.2
move-wins b h x n (Win (suc k)) y d v w =
    let l : k ≤ n = omega (arith, least-below (λ i. DecisionWinsWithin b i h x) (suc k) (suc n) d w) in
    λ a r g. wins-more b k n (b.after h a) l (v.least.holds a r g)
move-wins b h x n (Pending k) y d v w = absurd (d.0 (suc n) w)
move-wins b h x n Lost y d v w = absurd (d.1.0 (suc n) w)
move-wins b h x n Held y d v w = absurd (d.1.0 (suc n) w)
move-wins b h x n (LostIn k) y d v w = absurd (d.1.0 (suc n) w)

-- the move for a decision that can't be won and from which the goal is reached within n rounds reaches it within n
move-reaches : {s : Partition} (b : Board s) (h : b.Place) (x n : ℕ) (m : Mark) (y : ℕ) → HasDecisionMark b h x m → IsMove b h x m y
    → ¬ IsWinnable b h x → DecisionReachesWithin b (suc n) h x → SomeLeads b (ReachesWithin b n) h x y
move-reaches b h x n Goal y d v c w = absurd d
move-reaches b h x n (Win k) y d v c w = absurd (c (k, d.holds))
move-reaches b h x n (Pending zero) y d v c w = absurd v
move-reaches b h x n (Pending (suc k)) y d v c w =
    let l : k ≤ n = omega (arith, least-below (λ i. DecisionReachesWithin b i h x) (suc k) (suc n) d.1 w) in
    let s = v.least.holds in
    (s.0, s.1, s.2, reaches-more b k n (b.after h s.0) l s.3)
move-reaches b h x n Lost y d v c w = absurd (d.1.1 (suc n) w)
move-reaches b h x n Held y d v c w = absurd (d.1.1 (suc n) w)
move-reaches b h x n (LostIn k) y d v c w = absurd (d.1.1 (suc n) w)

-- an output of a move is one
pub move-output : {s : Partition} (b : Board s) (h : b.Place) (x : ℕ) (m : Mark) (y : ℕ) → HasDecisionMark b h x m → IsMove b h x m y → IsOutput s y
move-output b h x Goal y d v = absurd d
move-output b h x (Win n) y d v = v.output
move-output b h x (Pending zero) y d v = absurd v
move-output b h x (Pending (suc n)) y d v = v.output
move-output {s = s} b h x Lost y d v = let p = pow_pos s.outputs in omega (arith, v, p)
move-output b h x Held y d v = v.output
move-output {s = s} b h x (LostIn n) y d v = let p = pow_pos s.outputs in omega (arith, v, p)

module _ {s : Partition} (b : Board s) (In : b.Place → Type 0) (move : Moves b) (on : GoesOn b In) (marked : GoByMarks b In move) where
  -- where the goal can be forced within n rounds, the moves force it within n
  pub forces-won : (n : ℕ) (h : b.Place) → In h → WinsWithin b n h → ForcesWithin b move n h
  forces-won zero h i w = w
  forces-won (suc n) h i (inl m) = inl m
  forces-won (suc n) h i (inr f) =
      elim (on.met h i) [
        | inl m ↦ inl m
        | inr m ↦ inr (λ x d a r l.
            let g = marked h x i m d in
            forces-won n (b.after h a) (on.playable.kept h i m a r.letter l) (move-wins b h x n g.0 (move h x) g.1 g.2 (f x d) a r l))
      ]

  -- the same from a decision
  pub forces-won_from : (n : ℕ) (h : b.Place) (x : ℕ) → In h → ¬ b.IsMet h → b.IsDecision h x → DecisionWinsWithin b n h x → ForcesFrom b move n h x
  forces-won_from zero h x i m d w = absurd w.2
  forces-won_from (suc n) h x i m d w = λ a r l.
      let g = marked h x i m d in
      forces-won n (b.after h a) (on.playable.kept h i m a r.letter l) (move-wins b h x n g.0 (move h x) g.1 g.2 w a r l)

  -- moves that force the goal leave it open
  pub leaves-forced : (n : ℕ) (h : b.Place) → In h → ForcesWithin b move n h → LeavesOpenWithin b move n h
  leaves-forced zero h i w = w
  leaves-forced (suc n) h i (inl m) = inl m
  leaves-forced (suc n) h i (inr f) =
      elim (on.met h i) [
        | inl m ↦ inl m
        | inr m ↦
            let x = on.playable.decides h i m in
            let g = marked h x.0 i m x.1 in
            let a = on.playable.goes_on h i m x.0 (move h x.0) x.1 (move-output b h x.0 g.0 (move h x.0) g.1 g.2) in
            inr (x.0, x.1, (a.0, a.1, a.2, leaves-forced n (b.after h a.0) (on.playable.kept h i m a.0 a.1.letter a.2) (f x.0 x.1 a.0 a.1 a.2)))
      ]

  leaves-won_from : (n : ℕ) (h : b.Place) (x : ℕ) → In h → ¬ b.IsMet h → b.IsDecision h x → DecisionWinsWithin b (suc n) h x → SomeLeads b (LeavesOpenWithin b move n) h x (move h x)
  leaves-won_from n h x i m d w =
      let g = marked h x i m d in
      let a = on.playable.goes_on h i m x (move h x) d (move-output b h x g.0 (move h x) g.1 g.2) in
      let k = on.playable.kept h i m a.0 a.1.letter a.2 in
      (a.0, a.1, a.2, leaves-forced n (b.after h a.0) k (forces-won n (b.after h a.0) k (move-wins b h x n g.0 (move h x) g.1 g.2 w a.0 a.1 a.2)))

  leaves-step : (n : ℕ) → ((h : b.Place) → In h → ReachesWithin b n h → LeavesOpenWithin b move n h)
      → (h : b.Place) (x : ℕ) → In h → ¬ b.IsMet h → b.IsDecision h x → DecisionReachesWithin b (suc n) h x → SomeLeads b (LeavesOpenWithin b move n) h x (move h x)
  leaves-step n later h x i m d (inl w) = leaves-won_from n h x i m d w
  leaves-step n later h x i m d (inr w) =
      let g = marked h x i m d in
      let s = move-reaches b h x n g.0 (move h x) g.1 g.2 w.0 (inr w) in
      (s.0, s.1, s.2, later (b.after h s.0) (on.playable.kept h i m s.0 s.1.letter s.2) s.3)

  -- where the goal can be met within n rounds, the moves leave it open within n
  pub leaves-reached : (n : ℕ) (h : b.Place) → In h → ReachesWithin b n h → LeavesOpenWithin b move n h
  leaves-reached zero h i w = w
  leaves-reached (suc n) h i (inl m) = inl m
  leaves-reached (suc n) h i (inr w) =
      elim (on.met h i) [
        | inl m ↦ inl m
        | inr m ↦ inr (w.0, w.1, leaves-step n (leaves-reached n) h w.0 i m w.1 w.2)
      ]

  -- the same from a decision
  pub leaves-reached_from : (n : ℕ) (h : b.Place) (x : ℕ) → In h → ¬ b.IsMet h → b.IsDecision h x → DecisionReachesWithin b n h x → LeavesOpenFrom b move n h x
  leaves-reached_from zero h x i m d w = w
  leaves-reached_from (suc n) h x i m d w = leaves-step n (leaves-reached n) h x i m d w

  -- a decision of a place that is out of reach is out of reach
  pub decision-out : (h : b.Place) (x : ℕ) → b.IsDecision h x → IsOutOfReach b h → IsDecisionOutOfReach b h x
  decision-out h x d out =
      (λ k w. out.1 k (reaches-by b k h x d (reaches-won b k h x w)), λ k w. out.1 k (reaches-by b k h x d w))

  -- so is each place to which a legal round with it leads
  pub out-after : (h : b.Place) (x y a : ℕ) → In h → ¬ b.IsMet h → b.IsDecision h x → IsOutput s y → IsRound s x y a → b.IsLegal h a
      → IsDecisionOutOfReach b h x → IsOutOfReach b (b.after h a)
  out-after h x y a i m d o r l out =
      let next = on.playable.kept h i m a r.letter l in
      let none : ¬ IsWinnable b h x = λ w. out.0 w.0 w.1 in
      let never : (k : ℕ) → ¬ ReachesWithin b k (b.after h a) = λ k w. out.1 (suc k) (inr (none, y, o, (a, r, l, w))) in
      (λ k w. never k (winning_is_hope b In on.playable on.met k (b.after h a) next w), never)

  -- the move for a decision that is held keeps the duty, where the environment can't break it
  held-move : (h : b.Place) (x : ℕ) (m : Mark) (y : ℕ) → b.IsDecision h x → HasDecisionMark b h x m → IsMove b h x m y → b.has_duty ≡ true
      → IsDecisionOutOfReach b h x → ((k : ℕ) → ¬ FailsDutyWithin b k h) → KeepsDuty b h x y
  held-move h x Goal y d g v duty out holds = absurd g
  held-move h x (Win n) y d g v duty out holds = absurd (out.0 n g.holds)
  held-move h x (Pending n) y d g v duty out holds = absurd (out.1 n g.1.holds)
  held-move h x Lost y d g v duty out holds = absurd (true≢false (sym duty ∙ g.0))
  held-move h x Held y d g v duty out holds = v.least.holds
  held-move h x (LostIn zero) y d g v duty out holds = absurd g.3.holds
  held-move h x (LostIn (suc n)) y d g v duty out holds = absurd (holds (suc n) (inr (x, d, g.3.holds)))

  -- where the goal is out of reach and the environment can't break the duty, the moves keep it for every number of rounds
  pub holds-held : (n : ℕ) (h : b.Place) → In h → b.has_duty ≡ true → IsOutOfReach b h → ((k : ℕ) → ¬ FailsDutyWithin b k h) → HoldsDutyWithin b move n h
  holds-held zero h i duty out holds = holds 0
  holds-held (suc n) h i duty out holds = (
    holds 0,
    λ x d a r l.
        let m : ¬ b.IsMet h = λ met. out.0 0 met in
        let g = marked h x i m d in
        let o = decision-out h x d out in
        let y = move-output b h x g.0 (move h x) g.1 g.2 in
        let v = held-move h x g.0 (move h x) d g.1 g.2 duty o holds in
        holds-held n (b.after h a) (on.playable.kept h i m a r.letter l) duty (out-after h x (move h x) a i m d y r l o) (v a r l),
  )

  -- what the moves give at a place with its mark
  pub keeps-mark : (h : b.Place) (m : Mark) → In h → HasMark b h m → Keeps b move h m
  keeps-mark h Goal i w = tt
  keeps-mark h (Win n) i w = forces-won n h i w.1.holds
  keeps-mark h (Pending n) i w = leaves-reached n h i w.1.holds
  keeps-mark h Lost i w = tt
  keeps-mark h Held i w = λ n. holds-held n h i w.0 w.1 w.2
  keeps-mark h (LostIn n) i w = tt

  held-output : (h : b.Place) (x : ℕ) (m : Mark) (y : ℕ) → HasDecisionMark b h x m → IsMove b h x m y → HasDecisionMark b h x Held → KeepsDuty b h x y
  held-output h x Goal y g v w = absurd g
  held-output h x (Win n) y g v w = absurd (w.1.0 n g.holds)
  held-output h x (Pending n) y g v w = absurd (w.1.1 n g.1.holds)
  held-output h x Lost y g v w = absurd (true≢false (sym w.0 ∙ g.0))
  held-output h x Held y g v w = v.least.holds
  held-output h x (LostIn n) y g v w = absurd (g.2 w.2)

  -- a held decision stands at a place that hasn't broken the duty
  held-whole : (h : b.Place) (x : ℕ) → In h → ¬ b.IsMet h → b.IsDecision h x → HasDecisionMark b h x Held → ¬ b.IsBroken h
  held-whole h x i c d w broken =
      let y = w.2 in
      let a = on.playable.goes_on h i c x y.0 d y.1 in
      y.2 a.0 a.1 a.2 0 (on.broken h a.0 i c a.1.letter a.2 broken)

  holds-held_from : (n : ℕ) (h : b.Place) (x : ℕ) → In h → ¬ b.IsMet h → b.IsDecision h x → HasDecisionMark b h x Held → HoldsDutyFrom b move n h x
  holds-held_from zero h x i c d w = held-whole h x i c d w
  holds-held_from (suc n) h x i c d w = (
    held-whole h x i c d w,
    λ a r l.
        let g = marked h x i c d in
        let v = held-output h x g.0 (move h x) g.1 g.2 w in
        let y = move-output b h x g.0 (move h x) g.1 g.2 in
        holds-held n (b.after h a) (on.playable.kept h i c a r.letter l) w.0 (out-after h x (move h x) a i c d y r l w.1) (v a r l),
  )

  -- what they give from a decision with its mark
  pub keeps-mark_from : (h : b.Place) (x : ℕ) (m : Mark) → In h → ¬ b.IsMet h → b.IsDecision h x → HasDecisionMark b h x m → KeepsFrom b move h x m
  keeps-mark_from h x Goal i c d w = tt
  keeps-mark_from h x (Win n) i c d w = forces-won_from n h x i c d w.holds
  keeps-mark_from h x (Pending n) i c d w = leaves-reached_from n h x i c d w.1.holds
  keeps-mark_from h x Lost i c d w = tt
  keeps-mark_from h x Held i c d w = λ n. holds-held_from n h x i c d w
  keeps-mark_from h x (LostIn n) i c d w = tt
