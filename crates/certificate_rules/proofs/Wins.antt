-- Ranks are the least numbers that win, and moves force them.
use Rattle.std.proofs.Common.{◌≡◌, ◌≢◌, ◌<◌, ◌≤◌, ◌-◌, inl, inr, ℕ, zero, suc, refl, sym, ap, subst, ◌∙◌, arith}
use Rattle.std.proofs.lemmas.Bool.{cases_lt}
use Rattle.game.specs.Board.{IsOutput, EachLeads}
use Rattle.game.specs.Winning.{WinsWithin, DecisionWinsWithin, IsWinnable}
use Rattle.game.specs.Following.{ForcesWithin, ForcesFrom}
use Rattle.game.specs.Marks.{Mark, Goal, Win, Pending, Lost, Held, LostIn}
use Rattle.certificate_rules.specs.Certificate.{Certificate, board, mark_at, moves_of, Decides}
use Rattle.printed_strategy.specs.Strategy.{output_of_choice}
use Rattle.certificate_rules.specs.Rules.{IsRankBelow, IsWinMark, EachDecision}
use Rattle.certificate_rules.specs.Right.{IsFitting}
use Rattle.certificate_rules.proofs.Everywhere.{Everywhere, rank_more, won_of_rank, decided, not_goal, win_no_goal, goal_or}

pub win_of : (m : Mark) → IsWinMark m → (j : ℕ) × (m ≡ Win j)
win_of (Win j) h = (j, refl)
win_of Goal h = absurd h
win_of (Pending j) h = absurd h
win_of Lost h = absurd h
win_of Held h = absurd h
win_of (LostIn j) h = absurd h

-- the same decision under a mark that is equal
pub decides_as : (c : Certificate) (q x : ℕ) (m n : Mark) (y : ℕ) → m ≡ n → Decides c q x m y → Decides c q x n y
decides_as c q x m n y e d = let P : Mark → Type 0 = λ z. Decides c q x z y in subst P e d

-- the move of a decision
pub move_of : (c : Certificate) (q x : ℕ) (m : Mark) (y : ℕ) → Decides c q x m y → y ≡ moves_of c q x
move_of c q x m y d = sym (ap output_of_choice d.chosen)

-- each decision at a location `win k` is `win j` with j at most k
pub bounded : (c : Certificate) → Everywhere c → (q k x : ℕ) (m : Mark) (y : ℕ) → mark_at c q ≡ Win k → Decides c q x m y → (j : ℕ) × (m ≡ Win j) × (j ≤ k)
bounded c v q k x m y e d =
    let ne = not_goal c q (Win k) e (win_no_goal k) in
    let r = v.ranked q ne in
    let P : Mark → Type 0 = λ z. IsWinMark z in
    let w = win_of m (r.won.0 (subst P (sym e) tt) x m y d) in
    (w.0, w.1, r.greatest k e x m y d w.0 w.1)

-- where a decision is `win`, its move leads to lower ranks alone
pub wins_by : (c : Certificate) → Everywhere c → (q j x : ℕ) (m : Mark) (y : ℕ) → mark_at c q ≢ Goal → m ≡ Win j → Decides c q x m y
    → (0 < j) × EachLeads (board c) (λ g. IsRankBelow j (mark_at c g)) q x y
wins_by c v q j x m y ne f d = v.winning q ne x (Win j) y (decides_as c q x m (Win j) y f d)

-- the number of a location `win` is above 0
pub rank_positive : (c : Certificate) → Everywhere c → (q k : ℕ) → mark_at c q ≡ Win k → 0 < k
rank_positive c v q k e =
    let ne = not_goal c q (Win k) e (win_no_goal k) in
    let r = (v.ranked q ne).reached k e in
    (wins_by c v q k r.0 r.1 r.2 ne r.4 r.3).0

-- a location of rank at most n wins within n rounds
pub wins : (c : Certificate) → Everywhere c → IsFitting c → (n q : ℕ) (m : Mark) → mark_at c q ≡ m → IsRankBelow (suc n) m → WinsWithin (board c) n q
wins c v f zero q Goal e h = e
wins c v f zero q (Win k) e h = absurd (let p = rank_positive c v q k e in omega arith)
wins c v f (suc n) q Goal e h = inl e
wins c v f (suc n) q (Win k) e h =
    let ne = not_goal c q (Win k) e (win_no_goal k) in
    inr (λ x dec.
    let d = decided c v q x ne dec in
    let b = bounded c v q k x d.0 d.1 e d.2 in
    let w = wins_by c v q b.0 x d.0 d.1 ne b.1 d.2 in
    let le : b.0 ≤ suc n = let l : b.0 ≤ k = b.2 in omega arith in (
      d.1,
      (f.choices q x d.0 d.1 d.2).output,
      λ a r l. wins c v f n ((board c).after q a) (mark_at c ((board c).after q a)) refl (rank_more (mark_at c ((board c).after q a)) b.0 (suc n) le (w.1 a r l)),
    ))
wins c v f zero q (Pending k) e h = absurd h
wins c v f zero q Lost e h = absurd h
wins c v f zero q Held e h = absurd h
wins c v f zero q (LostIn k) e h = absurd h
wins c v f (suc n) q (Pending k) e h = absurd h
wins c v f (suc n) q Lost e h = absurd h
wins c v f (suc n) q Held e h = absurd h
wins c v f (suc n) q (LostIn k) e h = absurd h

-- the moves force the goal within the rank
pub forces : (c : Certificate) → Everywhere c → IsFitting c → (n q : ℕ) (m : Mark) → mark_at c q ≡ m → IsRankBelow (suc n) m → ForcesWithin (board c) (moves_of c) n q
forces c v f zero q Goal e h = e
forces c v f zero q (Win k) e h = absurd (let p = rank_positive c v q k e in omega arith)
forces c v f (suc n) q Goal e h = inl e
forces c v f (suc n) q (Win k) e h =
    let ne = not_goal c q (Win k) e (win_no_goal k) in
    inr (λ x dec.
    let d = decided c v q x ne dec in
    let b = bounded c v q k x d.0 d.1 e d.2 in
    let w = wins_by c v q b.0 x d.0 d.1 ne b.1 d.2 in
    let le : b.0 ≤ suc n = let l : b.0 ≤ k = b.2 in omega arith in
    let P : ℕ → Type 0 = λ z. EachLeads (board c) (ForcesWithin (board c) (moves_of c) n) q x z in
    subst P (move_of c q x d.0 d.1 d.2) (
    λ a r l. forces c v f n ((board c).after q a) (mark_at c ((board c).after q a)) refl (rank_more (mark_at c ((board c).after q a)) b.0 (suc n) le (w.1 a r l))))
forces c v f zero q (Pending k) e h = absurd h
forces c v f zero q Lost e h = absurd h
forces c v f zero q Held e h = absurd h
forces c v f zero q (LostIn k) e h = absurd h
forces c v f (suc n) q (Pending k) e h = absurd h
forces c v f (suc n) q Lost e h = absurd h
forces c v f (suc n) q Held e h = absurd h
forces c v f (suc n) q (LostIn k) e h = absurd h

-- an output that leads to ranks below n alone makes the decision `win` with a number of at most n
pub number_of_output : (c : Certificate) → Everywhere c → IsFitting c → (q x : ℕ) (m : Mark) (y : ℕ) → mark_at c q ≢ Goal → Decides c q x m y
    → (n z : ℕ) → IsOutput c.parts z → EachLeads (board c) (λ g. IsRankBelow n (mark_at c g)) q x z → (k : ℕ) × (m ≡ Win k) × (k < suc n)
number_of_output c v f q x (Win k) y ne d n z out h = (
  k,
  refl,
  elim (cases_lt k (suc n)) [
    | inl lt ↦ lt
    | inr ge ↦ absurd (v.sooner q ne x (Win k) y d z out (λ a r l. rank_more (mark_at c ((board c).after q a)) n (k - 1) (omega arith) (h a r l)))
  ],
)
number_of_output c v f q x Goal y ne d n z out h = absurd ((f.choices q x Goal y d).no_goal refl)
number_of_output c v f q x (Pending k) y ne d n z out h = absurd (v.sooner q ne x (Pending k) y d z out (λ a r l. won_of_rank (mark_at c ((board c).after q a)) n (h a r l)))
number_of_output c v f q x Lost y ne d n z out h = absurd (v.sooner q ne x Lost y d z out (λ a r l. won_of_rank (mark_at c ((board c).after q a)) n (h a r l)))
number_of_output c v f q x Held y ne d n z out h = absurd (v.sooner q ne x Held y d z out (λ a r l. won_of_rank (mark_at c ((board c).after q a)) n (h a r l)))
number_of_output c v f q x (LostIn k) y ne d n z out h = absurd (v.sooner q ne x (LostIn k) y d z out (λ a r l. won_of_rank (mark_at c ((board c).after q a)) n (h a r l)))

rank_from_win : (c : Certificate) → Everywhere c → (n q : ℕ) → mark_at c q ≢ Goal → EachDecision c q (λ x m y. (k : ℕ) × (m ≡ Win k) × (k < suc (suc n))) → IsRankBelow (suc (suc n)) (mark_at c q)
rank_from_win c v n q ne all =
    let r = v.ranked q ne in
    let each : EachDecision c q (λ x m y. IsWinMark m) = λ x m y d. let a = all x m y d in let P : Mark → Type 0 = λ z. IsWinMark z in subst P (sym a.1) tt in
    let w = win_of (mark_at c q) (r.won.1 each) in
    let s = r.reached w.0 w.1 in
    let a = all s.0 s.1 s.2 s.3 in
    let same : a.0 ≡ w.0 = let u = a.1 in let t = s.4 in cc in
    let lt : w.0 < suc (suc n) = let l = a.2 in omega arith in
    let P : Mark → Type 0 = λ z. IsRankBelow (suc (suc n)) z in
    subst P (sym w.1) lt

-- what wins within n rounds has a rank of at most n
pub rank_of_wins : (c : Certificate) → Everywhere c → IsFitting c → (n q : ℕ) (m : Mark) → mark_at c q ≡ m → WinsWithin (board c) n q → IsRankBelow (suc n) m
rank_of_wins c v f zero q m e w =
    let P : Mark → Type 0 = λ z. IsRankBelow 1 z in
    let one : 0 < 1 = omega arith in
    subst P (sym w ∙ e) one
rank_of_wins c v f (suc n) q m e (inl w) =
    let P : Mark → Type 0 = λ z. IsRankBelow (suc (suc n)) z in
    let one : 0 < suc (suc n) = omega arith in
    subst P (sym w ∙ e) one
rank_of_wins c v f (suc n) q m e (inr w) =
    let P : Mark → Type 0 = λ z. IsRankBelow (suc (suc n)) z in
    elim (goal_or m) [
      | inl g ↦ let one : 0 < suc (suc n) = omega arith in subst P (sym g) one
      | inr ng ↦ subst P e (rank_from_win c v n q (not_goal c q m e ng)
          (λ x k y d. let s = w x d.decision in
          number_of_output c v f q x k y (not_goal c q m e ng) d (suc n) s.0 s.1
          (λ a r l. rank_of_wins c v f n ((board c).after q a) (mark_at c ((board c).after q a)) refl (s.2 a r l))))
    ]

-- what a decision wins within n rounds makes it `win` with a number of at most n
pub rank_of_decision : (c : Certificate) → Everywhere c → IsFitting c → (n q x : ℕ) (m : Mark) (y : ℕ) → mark_at c q ≢ Goal → Decides c q x m y
    → DecisionWinsWithin (board c) n q x → (k : ℕ) × (m ≡ Win k) × (k < suc n)
rank_of_decision c v f zero q x m y ne d w = absurd w.2
rank_of_decision c v f (suc n) q x m y ne d w =
    number_of_output c v f q x m y ne d (suc n) w.0 w.1 (λ a r l. rank_of_wins c v f n ((board c).after q a) (mark_at c ((board c).after q a)) refl (w.2 a r l))

-- a decision `win k` wins within n rounds, k at most n
pub decision_wins : (c : Certificate) → Everywhere c → IsFitting c → (n q x k y : ℕ) → mark_at c q ≢ Goal → Decides c q x (Win k) y → k < suc n → DecisionWinsWithin (board c) n q x
decision_wins c v f zero q x k y ne d lt = absurd (let w = v.winning q ne x (Win k) y d in omega (arith, w.0))
decision_wins c v f (suc n) q x k y ne d lt =
    let w = v.winning q ne x (Win k) y d in (
      y,
      (f.choices q x (Win k) y d).output,
      λ a r l. wins c v f n ((board c).after q a) (mark_at c ((board c).after q a)) refl (rank_more (mark_at c ((board c).after q a)) k (suc n) (omega arith) (w.1 a r l)),
    )

-- and its moves force the goal from it
pub decision_forces : (c : Certificate) → Everywhere c → IsFitting c → (n q x y : ℕ) → mark_at c q ≢ Goal → Decides c q x (Win n) y → ForcesFrom (board c) (moves_of c) n q x
decision_forces c v f zero q x y ne d = absurd (let w = v.winning q ne x (Win 0) y d in omega (arith, w.0))
decision_forces c v f (suc n) q x y ne d =
    let w = v.winning q ne x (Win (suc n)) y d in
    let P : ℕ → Type 0 = λ z. EachLeads (board c) (ForcesWithin (board c) (moves_of c) n) q x z in
    subst P (move_of c q x (Win (suc n)) y d) (
    λ a r l. forces c v f n ((board c).after q a) (mark_at c ((board c).after q a)) refl (w.1 a r l))

-- a decision with another mark can't be won
pub not_winnable : (c : Certificate) → Everywhere c → IsFitting c → (q x : ℕ) (m : Mark) (y : ℕ) → mark_at c q ≢ Goal → Decides c q x m y → ((k : ℕ) → m ≢ Win k) → ¬ IsWinnable (board c) q x
not_winnable c v f q x m y ne d other w = let r = rank_of_decision c v f w.0 q x m y ne d w.1 in other r.0 r.1
