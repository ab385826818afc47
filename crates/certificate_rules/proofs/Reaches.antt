-- Values are the least numbers that leave hope, and moves leave it open.
use Rattle.std.proofs.Common.{◌≡◌, ◌≢◌, ◌<◌, ◌-◌, ◌⊎◌, inl, inr, ℕ, zero, suc, refl, sym, subst, arith}
use Rattle.std.proofs.lemmas.Bool.{cases_lt}
use Rattle.game.specs.Board.{IsOutput, SomeLeads}
use Rattle.game.specs.Winning.{DecisionWinsWithin, IsWinnable, ReachesWithin, DecisionReachesWithin}
use Rattle.game.specs.Following.{LeavesOpenWithin, LeavesOpenFrom}
use Rattle.game.specs.Marks.{Mark, Goal, Win, Pending, Lost, Held, LostIn}
use Rattle.certificate_rules.specs.Certificate.{Certificate, board, mark_at, moves_of, Decides}
use Rattle.certificate_rules.specs.Rules.{IsRankBelow, IsOutMark, IsNumber, HasNumber, HasValueBelow, IsValued}
use Rattle.certificate_rules.specs.Right.{IsFitting}
use Rattle.certificate_rules.proofs.Everywhere.{Everywhere, value_more, decided, not_goal, win_no_goal, goal_or, legal_letter}
use Rattle.certificate_rules.proofs.Wins.{rank_of_decision, decision_wins, not_winnable, move_of, decides_as}

-- the mark is `win` or `open` with a number below n
abbrev pub IsNumberBelow : ℕ → Mark → Type 0
IsNumberBelow n (Win k) = k < n
IsNumberBelow n (Pending k) = k < n
IsNumberBelow n m = ⊥

-- a decision with a number below n gives its location a value below n
pub value_of_decision : (c : Certificate) (n q x : ℕ) (m : Mark) (y : ℕ) → Decides c q x m y → IsNumberBelow n m → HasValueBelow c n q
value_of_decision c n q x (Win k) y d h = inr (k, (x, Win k, y, d, refl), h)
value_of_decision c n q x (Pending k) y d h = inr (k, (x, Pending k, y, d, refl), h)
value_of_decision c n q x Goal y d h = absurd h
value_of_decision c n q x Lost y d h = absurd h
value_of_decision c n q x Held y d h = absurd h
value_of_decision c n q x (LostIn k) y d h = absurd h

-- a location of which the mark says that the goal is out of reach has no number
pub no_numbers : (c : Certificate) (q : ℕ) (m : Mark) → IsOutMark m → IsValued c q m → (k : ℕ) → ¬ HasNumber c q k
no_numbers c q Lost o h = h
no_numbers c q Held o h = h
no_numbers c q (LostIn n) o h = h
no_numbers c q Goal o h = absurd o
no_numbers c q (Win n) o h = absurd o
no_numbers c q (Pending n) o h = absurd o

pub out_no_goal : (m : Mark) → IsOutMark m → m ≢ Goal
out_no_goal m o e = let P : Mark → Type 0 = λ z. IsOutMark z in subst P e o

-- out of reach there is no value
pub out_has_none : (c : Certificate) → Everywhere c → (n q : ℕ) → IsOutMark (mark_at c q) → ¬ HasValueBelow c n q
out_has_none c v n q o (inl h) = out_no_goal (mark_at c q) o h.0
out_has_none c v n q o (inr h) = no_numbers c q (mark_at c q) o (v.valued q (out_no_goal (mark_at c q) o)) h.0 h.1

-- how a decision with a number gives hope
hope_of : (c : Certificate) → Everywhere c → IsFitting c → (n q x : ℕ) (m : Mark) (y : ℕ) → mark_at c q ≢ Goal → Decides c q x m y → IsNumberBelow (suc (suc n)) m
    → DecisionWinsWithin (board c) (suc n) q x ⊎ ((¬ IsWinnable (board c) q x) × (z : ℕ) × IsOutput c.parts z × SomeLeads (board c) (HasValueBelow c (suc n)) q x z)
hope_of c v f n q x (Win k) y ne d h = inl (decision_wins c v f (suc n) q x k y ne d h)
hope_of c v f n q x (Pending k) y ne d h =
    let s = (v.hopeful q ne x (Pending k) y d).1 in
    inr (not_winnable c v f q x (Pending k) y ne d (λ j e. cc), y, (f.choices q x (Pending k) y d).output, (s.0, s.1, s.2, value_more c ((board c).after q s.0) k (suc n) (omega arith) s.3))
hope_of c v f n q x Goal y ne d h = absurd h
hope_of c v f n q x Lost y ne d h = absurd h
hope_of c v f n q x Held y ne d h = absurd h
hope_of c v f n q x (LostIn k) y ne d h = absurd h

pub number_below : (m : Mark) (k n : ℕ) → IsNumber m k → k < n → IsNumberBelow n m
number_below (Win j) k n e h = omega arith
number_below (Pending j) k n e h = omega arith
number_below Goal k n e h = e
number_below Lost k n e h = e
number_below Held k n e h = e
number_below (LostIn j) k n e h = e

-- a decision's number is above 0
number_positive : (c : Certificate) → Everywhere c → (q x : ℕ) (m : Mark) (y : ℕ) → mark_at c q ≢ Goal → Decides c q x m y → ¬ IsNumberBelow 1 m
number_positive c v q x (Win k) y ne d h = let w = v.winning q ne x (Win k) y d in omega (arith, w.0)
number_positive c v q x (Pending k) y ne d h = let w = v.hopeful q ne x (Pending k) y d in omega (arith, w.0)
number_positive c v q x Goal y ne d h = h
number_positive c v q x Lost y ne d h = h
number_positive c v q x Held y ne d h = h
number_positive c v q x (LostIn k) y ne d h = h

-- a value of at most n leaves hope within n rounds
pub reaches : (c : Certificate) → Everywhere c → IsFitting c → (n q : ℕ) → HasValueBelow c (suc n) q → ReachesWithin (board c) n q
reaches c v f zero q (inl h) = h.0
reaches c v f (suc n) q (inl h) = inl h.0
reaches c v f zero q (inr h) =
    elim (goal_or (mark_at c q)) [
      | inl g ↦ g
      | inr ne ↦ let s = h.1 in absurd (number_positive c v q s.0 s.1 s.2 ne s.3 (number_below s.1 h.0 1 s.4 h.2))
    ]
reaches c v f (suc n) q (inr h) =
    elim (goal_or (mark_at c q)) [
      | inl g ↦ inl g
      | inr ne ↦ let s = h.1 in
          elim (hope_of c v f n q s.0 s.1 s.2 ne s.3 (number_below s.1 h.0 (suc (suc n)) s.4 h.2)) [
            | inl w ↦ inr (s.0, s.3.decision, inl w)
            | inr t ↦ inr (s.0, s.3.decision, inr (t.0, t.1, t.2, (t.3.0, t.3.1, t.3.2, reaches c v f n ((board c).after q t.3.0) t.3.3)))
          ]
    ]

-- the number that a decision has where it gives hope
number_of_hope : (c : Certificate) → Everywhere c → IsFitting c → (n q x : ℕ) (m : Mark) (y : ℕ) → mark_at c q ≢ Goal → Decides c q x m y
    → DecisionWinsWithin (board c) (suc n) q x ⊎ ((¬ IsWinnable (board c) q x) × (z : ℕ) × IsOutput c.parts z × SomeLeads (board c) (HasValueBelow c (suc n)) q x z)
    → IsNumberBelow (suc (suc n)) m
number_of_hope c v f n q x m y ne d (inl w) =
    let r = rank_of_decision c v f (suc n) q x m y ne d w in
    let P : Mark → Type 0 = λ z. IsNumberBelow (suc (suc n)) z in
    let lt : r.0 < suc (suc n) = r.2 in
    subst P (sym r.1) lt
number_of_hope c v f n q x (Win k) y ne d (inr t) = absurd (t.0 (k, decision_wins c v f k q x k y ne d (omega arith)))
number_of_hope c v f n q x (Pending k) y ne d (inr t) =
    elim (cases_lt k (suc (suc n))) [
      | inl lt ↦ lt
      | inr ge ↦ absurd (v.nearer q ne x (Pending k) y d t.1 t.2 t.3.0 t.3.1 t.3.2 (value_more c ((board c).after q t.3.0) (suc n) (k - 1) (omega arith) t.3.3))
    ]
number_of_hope c v f n q x Goal y ne d (inr t) = absurd ((f.choices q x Goal y d).no_goal refl)
number_of_hope c v f n q x Lost y ne d (inr t) = absurd (out_has_none c v (suc n) ((board c).after q t.3.0) (v.nearer q ne x Lost y d t.1 t.2 t.3.0 t.3.1 t.3.2) t.3.3)
number_of_hope c v f n q x Held y ne d (inr t) = absurd (out_has_none c v (suc n) ((board c).after q t.3.0) (v.nearer q ne x Held y d t.1 t.2 t.3.0 t.3.1 t.3.2) t.3.3)
number_of_hope c v f n q x (LostIn k) y ne d (inr t) = absurd (out_has_none c v (suc n) ((board c).after q t.3.0) (v.nearer q ne x (LostIn k) y d t.1 t.2 t.3.0 t.3.1 t.3.2) t.3.3)

-- what leaves hope within n rounds has a value of at most n
pub value_of_reach : (c : Certificate) → Everywhere c → IsFitting c → (n q : ℕ) → ReachesWithin (board c) n q → HasValueBelow c (suc n) q
value_of_reach c v f zero q r = inl (r, omega arith)
value_of_reach c v f (suc n) q (inl r) = inl (r, omega arith)
value_of_reach c v f (suc n) q (inr r) =
    elim (goal_or (mark_at c q)) [
      | inl g ↦ inl (g, omega arith)
      | inr ne ↦
          let d = decided c v q r.0 ne r.1 in
          elim r.2 [
            | inl w ↦ value_of_decision c (suc (suc n)) q r.0 d.0 d.1 d.2 (number_of_hope c v f n q r.0 d.0 d.1 ne d.2 (inl w))
            | inr t ↦ value_of_decision c (suc (suc n)) q r.0 d.0 d.1 d.2 (number_of_hope c v f n q r.0 d.0 d.1 ne d.2
                (inr (t.0, t.1, t.2, (t.3.0, t.3.1, t.3.2, value_of_reach c v f n ((board c).after q t.3.0) t.3.3))))
          ]
    ]

-- the decision reaches within n rounds where its number is at most n
pub decision_reaches : (c : Certificate) → Everywhere c → IsFitting c → (n q x : ℕ) (m : Mark) (y : ℕ) → mark_at c q ≢ Goal → Decides c q x m y → IsNumberBelow (suc n) m → DecisionReachesWithin (board c) n q x
decision_reaches c v f zero q x m y ne d h = absurd (number_positive c v q x m y ne d h)
decision_reaches c v f (suc n) q x m y ne d h =
    elim (hope_of c v f n q x m y ne d h) [
      | inl w ↦ inl w
      | inr t ↦ inr (t.0, t.1, t.2, (t.3.0, t.3.1, t.3.2, reaches c v f n ((board c).after q t.3.0) t.3.3))
    ]

-- and only there
pub number_of_reach : (c : Certificate) → Everywhere c → IsFitting c → (n q x : ℕ) (m : Mark) (y : ℕ) → mark_at c q ≢ Goal → Decides c q x m y → DecisionReachesWithin (board c) n q x → IsNumberBelow (suc n) m
number_of_reach c v f zero q x m y ne d r = absurd r
number_of_reach c v f (suc n) q x m y ne d (inl w) = number_of_hope c v f n q x m y ne d (inl w)
number_of_reach c v f (suc n) q x m y ne d (inr t) =
    number_of_hope c v f n q x m y ne d (inr (t.0, t.1, t.2, (t.3.0, t.3.1, t.3.2, value_of_reach c v f n ((board c).after q t.3.0) t.3.3)))

-- a location of rank below n has a value below n
value_of_rank : (c : Certificate) → Everywhere c → (n q : ℕ) (m : Mark) → mark_at c q ≡ m → IsRankBelow n m → HasValueBelow c n q
value_of_rank c v n q Goal e h = inl (e, h)
value_of_rank c v n q (Win k) e h =
    let s = (v.ranked q (not_goal c q (Win k) e (win_no_goal k))).reached k e in
    value_of_decision c n q s.0 (Win k) s.2 (decides_as c q s.0 s.1 (Win k) s.2 s.4 s.3) h
value_of_rank c v n q (Pending k) e h = absurd h
value_of_rank c v n q Lost e h = absurd h
value_of_rank c v n q Held e h = absurd h
value_of_rank c v n q (LostIn k) e h = absurd h

-- the move of a decision with a number has some legal letter that leads to a value below it
next_value : (c : Certificate) → Everywhere c → IsFitting c → (n q x : ℕ) (m : Mark) (y : ℕ) → mark_at c q ≢ Goal → Decides c q x m y → IsNumberBelow (suc (suc n)) m
    → SomeLeads (board c) (HasValueBelow c (suc n)) q x y
next_value c v f n q x (Win k) y ne d h =
    let w = v.winning q ne x (Win k) y d in
    let l = legal_letter c v q x y ne d.decision (f.choices q x (Win k) y d).output in
    (l.0, l.1, l.2, value_more c ((board c).after q l.0) k (suc n) (omega arith) (value_of_rank c v k ((board c).after q l.0) (mark_at c ((board c).after q l.0)) refl (w.1 l.0 l.1 l.2)))
next_value c v f n q x (Pending k) y ne d h =
    let s = (v.hopeful q ne x (Pending k) y d).1 in
    (s.0, s.1, s.2, value_more c ((board c).after q s.0) k (suc n) (omega arith) s.3)
next_value c v f n q x Goal y ne d h = absurd h
next_value c v f n q x Lost y ne d h = absurd h
next_value c v f n q x Held y ne d h = absurd h
next_value c v f n q x (LostIn k) y ne d h = absurd h

-- under the moves a value of at most n leaves the goal possible within n rounds
pub leaves_open : (c : Certificate) → Everywhere c → IsFitting c → (n q : ℕ) → HasValueBelow c (suc n) q → LeavesOpenWithin (board c) (moves_of c) n q
leaves_open c v f zero q (inl h) = h.0
leaves_open c v f (suc n) q (inl h) = inl h.0
leaves_open c v f zero q (inr h) =
    elim (goal_or (mark_at c q)) [
      | inl g ↦ g
      | inr ne ↦ let s = h.1 in absurd (number_positive c v q s.0 s.1 s.2 ne s.3 (number_below s.1 h.0 1 s.4 h.2))
    ]
leaves_open c v f (suc n) q (inr h) =
    elim (goal_or (mark_at c q)) [
      | inl g ↦ inl g
      | inr ne ↦ let s = h.1 in
          let t = next_value c v f n q s.0 s.1 s.2 ne s.3 (number_below s.1 h.0 (suc (suc n)) s.4 h.2) in
          let P : ℕ → Type 0 = λ z. SomeLeads (board c) (LeavesOpenWithin (board c) (moves_of c) n) q s.0 z in
          inr (s.0, s.3.decision, subst P (move_of c q s.0 s.1 s.2 s.3) (t.0, t.1, t.2, leaves_open c v f n ((board c).after q t.0) t.3))
    ]

-- the same from a decision
pub decision_leaves_open : (c : Certificate) → Everywhere c → IsFitting c → (n q x y : ℕ) → mark_at c q ≢ Goal → Decides c q x (Pending n) y → LeavesOpenFrom (board c) (moves_of c) n q x
decision_leaves_open c v f zero q x y ne d = absurd (number_positive c v q x (Pending 0) y ne d (omega arith))
decision_leaves_open c v f (suc n) q x y ne d =
    let one : suc n < suc (suc n) = omega arith in
    let t = next_value c v f n q x (Pending (suc n)) y ne d one in
    let P : ℕ → Type 0 = λ z. SomeLeads (board c) (LeavesOpenWithin (board c) (moves_of c) n) q x z in
    subst P (move_of c q x (Pending (suc n)) y d) (t.0, t.1, t.2, leaves_open c v f n ((board c).after q t.0) t.3)
