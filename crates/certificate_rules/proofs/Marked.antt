-- What the marks of a certificate that is true to its game say of ranks, values and losses.
use Rattle.std.proofs.Common.{◌≡◌, ◌≢◌, ◌≤◌, inl, inr, ℕ, zero, suc, refl, arith, false}
use Rattle.std.proofs.lemmas.Bool.{cases_lt}
use Rattle.game.specs.Winning.{WinsWithin, DecisionWinsWithin, ReachesWithin, DecisionReachesWithin, FailsDutyWithin}
use Rattle.game.specs.Marks.{Mark, Goal, Win, Pending, Lost, Held, LostIn, HasMark, HasDecisionMark}
use Rattle.certificate_rules.specs.Certificate.{Certificate, board, mark_at, Decides, HasDuty}
use Rattle.certificate_rules.specs.Rules.{IsRankBelow, IsOutMark, HasValueBelow, IsLossBelow}
use Rattle.certificate_rules.specs.TrueTo.{IsTrueTo}
use Rattle.certificate_rules.proofs.Everywhere.{goal_or, decided_of}
use Rattle.certificate_rules.proofs.Reaches.{IsNumberBelow, value_of_decision, number_below}
use Rattle.game.proofs.WinningLemmas.{wins-more, decision_wins-more, reaches-more, fails-more}
use Rattle.certificate_rules.proofs.Growing.{decision_reaches-more}

-- what wins within k rounds has a rank of at most k
rank_in : (c : Certificate) (q k : ℕ) (m : Mark) → HasMark (board c) q m → WinsWithin (board c) k q → IsRankBelow (suc k) m
rank_in c q k Goal h w = omega arith
rank_in c q k (Win n) h w = elim (cases_lt k n) [ inl l ↦ absurd (h.1.least k l w) | inr g ↦ omega arith ]
rank_in c q k (Pending n) h w = h.0 k w
rank_in c q k Lost h w = h.1.0 k w
rank_in c q k Held h w = h.1.0 k w
rank_in c q k (LostIn n) h w = h.1.0 k w

pub rank_of : (c : Certificate) → IsTrueTo c → (q k : ℕ) → WinsWithin (board c) k q → IsRankBelow (suc k) (mark_at c q)
rank_of c t q k w = rank_in c q k (mark_at c q) (t.marks q) w

wins_in : (c : Certificate) (q k : ℕ) (m : Mark) → HasMark (board c) q m → IsRankBelow (suc k) m → WinsWithin (board c) k q
wins_in c q k Goal h l = wins-more (board c) 0 k q (omega arith) h
wins_in c q k (Win n) h l = wins-more (board c) n k q (omega arith) h.1.holds
wins_in c q k (Pending n) h l = absurd l
wins_in c q k Lost h l = absurd l
wins_in c q k Held h l = absurd l
wins_in c q k (LostIn n) h l = absurd l

-- and what has a rank of at most k wins within k rounds
pub wins_of : (c : Certificate) → IsTrueTo c → (q k : ℕ) → IsRankBelow (suc k) (mark_at c q) → WinsWithin (board c) k q
wins_of c t q k l = wins_in c q k (mark_at c q) (t.marks q) l

-- the number of a decision that wins within k rounds
pub decision_rank : (c : Certificate) (q x : ℕ) (m : Mark) (k : ℕ) → HasDecisionMark (board c) q x m → DecisionWinsWithin (board c) k q x → (n : ℕ) × (m ≡ Win n) × (n ≤ k)
decision_rank c q x (Win n) k h w = elim (cases_lt k n) [ inl l ↦ absurd (h.least k l w) | inr g ↦ (n, refl, g) ]
decision_rank c q x Goal k h w = absurd h
decision_rank c q x (Pending n) k h w = absurd (h.0 k w)
decision_rank c q x Lost k h w = absurd (h.1.0 k w)
decision_rank c q x Held k h w = absurd (h.1.0 k w)
decision_rank c q x (LostIn n) k h w = absurd (h.1.0 k w)

-- the number of a decision that gives hope within k rounds
pub number_of_hope : (c : Certificate) (q x : ℕ) (m : Mark) (k : ℕ) → HasDecisionMark (board c) q x m → DecisionReachesWithin (board c) k q x → IsNumberBelow (suc k) m
number_of_hope c q x m zero h r = absurd r
number_of_hope c q x (Win n) (suc k) h (inl w) = let d = decision_rank c q x (Win n) (suc k) h w in let same : n ≡ d.0 = let e = d.1 in cc in let le : d.0 ≤ suc k = d.2 in omega arith
number_of_hope c q x (Win n) (suc k) h (inr s) = absurd (s.0 (n, h.holds))
number_of_hope c q x (Pending n) (suc k) h r = elim (cases_lt (suc k) n) [ inl l ↦ absurd (h.1.least (suc k) l r) | inr g ↦ omega arith ]
number_of_hope c q x Goal (suc k) h r = absurd h
number_of_hope c q x Lost (suc k) h r = h.1.1 (suc k) r
number_of_hope c q x Held (suc k) h r = h.1.1 (suc k) r
number_of_hope c q x (LostIn n) (suc k) h r = h.1.1 (suc k) r

-- a decision with a number of at most k gives hope within k rounds
pub hope_of_number : (c : Certificate) (q x : ℕ) (m : Mark) (k : ℕ) → HasDecisionMark (board c) q x m → IsNumberBelow (suc k) m → DecisionReachesWithin (board c) k q x
hope_of_number c q x (Win n) zero h l = let w = decision_wins-more (board c) n 0 q x (omega arith) h.holds in w.2
hope_of_number c q x (Win n) (suc k) h l = inl (decision_wins-more (board c) n (suc k) q x (omega arith) h.holds)
hope_of_number c q x (Pending n) k h l = decision_reaches-more (board c) n k q x (omega arith) h.1.holds
hope_of_number c q x Goal k h l = absurd l
hope_of_number c q x Lost k h l = absurd l
hope_of_number c q x Held k h l = absurd l
hope_of_number c q x (LostIn n) k h l = absurd l

-- the mark and the move of a decision
pub chosen : (c : Certificate) → IsTrueTo c → (q x : ℕ) → mark_at c q ≢ Goal → (board c).IsDecision q x → (m : Mark) × (y : ℕ) × Decides c q x m y
chosen c t q x ne d = decided_of c.parts.first c.has_duty c.verdict c.parts.inputs c.parts.outputs c.locations q x (t.play q ne) d

-- hope within a decision is hope at its location
pub reaches_by : (c : Certificate) (q x k : ℕ) → (board c).IsDecision q x → DecisionReachesWithin (board c) k q x → ReachesWithin (board c) k q
reaches_by c q x zero d r = absurd r
reaches_by c q x (suc k) d r = inr (x, d, r)

-- a value of at most k gives hope within k rounds
pub reaches_of_value : (c : Certificate) → IsTrueTo c → (q k : ℕ) → HasValueBelow c (suc k) q → ReachesWithin (board c) k q
reaches_of_value c t q k (inl g) = reaches-more (board c) 0 k q (omega arith) g.0
reaches_of_value c t q k (inr h) =
    elim (goal_or (mark_at c q)) [
      | inl g ↦ reaches-more (board c) 0 k q (omega arith) g
      | inr ne ↦ let s = h.1 in
          reaches_by c q s.0 k s.3.decision (hope_of_number c q s.0 s.1 k (t.decisions q s.0 s.1 s.2 ne s.3) (number_below s.1 h.0 (suc k) s.4 h.2))
    ]

-- and hope within k rounds a value of at most k
pub value_of_reaches : (c : Certificate) → IsTrueTo c → (q k : ℕ) → ReachesWithin (board c) k q → HasValueBelow c (suc k) q
value_of_reaches c t q zero r = inl (r, omega arith)
value_of_reaches c t q (suc k) (inl r) = inl (r, omega arith)
value_of_reaches c t q (suc k) (inr r) =
    elim (goal_or (mark_at c q)) [
      | inl g ↦ inl (g, omega arith)
      | inr ne ↦ let d = chosen c t q r.0 ne r.1 in
          value_of_decision c (suc (suc k)) q r.0 d.0 d.1 d.2 (number_of_hope c q r.0 d.0 (suc k) (t.decisions q r.0 d.0 d.1 ne d.2) r.2)
    ]

-- the number of a lost location
loss_in : (c : Certificate) (q k : ℕ) (m : Mark) → IsOutMark m → HasMark (board c) q m → HasDuty c → FailsDutyWithin (board c) k q → IsLossBelow (suc k) m
loss_in c q k (LostIn n) o h u w = elim (cases_lt k n) [ inl l ↦ absurd (h.2.least k l w) | inr g ↦ omega arith ]
loss_in c q k Held o h u w = absurd (h.2 k w)
loss_in c q k Lost o h u w = absurd (let no : c.has_duty ≡ false = h.0 in cc)
loss_in c q k Goal o h u w = absurd o
loss_in c q k (Win n) o h u w = absurd o
loss_in c q k (Pending n) o h u w = absurd o

pub loss_of : (c : Certificate) → IsTrueTo c → (q k : ℕ) → IsOutMark (mark_at c q) → HasDuty c → FailsDutyWithin (board c) k q → IsLossBelow (suc k) (mark_at c q)
loss_of c t q k o u w = loss_in c q k (mark_at c q) o (t.marks q) u w

fails_in : (c : Certificate) (q k : ℕ) (m : Mark) → HasMark (board c) q m → IsLossBelow (suc k) m → FailsDutyWithin (board c) k q
fails_in c q k (LostIn n) h l = fails-more (board c) n k q (omega arith) h.2.holds
fails_in c q k Goal h l = absurd l
fails_in c q k (Win n) h l = absurd l
fails_in c q k (Pending n) h l = absurd l
fails_in c q k Lost h l = absurd l
fails_in c q k Held h l = absurd l

pub fails_of : (c : Certificate) → IsTrueTo c → (q k : ℕ) → IsLossBelow (suc k) (mark_at c q) → FailsDutyWithin (board c) k q
fails_of c t q k l = fails_in c q k (mark_at c q) (t.marks q) l
