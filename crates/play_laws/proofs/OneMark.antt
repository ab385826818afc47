-- A place has one mark, a decision has one, and there is one move for it.
use Rattle.std.proofs.Common.{◌≡◌, ℕ, zero, suc, refl, sym, ◌∙◌, ap}
use Rattle.std.proofs.lemmas.Bool.{true≢false}
use Rattle.game.specs.Board.{Partition, Board, SomeLeads}
use Rattle.game.specs.Winning.{WinsWithin, MoveWinsWithin, DecisionWinsWithin, ReachesWithin, DecisionReachesWithin, FailsDutyWithin, KeepsDuty, DecisionFailsDutyWithin}
use Rattle.game.specs.Marks.{Mark, Goal, Win, Pending, Lost, Held, LostIn, HasMark, HasDecisionMark, IsMove}
use Rattle.game.proofs.LeastLemmas.{one_least, one_output}

-- a place has one mark
pub one_mark : {s : Partition} (b : Board s) (h : b.Place) (m k : Mark) → HasMark b h m → HasMark b h k → m ≡ k
one_mark b h Goal Goal p q = refl
one_mark b h Goal (Win n) p q = absurd (q.0 p)
one_mark b h Goal (Pending n) p q = absurd (q.0 0 p)
one_mark b h Goal Lost p q = absurd (q.1.0 0 p)
one_mark b h Goal Held p q = absurd (q.1.0 0 p)
one_mark b h Goal (LostIn n) p q = absurd (q.1.0 0 p)
one_mark b h (Win n) Goal p q = absurd (p.0 q)
one_mark b h (Win n) (Win k) p q = ap Win (one_least (λ i. WinsWithin b i h) n k p.1 q.1)
one_mark b h (Win n) (Pending k) p q = absurd (q.0 n p.1.holds)
one_mark b h (Win n) Lost p q = absurd (q.1.0 n p.1.holds)
one_mark b h (Win n) Held p q = absurd (q.1.0 n p.1.holds)
one_mark b h (Win n) (LostIn k) p q = absurd (q.1.0 n p.1.holds)
one_mark b h (Pending n) Goal p q = absurd (p.0 0 q)
one_mark b h (Pending n) (Win k) p q = absurd (p.0 k q.1.holds)
one_mark b h (Pending n) (Pending k) p q = ap Pending (one_least (λ i. ReachesWithin b i h) n k p.1 q.1)
one_mark b h (Pending n) Lost p q = absurd (q.1.1 n p.1.holds)
one_mark b h (Pending n) Held p q = absurd (q.1.1 n p.1.holds)
one_mark b h (Pending n) (LostIn k) p q = absurd (q.1.1 n p.1.holds)
one_mark b h Lost Goal p q = absurd (p.1.0 0 q)
one_mark b h Lost (Win k) p q = absurd (p.1.0 k q.1.holds)
one_mark b h Lost (Pending k) p q = absurd (p.1.1 k q.1.holds)
one_mark b h Lost Lost p q = refl
one_mark b h Lost Held p q = absurd (true≢false (sym q.0 ∙ p.0))
one_mark b h Lost (LostIn k) p q = absurd (true≢false (sym q.0 ∙ p.0))
one_mark b h Held Goal p q = absurd (p.1.0 0 q)
one_mark b h Held (Win k) p q = absurd (p.1.0 k q.1.holds)
one_mark b h Held (Pending k) p q = absurd (p.1.1 k q.1.holds)
one_mark b h Held Lost p q = absurd (true≢false (sym p.0 ∙ q.0))
one_mark b h Held Held p q = refl
one_mark b h Held (LostIn k) p q = absurd (p.2 k q.2.holds)
one_mark b h (LostIn n) Goal p q = absurd (p.1.0 0 q)
one_mark b h (LostIn n) (Win k) p q = absurd (p.1.0 k q.1.holds)
one_mark b h (LostIn n) (Pending k) p q = absurd (p.1.1 k q.1.holds)
one_mark b h (LostIn n) Lost p q = absurd (true≢false (sym p.0 ∙ q.0))
one_mark b h (LostIn n) Held p q = absurd (q.2 n p.2.holds)
one_mark b h (LostIn n) (LostIn k) p q = ap LostIn (one_least (λ i. FailsDutyWithin b i h) n k p.2 q.2)

-- a decision has one mark
pub one_decision_mark : {s : Partition} (b : Board s) (h : b.Place) (x : ℕ) (m k : Mark) → HasDecisionMark b h x m → HasDecisionMark b h x k → m ≡ k
one_decision_mark b h x Goal k p q = absurd p
one_decision_mark b h x (Win n) Goal p q = absurd q
one_decision_mark b h x (Win n) (Win k) p q = ap Win (one_least (λ i. DecisionWinsWithin b i h x) n k p q)
one_decision_mark b h x (Win n) (Pending k) p q = absurd (q.0 n p.holds)
one_decision_mark b h x (Win n) Lost p q = absurd (q.1.0 n p.holds)
one_decision_mark b h x (Win n) Held p q = absurd (q.1.0 n p.holds)
one_decision_mark b h x (Win n) (LostIn k) p q = absurd (q.1.0 n p.holds)
one_decision_mark b h x (Pending n) Goal p q = absurd q
one_decision_mark b h x (Pending n) (Win k) p q = absurd (p.0 k q.holds)
one_decision_mark b h x (Pending n) (Pending k) p q = ap Pending (one_least (λ i. DecisionReachesWithin b i h x) n k p.1 q.1)
one_decision_mark b h x (Pending n) Lost p q = absurd (q.1.1 n p.1.holds)
one_decision_mark b h x (Pending n) Held p q = absurd (q.1.1 n p.1.holds)
one_decision_mark b h x (Pending n) (LostIn k) p q = absurd (q.1.1 n p.1.holds)
one_decision_mark b h x Lost Goal p q = absurd q
one_decision_mark b h x Lost (Win k) p q = absurd (p.1.0 k q.holds)
one_decision_mark b h x Lost (Pending k) p q = absurd (p.1.1 k q.1.holds)
one_decision_mark b h x Lost Lost p q = refl
one_decision_mark b h x Lost Held p q = absurd (true≢false (sym q.0 ∙ p.0))
one_decision_mark b h x Lost (LostIn k) p q = absurd (true≢false (sym q.0 ∙ p.0))
one_decision_mark b h x Held Goal p q = absurd q
one_decision_mark b h x Held (Win k) p q = absurd (p.1.0 k q.holds)
one_decision_mark b h x Held (Pending k) p q = absurd (p.1.1 k q.1.holds)
one_decision_mark b h x Held Lost p q = absurd (true≢false (sym p.0 ∙ q.0))
one_decision_mark b h x Held Held p q = refl
one_decision_mark b h x Held (LostIn k) p q = absurd (q.2 p.2)
one_decision_mark b h x (LostIn n) Goal p q = absurd q
one_decision_mark b h x (LostIn n) (Win k) p q = absurd (p.1.0 k q.holds)
one_decision_mark b h x (LostIn n) (Pending k) p q = absurd (p.1.1 k q.1.holds)
one_decision_mark b h x (LostIn n) Lost p q = absurd (true≢false (sym p.0 ∙ q.0))
one_decision_mark b h x (LostIn n) Held p q = absurd (p.2 q.2)
one_decision_mark b h x (LostIn n) (LostIn k) p q = ap LostIn (one_least (λ i. DecisionFailsDutyWithin b i h x) n k p.3 q.3)

-- there is one move for a mark
pub one_move : {s : Partition} (b : Board s) (h : b.Place) (x : ℕ) (m : Mark) (y z : ℕ) → IsMove b h x m y → IsMove b h x m z → y ≡ z
one_move b h x Goal y z p q = absurd p
one_move {s = s} b h x (Win n) y z p q = one_output s (λ i. MoveWinsWithin b n h x i) y z p q
one_move b h x (Pending zero) y z p q = absurd p
one_move {s = s} b h x (Pending (suc n)) y z p q = one_output s (λ i. SomeLeads b (ReachesWithin b n) h x i) y z p q
one_move b h x Lost y z p q = cc
one_move {s = s} b h x Held y z p q = one_output s (λ i. KeepsDuty b h x i) y z p q
one_move b h x (LostIn n) y z p q = cc
