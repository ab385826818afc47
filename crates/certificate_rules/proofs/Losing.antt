-- The numbers of lost locations are the least with which the environment breaks the duty, and moves keep it where it is held.
use Rattle.std.proofs.Common.{◌≡◌, ◌≢◌, ◌<◌, ◌⊎◌, inl, inr, ℕ, zero, suc, refl, sym, subst, ◌∙◌, arith, false}
use Rattle.std.proofs.lemmas.Bool.{cases_lt}
use Rattle.game.specs.Board.{IsOutput, EachLeads, SomeLeads}
use Rattle.game.specs.Winning.{KeepsDuty, DecisionFailsDutyWithin, FailsDutyWithin}
use Rattle.game.specs.Following.{HoldsDutyWithin, HoldsDutyFrom}
use Rattle.game.specs.Marks.{Mark, Goal, Win, Pending, Lost, Held, LostIn}
use Rattle.certificate_rules.specs.Certificate.{Certificate, board, mark_at, moves_of, Decides, HasDuty}
use Rattle.certificate_rules.specs.Rules.{IsOutMark, IsLossBelow, IsLossFrom, EachLetterLeads, IsLeastLoss}
use Rattle.certificate_rules.specs.Right.{IsFitting, IsMarkOf}
use Rattle.certificate_rules.proofs.Everywhere.{Everywhere, loss_more, decided, not_goal, loss_no_goal, held_no_goal, legal_letter}
use Rattle.certificate_rules.proofs.Wins.{move_of, decides_as}
use Rattle.certificate_rules.proofs.Reaches.{out_no_goal, no_numbers}

-- the marks of a location that is out of reach, where there is a duty
out_cases : (m : Mark) → IsOutMark m → (m ≡ Lost) ⊎ ((m ≡ Held) ⊎ ((k : ℕ) × (m ≡ LostIn k)))
out_cases Lost o = inl refl
out_cases Held o = inr (inl refl)
out_cases (LostIn k) o = inr (inr (k, refl))
out_cases Goal o = absurd o
out_cases (Win k) o = absurd o
out_cases (Pending k) o = absurd o

-- each decision of a location that is out of reach is so too
pub out_decision : (c : Certificate) → Everywhere c → IsFitting c → (q x : ℕ) (m : Mark) (y : ℕ) → IsOutMark (mark_at c q) → Decides c q x m y → IsOutMark m
out_decision c v f q x Lost y o d = tt
out_decision c v f q x Held y o d = tt
out_decision c v f q x (LostIn k) y o d = tt
out_decision c v f q x Goal y o d = absurd ((f.choices q x Goal y d).no_goal refl)
out_decision c v f q x (Win k) y o d = absurd (no_numbers c q (mark_at c q) o (v.valued q (out_no_goal (mark_at c q) o)) k (x, Win k, y, d, refl))
out_decision c v f q x (Pending k) y o d = absurd (no_numbers c q (mark_at c q) o (v.valued q (out_no_goal (mark_at c q) o)) k (x, Pending k, y, d, refl))

-- each legal letter with a decision that is out of reach leads out of reach
pub out_leads : (c : Certificate) → Everywhere c → (q x : ℕ) (m : Mark) (y : ℕ) → mark_at c q ≢ Goal → Decides c q x m y → IsOutMark m → EachLetterLeads c (λ g. IsOutMark (mark_at c g)) q x
out_leads c v q x Lost y ne d o = v.nearer q ne x Lost y d
out_leads c v q x Held y ne d o = v.nearer q ne x Held y d
out_leads c v q x (LostIn k) y ne d o = v.nearer q ne x (LostIn k) y d
out_leads c v q x Goal y ne d o = absurd o
out_leads c v q x (Win k) y ne d o = absurd o
out_leads c v q x (Pending k) y ne d o = absurd o

-- at a location `lost k`, k at most n, the environment breaks the duty within n rounds
pub fails : (c : Certificate) → Everywhere c → HasDuty c → (n q : ℕ) (m : Mark) → mark_at c q ≡ m → IsLossBelow (suc n) m → FailsDutyWithin (board c) n q
fails c v u zero q (LostIn zero) e h = e
fails c v u zero q (LostIn (suc k)) e h = absurd (omega arith)
fails c v u (suc n) q (LostIn zero) e h = inl e
fails c v u (suc n) q (LostIn (suc k)) e h =
    let ne = not_goal c q (LostIn (suc k)) e (loss_no_goal (suc k)) in
    let P : Mark → Type 0 = λ z. IsLeastLoss c q z in
    let s = (subst P e (v.least u q ne) (omega arith)).holds in
    let d = decides_as c q s.0 s.1 (LostIn (suc k)) s.2 s.4 s.3 in
    let w = v.losses u q ne s.0 (LostIn (suc k)) s.2 d in
    inr (
      s.0,
      d.decision,
      λ z out. let t = w.1 z out in
          (t.0, t.1, t.2, fails c v u n ((board c).after q t.0) (mark_at c ((board c).after q t.0)) refl (loss_more (mark_at c ((board c).after q t.0)) (suc k) (suc n) (omega arith) t.3)),
    )
fails c v u zero q Goal e h = absurd h
fails c v u zero q (Win k) e h = absurd h
fails c v u zero q (Pending k) e h = absurd h
fails c v u zero q Lost e h = absurd h
fails c v u zero q Held e h = absurd h
fails c v u (suc n) q Goal e h = absurd h
fails c v u (suc n) q (Win k) e h = absurd h
fails c v u (suc n) q (Pending k) e h = absurd h
fails c v u (suc n) q Lost e h = absurd h
fails c v u (suc n) q Held e h = absurd h

-- the two bounds of one loss
meets : (m : Mark) (n k : ℕ) → IsLossBelow n m → IsLossFrom k m → k < suc n
meets (LostIn j) n k b f = omega arith
meets Goal n k b f = absurd b
meets (Win j) n k b f = absurd b
meets (Pending j) n k b f = absurd b
meets Lost n k b f = absurd b
meets Held n k b f = absurd b

held_is_no_loss : (m : Mark) (n : ℕ) → m ≡ Held → ¬ IsLossBelow n m
held_is_no_loss m n e h = let P : Mark → Type 0 = λ z. IsLossBelow n z in subst P e h

-- the number of a decision `lost k` from whose every output some legal letter leads to `lost m` with m below n
loss_bound : (c : Certificate) → Everywhere c → HasDuty c → (n q x k y : ℕ) → mark_at c q ≢ Goal → Decides c q x (LostIn k) y
    → ((z : ℕ) → IsOutput c.parts z → SomeLeads (board c) (λ g. IsLossBelow n (mark_at c g)) q x z) → k < suc n
loss_bound c v u n q x k y ne d h =
    let w = (v.losses u q ne x (LostIn k) y d).2 in
    let s = h w.0 w.1 in
    meets (mark_at c ((board c).after q s.0)) n k s.3 (w.2 s.0 s.1 s.2)

lost_has_no_duty : (c : Certificate) → IsFitting c → HasDuty c → (q x y : ℕ) → ¬ Decides c q x Lost y
lost_has_no_duty c f u q x y d = let no : c.has_duty ≡ false = (f.choices q x Lost y d).version in cc

lost_number : (c : Certificate) → Everywhere c → HasDuty c → (n q x k y : ℕ) (m : Mark) → mark_at c q ≡ m → m ≢ Held → IsOutMark m → m ≢ Lost → Decides c q x (LostIn k) y → k < suc (suc n) → IsLossBelow (suc (suc n)) m
lost_number c v u n q x k y (LostIn zero) e nh o nl d lt = omega arith
lost_number c v u n q x k y (LostIn (suc j)) e nh o nl d lt =
    let ne = not_goal c q (LostIn (suc j)) e (loss_no_goal (suc j)) in
    let P : Mark → Type 0 = λ z. IsLeastLoss c q z in
    let s = subst P e (v.least u q ne) (omega arith) in
    elim (cases_lt k (suc j)) [
      | inl low ↦ absurd (s.least k low (x, LostIn k, y, d, refl))
      | inr ge ↦ omega arith
    ]
lost_number c v u n q x k y Held e nh o nl d lt = absurd (nh refl)
lost_number c v u n q x k y Lost e nh o nl d lt = absurd (nl refl)
lost_number c v u n q x k y Goal e nh o nl d lt = absurd o
lost_number c v u n q x k y (Win j) e nh o nl d lt = absurd o
lost_number c v u n q x k y (Pending j) e nh o nl d lt = absurd o

no_plain_loss : (c : Certificate) → IsFitting c → HasDuty c → (q : ℕ) → mark_at c q ≢ Lost
no_plain_loss c f u q e = let P : Mark → Type 0 = λ z. IsMarkOf c.has_duty z in let no : c.has_duty ≡ false = subst P e (f.marks q) in cc

loss_by : (c : Certificate) → Everywhere c → IsFitting c → HasDuty c → (n q x : ℕ) (m : Mark) (y : ℕ) → IsOutMark (mark_at c q) → Decides c q x m y
    → ((z : ℕ) → IsOutput c.parts z → SomeLeads (board c) (λ g. IsLossBelow (suc n) (mark_at c g)) q x z) → IsLossBelow (suc (suc n)) (mark_at c q)
loss_by c v f u n q x (LostIn k) y o d h =
    let ne = out_no_goal (mark_at c q) o in
    let nh : mark_at c q ≢ Held = λ e. absurd (let bad : LostIn k ≡ Held = (v.kept u q ne).held.0 e x (LostIn k) y d in cc) in
    lost_number c v u n q x k y (mark_at c q) refl nh o (no_plain_loss c f u q) d (loss_bound c v u (suc n) q x k y ne d h)
loss_by c v f u n q x Held y o d h =
    let ne = out_no_goal (mark_at c q) o in
    let s = h y (f.choices q x Held y d).output in
    absurd (held_is_no_loss (mark_at c ((board c).after q s.0)) (suc n) ((v.kept u q ne).move x Held y d refl s.0 s.1 s.2) s.3)
loss_by c v f u n q x Lost y o d h = absurd (lost_has_no_duty c f u q x y d)
loss_by c v f u n q x Goal y o d h = absurd ((f.choices q x Goal y d).no_goal refl)
loss_by c v f u n q x (Win k) y o d h = absurd (out_decision c v f q x (Win k) y o d)
loss_by c v f u n q x (Pending k) y o d h = absurd (out_decision c v f q x (Pending k) y o d)

-- The number of a location: where the environment can break the duty within n rounds, a location out of reach is `lost k`
-- with k at most n.
pub loss_of_fails : (c : Certificate) → Everywhere c → IsFitting c → HasDuty c → (n q : ℕ) → IsOutMark (mark_at c q) → FailsDutyWithin (board c) n q → IsLossBelow (suc n) (mark_at c q)
loss_of_fails c v f u zero q o w = let P : Mark → Type 0 = λ z. IsLossBelow 1 z in let one : 0 < 1 = omega arith in subst P (sym w) one
loss_of_fails c v f u (suc n) q o (inl w) = let P : Mark → Type 0 = λ z. IsLossBelow (suc (suc n)) z in let one : 0 < suc (suc n) = omega arith in subst P (sym w) one
loss_of_fails c v f u (suc n) q o (inr w) =
    let ne = out_no_goal (mark_at c q) o in
    let d = decided c v q w.0 ne w.1 in
    let od = out_decision c v f q w.0 d.0 d.1 o d.2 in
    let leads = out_leads c v q w.0 d.0 d.1 ne d.2 od in
    loss_by c v f u n q w.0 d.0 d.1 o d.2 (λ z out. let s = w.2 z out in
    (s.0, s.1, s.2, loss_of_fails c v f u n ((board c).after q s.0) (leads z out s.0 s.1 s.2) s.3))

-- at a location `held` the environment can't break the duty
pub held_is_kept : (c : Certificate) → Everywhere c → IsFitting c → HasDuty c → (n q : ℕ) → mark_at c q ≡ Held → ¬ FailsDutyWithin (board c) n q
held_is_kept c v f u n q e w =
    let P : Mark → Type 0 = λ z. IsOutMark z in
    held_is_no_loss (mark_at c q) (suc n) e (loss_of_fails c v f u n q (subst P (sym e) tt) w)

-- the moves keep the duty at a location `held`
pub holds : (c : Certificate) → Everywhere c → IsFitting c → HasDuty c → (n q : ℕ) → mark_at c q ≡ Held → HoldsDutyWithin (board c) (moves_of c) n q
holds c v f u zero q e = λ b. absurd (let bad : Held ≡ LostIn 0 = sym e ∙ b in cc)
holds c v f u (suc n) q e =
    let ne = not_goal c q Held e held_no_goal in (
      λ b. absurd (let bad : Held ≡ LostIn 0 = sym e ∙ b in cc),
      λ x dec.
          let d = decided c v q x ne dec in
          let k = v.kept u q ne in
          let P : ℕ → Type 0 = λ z. EachLeads (board c) (HoldsDutyWithin (board c) (moves_of c) n) q x z in
          subst P (move_of c q x d.0 d.1 d.2) (
          λ a r l. holds c v f u n ((board c).after q a) (k.move x d.0 d.1 d.2 (k.held.0 e x d.0 d.1 d.2) a r l)),
    )

-- a location with a decision `held` is not broken
held_unbroken : (c : Certificate) → Everywhere c → IsFitting c → HasDuty c → (q x y : ℕ) → mark_at c q ≢ Goal → Decides c q x Held y → mark_at c q ≢ LostIn 0
held_unbroken c v f u q x y ne d b =
    let k = v.kept u q ne in
    let l = legal_letter c v q x y ne d.decision (f.choices q x Held y d).output in
    let lost : mark_at c ((board c).after q l.0) ≡ LostIn 0 = k.broken b l.0 l.1.letter l.2 in
    let held : mark_at c ((board c).after q l.0) ≡ Held = k.move x Held y d refl l.0 l.1 l.2 in
    let bad : Held ≡ LostIn 0 = sym held ∙ lost in
    cc

-- and from a decision `held`
pub decision_holds : (c : Certificate) → Everywhere c → IsFitting c → HasDuty c → (n q x y : ℕ) → mark_at c q ≢ Goal → Decides c q x Held y → HoldsDutyFrom (board c) (moves_of c) n q x
decision_holds c v f u zero q x y ne d = held_unbroken c v f u q x y ne d
decision_holds c v f u (suc n) q x y ne d =
    let P : ℕ → Type 0 = λ z. EachLeads (board c) (HoldsDutyWithin (board c) (moves_of c) n) q x z in (
      held_unbroken c v f u q x y ne d,
      subst P (move_of c q x Held y d) (
          λ a r l. holds c v f u n ((board c).after q a) ((v.kept u q ne).move x Held y d refl a r l)),
    )

-- the move of a decision `held` keeps the duty
pub decision_keeps : (c : Certificate) → Everywhere c → IsFitting c → HasDuty c → (q x y : ℕ) → mark_at c q ≢ Goal → Decides c q x Held y → KeepsDuty (board c) q x y
decision_keeps c v f u q x y ne d a r l k = held_is_kept c v f u k ((board c).after q a) ((v.kept u q ne).move x Held y d refl a r l)

-- from a decision `lost n` the environment can break the duty within n rounds
pub decision_fails : (c : Certificate) → Everywhere c → HasDuty c → (n q x y : ℕ) → mark_at c q ≢ Goal → Decides c q x (LostIn n) y → DecisionFailsDutyWithin (board c) n q x
decision_fails c v u zero q x y ne d = absurd (let w = v.losses u q ne x (LostIn 0) y d in omega (arith, w.0))
decision_fails c v u (suc n) q x y ne d =
    λ z out. let s = (v.losses u q ne x (LostIn (suc n)) y d).1 z out in
    (s.0, s.1, s.2, fails c v u n ((board c).after q s.0) (mark_at c ((board c).after q s.0)) refl s.3)

-- and not sooner
pub fails_no_sooner : (c : Certificate) → Everywhere c → IsFitting c → HasDuty c → (n k q x y : ℕ) → mark_at c q ≢ Goal → Decides c q x (LostIn n) y → DecisionFailsDutyWithin (board c) k q x → n < suc k
fails_no_sooner c v f u n zero q x y ne d w = absurd w
fails_no_sooner c v f u n (suc k) q x y ne d w =
    let leads = v.nearer q ne x (LostIn n) y d in
    loss_bound c v u (suc k) q x n y ne d (λ z out. let s = w z out in
    (s.0, s.1, s.2, loss_of_fails c v f u k ((board c).after q s.0) (leads z out s.0 s.1 s.2) s.3))

-- no output keeps the duty at a decision `lost n`
pub keeps_none : (c : Certificate) → Everywhere c → HasDuty c → (n q x y : ℕ) → mark_at c q ≢ Goal → Decides c q x (LostIn n) y → ¬ ((z : ℕ) × IsOutput c.parts z × KeepsDuty (board c) q x z)
keeps_none c v u n q x y ne d k =
    let s = (v.losses u q ne x (LostIn n) y d).1 k.0 k.1 in
    k.2 s.0 s.1 s.2 n (fails c v u n ((board c).after q s.0) (mark_at c ((board c).after q s.0)) refl (loss_more (mark_at c ((board c).after q s.0)) n (suc n) (omega arith) s.3))
