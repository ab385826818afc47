-- A valid certificate is right.
use Rattle.std.proofs.Common.{◌≡◌, ◌≢◌, ◌<◌, inl, inr, ℕ, zero, suc, refl, sym, subst, arith, Some, None, Option, false, IsSome, MatchOption}
use Rattle.game.specs.Winning.{WinsWithin}
use Rattle.game.specs.Following.{RefutesWithin}
use Rattle.game.specs.Marks.{Mark, Goal, Win, Pending, Lost, Held, LostIn, HasMark, HasDecisionMark, IsOutOfReach, IsDecisionOutOfReach}
use Rattle.game.specs.Numbers.{IsLeastNumber}
use Rattle.printed_strategy.specs.Printed.{IsVerdict}
use Rattle.certificate_rules.specs.Certificate.{Certificate, board, mark_at, answers_at, Decides, HasDuty}
use Rattle.certificate_rules.specs.Rules as rules
use Rattle.certificate_rules.specs.Rules.{IsValid, IsWon, IsOutMark, IsLossBelow, IsValued, IsRankVerdict}
use Rattle.certificate_rules.specs.Right.{IsFitting, IsMarkOf, IsRight}
use Rattle.certificate_rules.proofs.Everywhere.{Everywhere, everywhere, won_of_rank, not_goal, win_no_goal, pending_no_goal}
use Rattle.certificate_rules.proofs.Wins.{wins, forces, rank_of_wins, rank_of_decision, decision_wins, decision_forces}
use Rattle.certificate_rules.proofs.Reaches.{reaches, value_of_reach, out_has_none, number_of_reach, decision_reaches, leaves_open, decision_leaves_open}
use Rattle.certificate_rules.proofs.Losing.{fails, loss_of_fails, held_is_kept, holds, decision_holds, decision_keeps, decision_fails, fails_no_sooner, keeps_none}

-- where nothing is won no number wins
no_win : (c : Certificate) → Everywhere c → IsFitting c → (q k : ℕ) → ¬ IsWon (mark_at c q) → ¬ WinsWithin (board c) k q
no_win c v f q k nw w = nw (won_of_rank (mark_at c q) (suc k) (rank_of_wins c v f k q (mark_at c q) refl w))

out_not_won : (m : Mark) → IsOutMark m → ¬ IsWon m
out_not_won Lost o w = w
out_not_won Held o w = w
out_not_won (LostIn k) o w = w
out_not_won Goal o w = o
out_not_won (Win k) o w = o
out_not_won (Pending k) o w = o

out_of_reach : (c : Certificate) → Everywhere c → IsFitting c → (q : ℕ) → IsOutMark (mark_at c q) → IsOutOfReach (board c) q
out_of_reach c v f q o = (λ k. no_win c v f q k (out_not_won (mark_at c q) o), λ k r. out_has_none c v (suc k) q o (value_of_reach c v f k q r))

-- each location has its mark in the game
mark_of : (c : Certificate) → Everywhere c → IsFitting c → (q : ℕ) (m : Mark) → mark_at c q ≡ m → HasMark (board c) q m
mark_of c v f q Goal e = e
mark_of c v f q (Win n) e =
    (not_goal c q (Win n) e (win_no_goal n), record { holds = wins c v f n q (Win n) e (omega arith); least = λ k lt w. absurd (let r = rank_of_wins c v f k q (Win n) e w in omega arith) })
mark_of c v f q (Pending n) e =
    let P : Mark → Type 0 = λ z. IsWon z in
    let V : Mark → Type 0 = λ z. IsValued c q z in
    let l = subst V e (v.valued q (not_goal c q (Pending n) e (pending_no_goal n))) in (
      λ k. no_win c v f q k (λ w. subst P e w),
      record {
        holds = reaches c v f n q (inr (n, l.holds, omega arith));
        least = λ k lt r. elim (value_of_reach c v f k q r) [
          | inl g ↦ not_goal c q (Pending n) e (pending_no_goal n) g.0
          | inr h ↦ l.least h.0 (let b : h.0 < suc k = h.2 in omega arith) h.1
        ];
      },
    )
mark_of c v f q Lost e =
    let P : Mark → Type 0 = λ z. IsOutMark z in
    let V : Mark → Type 0 = λ z. IsMarkOf c.has_duty z in
    let no : c.has_duty ≡ false = subst V e (f.marks q) in
    (no, out_of_reach c v f q (subst P (sym e) tt))
mark_of c v f q Held e =
    let P : Mark → Type 0 = λ z. IsOutMark z in
    let V : Mark → Type 0 = λ z. IsMarkOf c.has_duty z in
    let u : HasDuty c = subst V e (f.marks q) in
    (u, out_of_reach c v f q (subst P (sym e) tt), λ k. held_is_kept c v f u k q e)
mark_of c v f q (LostIn n) e =
    let P : Mark → Type 0 = λ z. IsOutMark z in
    let V : Mark → Type 0 = λ z. IsMarkOf c.has_duty z in
    let u : HasDuty c = subst V e (f.marks q) in
    let o : IsOutMark (mark_at c q) = subst P (sym e) tt in (
      u,
      out_of_reach c v f q o,
      record {
        holds = fails c v u n q (LostIn n) e (omega arith);
        least = λ k lt w. let L : Mark → Type 0 = λ z. IsLossBelow (suc k) z in absurd (let b = subst L e (loss_of_fails c v f u k q o w) in omega arith);
      },
    )

decision_out : (c : Certificate) → Everywhere c → IsFitting c → (q x : ℕ) (m : Mark) (y : ℕ) → IsOutMark m → mark_at c q ≢ Goal → Decides c q x m y → IsDecisionOutOfReach (board c) q x
decision_out c v f q x Lost y o ne d = (λ k w. absurd (let r = rank_of_decision c v f k q x Lost y ne d w in let b : Lost ≡ Win r.0 = r.1 in cc), λ k r. number_of_reach c v f k q x Lost y ne d r)
decision_out c v f q x Held y o ne d = (λ k w. absurd (let r = rank_of_decision c v f k q x Held y ne d w in let b : Held ≡ Win r.0 = r.1 in cc), λ k r. number_of_reach c v f k q x Held y ne d r)
decision_out c v f q x (LostIn j) y o ne d = (λ k w. absurd (let r = rank_of_decision c v f k q x (LostIn j) y ne d w in let b : LostIn j ≡ Win r.0 = r.1 in cc), λ k r. number_of_reach c v f k q x (LostIn j) y ne d r)
decision_out c v f q x Goal y o ne d = absurd o
decision_out c v f q x (Win j) y o ne d = absurd o
decision_out c v f q x (Pending j) y o ne d = absurd o

-- each decision has its mark in the game
decision_mark : (c : Certificate) → Everywhere c → IsFitting c → (q x : ℕ) (m : Mark) (y : ℕ) → mark_at c q ≢ Goal → Decides c q x m y → HasDecisionMark (board c) q x m
decision_mark c v f q x Goal y ne d = (f.choices q x Goal y d).no_goal refl
decision_mark c v f q x (Win n) y ne d = record {
  holds = decision_wins c v f n q x n y ne d (omega arith);
  least = λ k lt w. absurd (let r = rank_of_decision c v f k q x (Win n) y ne d w in let same : n ≡ r.0 = let e : Win n ≡ Win r.0 = r.1 in cc in let b : r.0 < suc k = r.2 in omega arith);
}
decision_mark c v f q x (Pending n) y ne d = (
  λ k w. absurd (let r = rank_of_decision c v f k q x (Pending n) y ne d w in let b : Pending n ≡ Win r.0 = r.1 in cc),
  record {
    holds = decision_reaches c v f n q x (Pending n) y ne d (omega arith);
    least = λ k lt r. absurd (let b : n < suc k = number_of_reach c v f k q x (Pending n) y ne d r in omega arith);
  },
)
decision_mark c v f q x Lost y ne d =
    let no : c.has_duty ≡ false = (f.choices q x Lost y d).version in
    (no, decision_out c v f q x Lost y tt ne d)
decision_mark c v f q x Held y ne d =
    let u : HasDuty c = (f.choices q x Held y d).version in
    (u, decision_out c v f q x Held y tt ne d, (y, (f.choices q x Held y d).output, decision_keeps c v f u q x y ne d))
decision_mark c v f q x (LostIn n) y ne d =
    let u : HasDuty c = (f.choices q x (LostIn n) y d).version in (
      u,
      decision_out c v f q x (LostIn n) y tt ne d,
      keeps_none c v u n q x y ne d,
      record {
        holds = decision_fails c v u n q x y ne d;
        least = λ k lt w. absurd (let b : n < suc k = fails_no_sooner c v f u n k q x y ne d w in omega arith);
      },
    )

some_from : (o : Option (ℕ → ℕ)) (P : (ℕ → ℕ) → Type 0) → MatchOption o ⊥ P → IsSome o
some_from (Some f) P h = refl
some_from None P h = absurd h

pub each_from : (o : Option (ℕ → ℕ)) (P Q : (ℕ → ℕ) → Type 0) → ((f : ℕ → ℕ) → P f → Q f) → MatchOption o ⊥ P → MatchOption o ⊥ Q
each_from (Some f) P Q g h = g f h
each_from None P Q g h = h

-- the answers put off the goal for every number of rounds
refutes : (c : Certificate) → Everywhere c → (n q : ℕ) → ¬ IsWon (mark_at c q) → RefutesWithin (board c) (answers_at c) n q
refutes c v zero q nw =
    let W : Mark → Type 0 = λ z. IsWon z in
    let ne : mark_at c q ≢ Goal = λ g. nw (subst W (sym g) tt) in
    (ne, some_from (answers_at c q) _ (v.answered q ne nw))
refutes c v (suc n) q nw =
    let W : Mark → Type 0 = λ z. IsWon z in
    let ne : mark_at c q ≢ Goal = λ g. nw (subst W (sym g) tt) in
    (ne, each_from (answers_at c q) _ _ (λ input h y out. let s = h y out in (s.0, s.1, s.2, refutes c v n ((board c).after q s.0) s.3)) (v.answered q ne nw))

-- the verdict is the rank of location 0
verdict_by : (c : Certificate) → Everywhere c → IsFitting c → (o : Option ℕ) (m : Mark) → mark_at c 0 ≡ m → IsRankVerdict o m → IsVerdict (board c) 0 o
verdict_by c v f (Some n) Goal e h = let P : ℕ → Type 0 = λ z. WinsWithin (board c) z 0 in record { holds = subst P (sym h) e; least = λ k lt w. absurd (omega arith) }
verdict_by c v f (Some n) (Win k) e h = let P : ℕ → Type 0 = λ z. IsLeastNumber (λ k. WinsWithin (board c) k 0) z in subst P (sym h) (mark_of c v f 0 (Win k) e).1
verdict_by c v f (Some n) (Pending k) e h = absurd h
verdict_by c v f (Some n) Lost e h = absurd h
verdict_by c v f (Some n) Held e h = absurd h
verdict_by c v f (Some n) (LostIn k) e h = absurd h
verdict_by c v f None m e h = λ k. no_win c v f 0 k (λ w. let W : Mark → Type 0 = λ z. IsWon z in h (subst W e w))

-- a valid certificate is right
pub right_of_valid : (c : Certificate) → IsFitting c → IsValid c → IsRight c
right_of_valid c f valid =
    let v = everywhere c valid in
    let W : Mark → Type 0 = λ z. IsWon z in
    record {
      verdict = verdict_by c v f c.verdict (mark_at c 0) refl (valid rules.Verdict 0 f.some refl);
      marks = λ q. mark_of c v f q (mark_at c q) refl;
      decisions = λ q x m y ne d. decision_mark c v f q x m y ne d;
      forced = λ q n e. forces c v f n q (Win n) e (omega arith);
      forced_from = λ q x n y ne d. decision_forces c v f n q x y ne d;
      open_within = λ q n e. let V : Mark → Type 0 = λ z. IsValued c q z in
          leaves_open c v f n q (inr (n, (subst V e (v.valued q (not_goal c q (Pending n) e (pending_no_goal n)))).holds, omega arith));
      open_from = λ q x n y ne d. decision_leaves_open c v f n q x y ne d;
      refuted = λ q n nw. refutes c v n q nw;
      held = λ q n e. let V : Mark → Type 0 = λ z. IsMarkOf c.has_duty z in holds c v f (subst V e (f.marks q)) n q e;
      held_from = λ q x y n ne d. decision_holds c v f (f.choices q x Held y d).version n q x y ne d;
    }
