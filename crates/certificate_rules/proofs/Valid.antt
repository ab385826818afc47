-- A certificate that is true to its game is valid.
use Rattle.std.proofs.Common.{◌≡◌, ◌≢◌, ◌<◌, ◌≤◌, ◌^◌, ◌-◌, ◌⊎◌, inl, inr, ℕ, zero, suc, refl, sym, ap, subst, ◌∙◌, arith, false, pow_pos}
use Rattle.std.specs.Prelude.{slice_get}
use Rattle.std.proofs.lemmas.Bool.{cases_lt, cases_eq}
use Rattle.game.specs.Board.{IsOutput, EachLeads, SomeLeads}
use Rattle.game.specs.Winning.{KeepsDuty, DecisionFailsDutyWithin, WinsWithin, DecisionWinsWithin, ReachesWithin, DecisionReachesWithin, FailsDutyWithin}
use Rattle.game.specs.Marks.{Mark, Goal, Win, Pending, Lost, Held, LostIn, HasMark, HasDecisionMark}
use Rattle.certificate_rules.specs.Certificate.{Certificate, board, mark_at, answers_at, Decides, HasDuty}
use Rattle.certificate_rules.specs.Rules as rules
use Rattle.certificate_rules.specs.Rules.{IsRankBelow, IsWon, IsWinMark, IsOutMark, IsNumber, HasNumber, HasValueBelow, IsLossBelow, IsLossFrom, CanPlay, EachDecision, SomeDecision, EachLetterLeads, IsWinningMove, WinsNoSooner, IsRanked, IsAnswered, IsHopefulMove, ReachesNoSooner, IsValued, IsRankVerdict, IsKept, IsLossOf, IsLeastLoss, IsValid, Says}
use Rattle.certificate_rules.specs.Right.{IsMarkOf}
use Rattle.certificate_rules.specs.TrueTo.{IsTrueTo}
use Rattle.certificate_rules.proofs.Everywhere.{not_goal, letter_of, win_no_goal, pending_no_goal}
use Rattle.certificate_rules.proofs.Wins.{win_of, decides_as}
use Rattle.certificate_rules.proofs.RightLemmas.{each_from}
use Rattle.certificate_rules.proofs.Reaches.{IsNumberBelow}
use Rattle.game.proofs.WinningLemmas.{decision_wins-more}
use Rattle.certificate_rules.proofs.Marked.{rank_of, wins_of, decision_rank, hope_of_number, chosen, reaches_by, reaches_of_value, value_of_reaches, loss_of, fails_of}
use Rattle.certificate_rules.proofs.Searching.{find, lead_or, some_decision, decision_below, decision_or, number, top, total_in, rank_bounded, decision_bounded}

no_duty : (c : Certificate) → c.has_duty ≡ false → HasDuty c → ⊥
no_duty c a b = cc

-- some legal letter has the decision and the output
letter : (c : Certificate) → IsTrueTo c → (q x y : ℕ) → mark_at c q ≢ Goal → (board c).IsDecision q x → IsOutput c.parts y → SomeLeads (board c) (λ g. Unit {0}) q x y
letter c t q x y ne d out = letter_of c.parts.first c.has_duty c.verdict c.parts.inputs c.parts.outputs c.locations q x y (t.play q ne) d out

winning : (c : Certificate) → IsTrueTo c → (q x : ℕ) (m : Mark) (y : ℕ) → mark_at c q ≢ Goal → Decides c q x m y → IsWinningMove c q x m y
winning c t q x (Win zero) y ne d = absurd ((t.moves q x (Win 0) y ne d).least.holds)
winning c t q x (Win (suc n)) y ne d = (omega arith, λ a r l. rank_of c t ((board c).after q a) n ((t.moves q x (Win (suc n)) y ne d).least.holds a r l))
winning c t q x Goal y ne d = tt
winning c t q x (Pending n) y ne d = tt
winning c t q x Lost y ne d = tt
winning c t q x Held y ne d = tt
winning c t q x (LostIn n) y ne d = tt

rank_zero : (m : Mark) → ¬ IsRankBelow 0 m
rank_zero Goal h = omega arith
rank_zero (Win n) h = omega arith
rank_zero (Pending n) h = h
rank_zero Lost h = h
rank_zero Held h = h
rank_zero (LostIn n) h = h

-- an output that leads to won locations alone wins within some number of rounds
all_won : (c : Certificate) → IsTrueTo c → (q x z : ℕ) → IsOutput c.parts z → EachLeads (board c) (λ g. IsWon (mark_at c g)) q x z → DecisionWinsWithin (board c) (suc (top c.locations)) q x
all_won c t q x z out h = (z, out, λ a r l. wins_of c t ((board c).after q a) (top c.locations) (rank_bounded c ((board c).after q a) (h a r l)))

not_win : (c : Certificate) → IsTrueTo c → (q x : ℕ) (m : Mark) (y : ℕ) → mark_at c q ≢ Goal → Decides c q x m y → ((k : ℕ) → m ≢ Win k)
    → (z : ℕ) → IsOutput c.parts z → ¬ EachLeads (board c) (λ g. IsWon (mark_at c g)) q x z
not_win c t q x m y ne d other z out h = let r = decision_rank c q x m (suc (top c.locations)) (t.decisions q x m y ne d) (all_won c t q x z out h) in other r.0 r.1

sooner : (c : Certificate) → IsTrueTo c → (q x : ℕ) (m : Mark) (y : ℕ) → mark_at c q ≢ Goal → Decides c q x m y → WinsNoSooner c q x m y
sooner c t q x (Win zero) y ne d = λ z out h. absurd ((t.decisions q x (Win 0) y ne d).holds.2)
sooner c t q x (Win (suc zero)) y ne d = λ z out h.
    let s = letter c t q x z ne d.decision out in
    let e : suc zero - 1 ≡ 0 = omega arith in
    let R : ℕ → Type 0 = λ k. IsRankBelow k (mark_at c ((board c).after q s.0)) in
    rank_zero (mark_at c ((board c).after q s.0)) (subst R e (h s.0 s.1 s.2))
sooner c t q x (Win (suc (suc n))) y ne d = λ z out h.
    (t.decisions q x (Win (suc (suc n))) y ne d).least (suc n) (omega arith) (
      z,
      out,
      λ a r l.
          let e : suc (suc n) - 1 ≡ suc n = omega arith in
          let R : ℕ → Type 0 = λ k. IsRankBelow k (mark_at c ((board c).after q a)) in
          wins_of c t ((board c).after q a) n (subst R e (h a r l)),
    )
sooner c t q x Goal y ne d = absurd (t.decisions q x Goal y ne d)
sooner c t q x (Pending n) y ne d = not_win c t q x (Pending n) y ne d (λ k e. cc)
sooner c t q x Lost y ne d = not_win c t q x Lost y ne d (λ k e. cc)
sooner c t q x Held y ne d = not_win c t q x Held y ne d (λ k e. cc)
sooner c t q x (LostIn n) y ne d = not_win c t q x (LostIn n) y ne d (λ k e. cc)

each_by : (c : Certificate) (q n x : ℕ) → (board c).IsDecision q x → HasMark (board c) q (Win n) → DecisionWinsWithin (board c) n q x
each_by c q zero x d h = absurd (h.0 h.1.holds)
each_by c q (suc n) x d h = elim h.1.holds [ inl met ↦ absurd (h.0 met) | inr f ↦ f x d ]

-- at a location `win n` each decision wins within n rounds
each_wins : (c : Certificate) → IsTrueTo c → (q n : ℕ) → mark_at c q ≡ Win n → (x : ℕ) → (board c).IsDecision q x → DecisionWinsWithin (board c) n q x
each_wins c t q n e x d =
    let P : Mark → Type 0 = λ z. HasMark (board c) q z in
    each_by c q n x d (subst P e (t.marks q))

least_of : (c : Certificate) → IsTrueTo c → (q n : ℕ) → mark_at c q ≡ Win n → (k : ℕ) → k < n → ¬ WinsWithin (board c) k q
least_of c t q n e = let P : Mark → Type 0 = λ z. HasMark (board c) q z in (subst P e (t.marks q)).1.least

win_mark : (m : Mark) (n : ℕ) → IsRankBelow n m → m ≢ Goal → IsWinMark m
win_mark Goal n h ne = ne refl
win_mark (Win k) n h ne = tt
win_mark (Pending k) n h ne = h
win_mark Lost n h ne = h
win_mark Held n h ne = h
win_mark (LostIn k) n h ne = h

-- some decision has the number of its location, since else the location would win sooner
reached_by : (c : Certificate) → IsTrueTo c → (q n : ℕ) → mark_at c q ≢ Goal → mark_at c q ≡ Win n → ((x : ℕ) → (board c).IsDecision q x → DecisionWinsWithin (board c) (n - 1) q x) → ⊥
reached_by c t q zero ne e all = let s = some_decision c q (t.play q ne) in (each_wins c t q 0 e s.0 s.1).2
reached_by c t q (suc zero) ne e all =
    let s = some_decision c q (t.play q ne) in
    let f : suc zero - 1 ≡ 0 = omega arith in
    let D : ℕ → Type 0 = λ k. DecisionWinsWithin (board c) k q s.0 in
    (subst D f (all s.0 s.1)).2
reached_by c t q (suc (suc n)) ne e all =
    let f : suc (suc n) - 1 ≡ suc n = omega arith in
    least_of c t q (suc (suc n)) e (suc n) (omega arith) (inr (λ x d. let D : ℕ → Type 0 = λ k. DecisionWinsWithin (board c) k q x in subst D f (all x d)))

reached : (c : Certificate) → IsTrueTo c → (q n : ℕ) → mark_at c q ≢ Goal → mark_at c q ≡ Win n → SomeDecision c q (λ m. m ≡ Win n)
reached c t q n ne e =
    let P : ℕ → Type 0 = λ x. (m : Mark) × (y : ℕ) × Decides c q x m y × (m ≡ Win n) in
    let Q : ℕ → Type 0 = λ x. (board c).IsDecision q x → DecisionWinsWithin (board c) (n - 1) q x in
    elim (find (2 ^ c.parts.inputs) P Q (λ x l. elim (decision_or c q x l) [
      | inr nd ↦ inr (λ d. absurd (nd d))
      | inl dec ↦
          let d = chosen c t q x ne dec in
          let h = t.decisions q x d.0 d.1 ne d.2 in
          let r = decision_rank c q x d.0 n h (each_wins c t q n e x dec) in
          let le : r.0 ≤ n = r.2 in
          elim (cases_eq r.0 n) [
            | inl same ↦ inl (d.0, d.1, d.2, r.1 ∙ ap (λ (z : ℕ). Win z) same)
            | inr less ↦ inr (λ d2.
                let H : Mark → Type 0 = λ z. HasDecisionMark (board c) q x z in
                decision_wins-more (board c) r.0 (n - 1) q x (omega arith) (subst H r.1 h).holds)
          ]
    ])) [
      | inl s ↦ (s.0, s.2.0, s.2.1, s.2.2, s.2.3)
      | inr all ↦ absurd (reached_by c t q n ne e (λ x d. all x (decision_below c q x d) d))
    ]

ranks : (c : Certificate) → IsTrueTo c → (q : ℕ) → mark_at c q ≢ Goal → IsRanked c q
ranks c t q ne = record {
  won = (
    λ w x m y d.
        let n = win_of (mark_at c q) w in
        let r = decision_rank c q x m n.0 (t.decisions q x m y ne d) (each_wins c t q n.0 n.1 x d.decision) in
        let P : Mark → Type 0 = λ z. IsWinMark z in
        subst P (sym r.1) tt,
    λ all.
        let bound = total_in (slice_get c.locations q) in
        win_mark (mark_at c q) (suc (suc bound)) (rank_of c t q (suc bound) (inr (λ x dec.
        let d = chosen c t q x ne dec in
        let w = win_of d.0 (all x d.0 d.1 d.2) in
        let le : number d.0 ≤ bound = decision_bounded c q x d.0 d.1 d.2 in
        let same : number d.0 ≡ w.0 = ap number w.1 in
        let H : Mark → Type 0 = λ z. HasDecisionMark (board c) q x z in
        let h = subst H w.1 (t.decisions q x d.0 d.1 ne d.2) in
        decision_wins-more (board c) w.0 (suc bound) q x (omega arith) h.holds))) ne,
  );
  reached = λ n e. reached c t q n ne e;
  greatest = λ n e x m y d k f.
      let r = decision_rank c q x m n (t.decisions q x m y ne d) (each_wins c t q n e x d.decision) in
      let same : k ≡ r.0 = let a = r.1 in cc in
      let le : r.0 ≤ n = r.2 in omega arith;
}

answers : (c : Certificate) → IsTrueTo c → (q : ℕ) → IsAnswered c q
answers c t q nw = each_from (answers_at c q) _ _ (λ input h y out.
    let s = h y out in
    (s.0, s.1, s.2, λ w. s.3 (top c.locations) (wins_of c t ((board c).after q s.0) (top c.locations) (rank_bounded c ((board c).after q s.0) w)))) (t.answers q nw)

hopeful : (c : Certificate) → IsTrueTo c → (q x : ℕ) (m : Mark) (y : ℕ) → mark_at c q ≢ Goal → Decides c q x m y → IsHopefulMove c q x m y
hopeful c t q x (Pending zero) y ne d = absurd (t.moves q x (Pending 0) y ne d)
hopeful c t q x (Pending (suc n)) y ne d =
    let s = (t.moves q x (Pending (suc n)) y ne d).least.holds in
    (omega arith, (s.0, s.1, s.2, value_of_reaches c t ((board c).after q s.0) n s.3))
hopeful c t q x (Win n) y ne d = tt
hopeful c t q x Goal y ne d = tt
hopeful c t q x Lost y ne d = tt
hopeful c t q x Held y ne d = tt
hopeful c t q x (LostIn n) y ne d = tt

value_positive : (c : Certificate) (q : ℕ) → ¬ HasValueBelow c 0 q
value_positive c q (inl h) = let l : 0 < 0 = h.1 in omega arith
value_positive c q (inr h) = let l : h.0 < 0 = h.2 in omega arith

nearer_by : (c : Certificate) → IsTrueTo c → (q x n y : ℕ) → mark_at c q ≢ Goal → Decides c q x (Pending n) y → (k : ℕ) → k < n → EachLetterLeads c (λ g. ¬ HasValueBelow c k g) q x
nearer_by c t q x n y ne d zero lt z out a r l v = value_positive c ((board c).after q a) v
nearer_by c t q x n y ne d (suc k) lt z out a r l v =
    let h = t.decisions q x (Pending n) y ne d in
    h.1.least (suc k) lt (inr ((λ w. h.0 w.0 w.1), z, out, (a, r, l, reaches_of_value c t ((board c).after q a) k v)))

-- what is not out of reach gives hope
hope_at : (c : Certificate) → IsTrueTo c → (q : ℕ) (m : Mark) → mark_at c q ≡ m → IsOutMark m ⊎ ((k : ℕ) × ReachesWithin (board c) k q)
hope_at c t q Goal e = inr (0, e)
hope_at c t q (Win n) e =
    let ne = not_goal c q (Win n) e (win_no_goal n) in
    let x = some_decision c q (t.play q ne) in
    let d = chosen c t q x.0 ne x.1 in
    let r = decision_rank c q x.0 d.0 n (t.decisions q x.0 d.0 d.1 ne d.2) (each_wins c t q n e x.0 x.1) in
    let N : Mark → Type 0 = λ z. IsNumberBelow (suc r.0) z in
    let one : r.0 < suc r.0 = omega arith in
    inr (r.0, reaches_by c q x.0 r.0 x.1 (hope_of_number c q x.0 d.0 r.0 (t.decisions q x.0 d.0 d.1 ne d.2) (subst N (sym r.1) one)))
hope_at c t q (Pending n) e = let P : Mark → Type 0 = λ z. HasMark (board c) q z in inr (n, (subst P e (t.marks q)).1.holds)
hope_at c t q Lost e = inl tt
hope_at c t q Held e = inl tt
hope_at c t q (LostIn n) e = inl tt

out_of : (c : Certificate) → IsTrueTo c → (q x : ℕ) → ((k : ℕ) → ¬ DecisionWinsWithin (board c) k q x) × ((k : ℕ) → ¬ DecisionReachesWithin (board c) k q x) → EachLetterLeads c (λ g. IsOutMark (mark_at c g)) q x
out_of c t q x h z out a r l =
    elim (hope_at c t ((board c).after q a) (mark_at c ((board c).after q a)) refl) [
      | inl o ↦ o
      | inr s ↦ absurd (h.1 (suc s.0) (inr ((λ w. h.0 w.0 w.1), z, out, (a, r, l, s.1))))
    ]

nearer : (c : Certificate) → IsTrueTo c → (q x : ℕ) (m : Mark) (y : ℕ) → mark_at c q ≢ Goal → Decides c q x m y → ReachesNoSooner c q x m y
nearer c t q x (Pending zero) y ne d = absurd (t.moves q x (Pending 0) y ne d)
nearer c t q x (Pending (suc n)) y ne d = nearer_by c t q x (suc n) y ne d (suc n - 1) (omega arith)
nearer c t q x (Win n) y ne d = tt
nearer c t q x Goal y ne d = tt
nearer c t q x Lost y ne d = out_of c t q x (t.decisions q x Lost y ne d).1
nearer c t q x Held y ne d = out_of c t q x (t.decisions q x Held y ne d).1
nearer c t q x (LostIn n) y ne d = out_of c t q x (t.decisions q x (LostIn n) y ne d).1

-- a number of a decision is a number of rounds in which there is hope
reaches_of_number : (c : Certificate) → IsTrueTo c → (q k : ℕ) → HasNumber c q k → ReachesWithin (board c) k q
reaches_of_number c t q k h = reaches_of_value c t q k (inr (k, h, omega arith))

values : (c : Certificate) → IsTrueTo c → (q : ℕ) (m : Mark) → mark_at c q ≡ m → HasMark (board c) q m → IsValued c q m
values c t q Goal e h = tt
values c t q (Win n) e h = tt
values c t q (Pending n) e h = record {
  holds = elim (value_of_reaches c t q n h.1.holds) [
    | inl g ↦ absurd (not_goal c q (Pending n) e (pending_no_goal n) g.0)
    | inr s ↦ let P : ℕ → Type 0 = λ z. HasNumber c q z in
        elim (cases_lt s.0 n) [
          | inl l ↦ absurd (h.1.least s.0 l (reaches_of_number c t q s.0 s.1))
          | inr g ↦ let same : s.0 ≡ n = let b : s.0 < suc n = s.2 in omega arith in subst P same s.1
        ]
  ];
  least = λ k l s. h.1.least k l (reaches_of_number c t q k s);
}
values c t q Lost e h = λ k s. h.1.1 k (reaches_of_number c t q k s)
values c t q Held e h = λ k s. h.1.1 k (reaches_of_number c t q k s)
values c t q (LostIn n) e h = λ k s. h.1.1 k (reaches_of_number c t q k s)

-- a decision of a location that is out of reach is out of reach, and each of its letters leads there
no_number : (c : Certificate) → IsTrueTo c → (q : ℕ) → ((k : ℕ) → ¬ ReachesWithin (board c) k q) → (k : ℕ) → ¬ HasNumber c q k
no_number c t q h k n = h k (reaches_of_number c t q k n)

-- the letters of a decision `held` or `lost` lead out of reach
leads : (c : Certificate) → IsTrueTo c → (q x : ℕ) (m : Mark) (y : ℕ) → mark_at c q ≢ Goal → Decides c q x m y → IsOutMark m → EachLetterLeads c (λ g. IsOutMark (mark_at c g)) q x
leads c t q x Lost y ne d o = nearer c t q x Lost y ne d
leads c t q x Held y ne d o = nearer c t q x Held y ne d
leads c t q x (LostIn n) y ne d o = nearer c t q x (LostIn n) y ne d
leads c t q x Goal y ne d o = absurd o
leads c t q x (Win n) y ne d o = absurd o
leads c t q x (Pending n) y ne d o = absurd o

held_in : (c : Certificate) (q : ℕ) (m : Mark) → IsOutMark m → HasMark (board c) q m → HasDuty c → ((k : ℕ) → ¬ FailsDutyWithin (board c) k q) → m ≡ Held
held_in c q Held o h u w = refl
held_in c q Lost o h u w = absurd (no_duty c h.0 u)
held_in c q (LostIn n) o h u w = absurd (w n h.2.holds)
held_in c q Goal o h u w = absurd o
held_in c q (Win n) o h u w = absurd o
held_in c q (Pending n) o h u w = absurd o

held_move : (c : Certificate) → IsTrueTo c → HasDuty c → (q x : ℕ) (m : Mark) (y : ℕ) → mark_at c q ≢ Goal → Decides c q x m y → m ≡ Held → EachLeads (board c) (λ g. mark_at c g ≡ Held) q x y
held_move c t u q x m y ne d e a r l =
    let h = decides_as c q x m Held y e d in
    let i = t.moves q x Held y ne h in
    let o = leads c t q x Held y ne h tt y i.output a r l in
    held_in c ((board c).after q a) (mark_at c ((board c).after q a)) o (t.marks ((board c).after q a)) u (i.least.holds a r l)

-- the mark of a decision of a location that is out of reach
out_decision : (c : Certificate) → IsTrueTo c → HasDuty c → (q x : ℕ) (m : Mark) (y : ℕ) → mark_at c q ≢ Goal → ((k : ℕ) → ¬ ReachesWithin (board c) k q) → Decides c q x m y → (m ≡ Held) ⊎ ((n : ℕ) × (m ≡ LostIn n))
out_decision c t u q x Held y ne h d = inl refl
out_decision c t u q x (LostIn n) y ne h d = inr (n, refl)
out_decision c t u q x Lost y ne h d = absurd (no_duty c (t.decisions q x Lost y ne d).0 u)
out_decision c t u q x Goal y ne h d = absurd (t.decisions q x Goal y ne d)
out_decision c t u q x (Win n) y ne h d = absurd (no_number c t q h n (x, Win n, y, d, refl))
out_decision c t u q x (Pending n) y ne h d = absurd (no_number c t q h n (x, Pending n, y, d, refl))

-- from a decision `lost n` the environment breaks the duty within n rounds, so it does at the location
fails_by : (c : Certificate) (q x n : ℕ) → (board c).IsDecision q x → DecisionFailsDutyWithin (board c) n q x → FailsDutyWithin (board c) n q
fails_by c q x zero d w = absurd w
fails_by c q x (suc n) d w = inr (x, d, w)

held_all : (c : Certificate) → IsTrueTo c → HasDuty c → (q : ℕ) → mark_at c q ≢ Goal → mark_at c q ≡ Held → EachDecision c q (λ x m y. m ≡ Held)
held_all c t u q ne e x m y d =
    let P : Mark → Type 0 = λ z. HasMark (board c) q z in
    let h = subst P e (t.marks q) in
    elim (out_decision c t u q x m y ne h.1.1 d) [
      | inl s ↦ s
      | inr s ↦
          let k = t.decisions q x (LostIn s.0) y ne (decides_as c q x m (LostIn s.0) y s.1 d) in
          absurd (h.2 s.0 (fails_by c q x s.0 d.decision k.3.holds))
    ]

keeps_of : (c : Certificate) → IsTrueTo c → HasDuty c → (q : ℕ) → mark_at c q ≢ Goal → EachDecision c q (λ x m y. m ≡ Held) → (x : ℕ) → (board c).IsDecision q x → (y : ℕ) × IsOutput c.parts y × KeepsDuty (board c) q x y
keeps_of c t u q ne all x dec =
    let d = chosen c t q x ne dec in
    (t.decisions q x Held d.1 ne (decides_as c q x d.0 Held d.1 (all x d.0 d.1 d.2) d.2)).2

lost_by : (c : Certificate) → IsTrueTo c → HasDuty c → (q n : ℕ) → mark_at c q ≢ Goal → EachDecision c q (λ x m y. m ≡ Held) → (x : ℕ) → (board c).IsDecision q x → ¬ FailsDutyWithin (board c) n q
lost_by c t u q zero ne all x dec b =
    let k = keeps_of c t u q ne all x dec in
    let s = letter c t q x k.0 ne dec k.1 in
    k.2 s.0 s.1 s.2 0 (t.broken q s.0 s.1.letter b s.2)
lost_by c t u q (suc n) ne all x dec (inl b) =
    let k = keeps_of c t u q ne all x dec in
    let s = letter c t q x k.0 ne dec k.1 in
    k.2 s.0 s.1 s.2 0 (t.broken q s.0 s.1.letter b s.2)
lost_by c t u q (suc n) ne all x dec (inr w) =
    let k = keeps_of c t u q ne all w.0 w.1 in
    let s = w.2 k.0 k.1 in
    k.2 s.0 s.1 s.2 n s.3

held_is_no_win : (m : Mark) (n : ℕ) → m ≡ Held → m ≡ Win n → ⊥
held_is_no_win m n a b = cc

held_no_number : (m : Mark) (n : ℕ) → m ≡ Held → ¬ IsNumber m n
held_no_number m n e h = let P : Mark → Type 0 = λ z. IsNumber z n in subst P e h

-- where each decision is held, the location is not lost
not_lost : (c : Certificate) → IsTrueTo c → HasDuty c → (q n : ℕ) → mark_at c q ≢ Goal → EachDecision c q (λ x m y. m ≡ Held) → ¬ FailsDutyWithin (board c) n q
not_lost c t u q n ne all w =
    let s = some_decision c q (t.play q ne) in
    lost_by c t u q n ne all s.0 s.1 w

held_one : (c : Certificate) → IsTrueTo c → HasDuty c → (q : ℕ) (m : Mark) → mark_at c q ≡ m → HasMark (board c) q m → mark_at c q ≢ Goal → EachDecision c q (λ x m y. m ≡ Held) → m ≡ Held
held_one c t u q Held e h ne all = refl
held_one c t u q Lost e h ne all = absurd (no_duty c h.0 u)
held_one c t u q Goal e h ne all = absurd (ne e)
held_one c t u q (LostIn n) e h ne all = absurd (not_lost c t u q n ne all h.2.holds)
held_one c t u q (Pending n) e h ne all = let s = (values c t q (Pending n) e h).holds in absurd (held_no_number s.1 n (all s.0 s.1 s.2 s.3) s.4)
held_one c t u q (Win n) e h ne all =
    let s = reached c t q n ne e in
    absurd (let a : s.1 ≡ Held = all s.0 s.1 s.2 s.3 in let b : s.1 ≡ Win n = s.4 in held_is_no_win s.1 n a b)

kept : (c : Certificate) → IsTrueTo c → HasDuty c → (q : ℕ) → mark_at c q ≢ Goal → IsKept c q
kept c t u q ne = record {
  broken = λ e a l legal. t.broken q a l e legal;
  move = λ x m y d e. held_move c t u q x m y ne d e;
  held = (λ e. held_all c t u q ne e, λ all. held_one c t u q (mark_at c q) refl (t.marks q) ne all);
}

loss_cases : (n : ℕ) (m : Mark) → IsLossBelow n m ⊎ (IsOutMark m → m ≢ Lost → IsLossFrom (suc n) m)
loss_cases n (LostIn k) = elim (cases_lt k n) [ inl l ↦ inl l | inr g ↦ inr (λ o ne. omega arith) ]
loss_cases n Held = inr (λ o ne. tt)
loss_cases n Lost = inr (λ o ne. ne refl)
loss_cases n Goal = inr (λ o ne. absurd o)
loss_cases n (Win k) = inr (λ o ne. absurd o)
loss_cases n (Pending k) = inr (λ o ne. absurd o)

loss_or : (c : Certificate) (n g : ℕ) → IsLossBelow n (mark_at c g) ⊎ (IsOutMark (mark_at c g) → mark_at c g ≢ Lost → IsLossFrom (suc n) (mark_at c g))
loss_or c n g = loss_cases n (mark_at c g)

plain : (c : Certificate) → IsTrueTo c → HasDuty c → (g : ℕ) → mark_at c g ≢ Lost
plain c t u g e = let P : Mark → Type 0 = λ z. IsMarkOf c.has_duty z in let no : c.has_duty ≡ false = subst P e (t.fitting.marks g) in cc

no_loss_below : (m : Mark) → ¬ IsLossBelow 0 m
no_loss_below (LostIn k) h = omega arith
no_loss_below Goal h = h
no_loss_below (Win k) h = h
no_loss_below (Pending k) h = h
no_loss_below Lost h = h
no_loss_below Held h = h

-- no output leads to losses below n - 1 in each case
not_all_sooner : (c : Certificate) → IsTrueTo c → HasDuty c → (q x n y : ℕ) → mark_at c q ≢ Goal → Decides c q x (LostIn (suc n)) y
    → ((z : ℕ) → z < 2 ^ c.parts.outputs → SomeLeads (board c) (λ g. IsLossBelow n (mark_at c g)) q x z) → ⊥
not_all_sooner c t u q x zero y ne d all = let s = all 0 (pow_pos c.parts.outputs) in no_loss_below (mark_at c ((board c).after q s.0)) s.3
not_all_sooner c t u q x (suc n) y ne d all =
    (t.decisions q x (LostIn (suc (suc n))) y ne d).3.least (suc n) (omega arith)
    (λ z out. let s = all z out in (s.0, s.1, s.2, fails_of c t ((board c).after q s.0) n s.3))

slow : (c : Certificate) → IsTrueTo c → HasDuty c → (q x n y : ℕ) → mark_at c q ≢ Goal → Decides c q x (LostIn (suc n)) y → EachLetterLeads c (λ g. IsOutMark (mark_at c g)) q x
    → (z : ℕ) × IsOutput c.parts z × EachLeads (board c) (λ g. IsLossFrom (suc n) (mark_at c g)) q x z
slow c t u q x n y ne d o =
    let P : ℕ → Type 0 = λ z. EachLeads (board c) (λ g. IsOutMark (mark_at c g) → mark_at c g ≢ Lost → IsLossFrom (suc n) (mark_at c g)) q x z in
    let Q : ℕ → Type 0 = λ z. SomeLeads (board c) (λ g. IsLossBelow n (mark_at c g)) q x z in
    elim (find (2 ^ c.parts.outputs) P Q (λ z l.
    elim (lead_or c (λ g. IsLossBelow n (mark_at c g)) (λ g. IsOutMark (mark_at c g) → mark_at c g ≢ Lost → IsLossFrom (suc n) (mark_at c g)) (loss_or c n) q x z) [
      | inl s ↦ inr s
      | inr each ↦ inl each
    ])) [
      | inl s ↦ (s.0, s.1, λ a r l. s.2 a r l (o s.0 s.1 a r l) (plain c t u ((board c).after q a)))
      | inr all ↦ absurd (not_all_sooner c t u q x n y ne d all)
    ]

losses : (c : Certificate) → IsTrueTo c → HasDuty c → (q x : ℕ) (m : Mark) (y : ℕ) → mark_at c q ≢ Goal → Decides c q x m y → IsLossOf c q x m y
losses c t u q x (LostIn zero) y ne d = absurd ((t.decisions q x (LostIn 0) y ne d).3.holds)
losses c t u q x (LostIn (suc n)) y ne d =
    let h = (t.decisions q x (LostIn (suc n)) y ne d).3 in
    let o = leads c t q x (LostIn (suc n)) y ne d tt in (
      omega arith,
      λ z out. let s = h.holds z out in (s.0, s.1, s.2, loss_of c t ((board c).after q s.0) n (o z out s.0 s.1 s.2) u s.3),
      slow c t u q x n y ne d o,
    )
losses c t u q x Goal y ne d = tt
losses c t u q x (Win n) y ne d = tt
losses c t u q x (Pending n) y ne d = tt
losses c t u q x Lost y ne d = tt
losses c t u q x Held y ne d = tt

loss_number : (c : Certificate) → IsTrueTo c → (q k : ℕ) → mark_at c q ≢ Goal → SomeDecision c q (λ m. m ≡ LostIn k) → FailsDutyWithin (board c) k q
loss_number c t q k ne s = fails_by c q s.0 k s.3.decision (t.decisions q s.0 (LostIn k) s.2 ne (decides_as c q s.0 s.1 (LostIn k) s.2 s.4 s.3)).3.holds

lost_decision : (c : Certificate) → IsTrueTo c → HasDuty c → (q n : ℕ) → mark_at c q ≢ Goal → HasMark (board c) q (LostIn (suc n)) → (x : ℕ) → (board c).IsDecision q x
    → DecisionFailsDutyWithin (board c) (suc n) q x → SomeDecision c q (λ m. m ≡ LostIn (suc n))
lost_decision c t u q n ne h x dec w =
    let d = chosen c t q x ne dec in
    elim (out_decision c t u q x d.0 d.1 ne h.1.1 d.2) [
      | inl e ↦
          let k = (t.decisions q x Held d.1 ne (decides_as c q x d.0 Held d.1 e d.2)).2 in
          absurd (let s = w k.0 k.1 in k.2 s.0 s.1 s.2 n s.3)
      | inr s ↦
          let j = decides_as c q x d.0 (LostIn s.0) d.1 s.1 d.2 in
          let i = (t.decisions q x (LostIn s.0) d.1 ne j).3 in
          elim (cases_lt (suc n) s.0) [
            | inl l ↦ absurd (i.least (suc n) l w)
            | inr g ↦ elim (cases_lt s.0 (suc n)) [
              | inl l ↦ absurd (h.2.least s.0 l (fails_by c q x s.0 dec i.holds))
              | inr f ↦ let same : s.0 ≡ suc n = omega arith in (x, d.0, d.1, d.2, s.1 ∙ ap (λ (z : ℕ). LostIn z) same)
            ]
          ]
    ]

least : (c : Certificate) → IsTrueTo c → HasDuty c → (q : ℕ) (m : Mark) → mark_at c q ≡ m → HasMark (board c) q m → mark_at c q ≢ Goal → IsLeastLoss c q m
least c t u q (LostIn zero) e h ne = λ l. absurd (omega arith)
least c t u q (LostIn (suc n)) e h ne = λ l. record {
  holds = elim h.2.holds [
    | inl b ↦ absurd (h.2.least 0 (omega arith) b)
    | inr f ↦ lost_decision c t u q n ne h f.0 f.1 f.2
  ];
  least = λ k lt s. h.2.least k lt (loss_number c t q k ne s);
}
least c t u q Goal e h ne = tt
least c t u q (Win n) e h ne = tt
least c t u q (Pending n) e h ne = tt
least c t u q Lost e h ne = tt
least c t u q Held e h ne = tt

-- a certificate that is true to its game is valid
pub valid_of_true : (c : Certificate) → IsTrueTo c → IsValid c
valid_of_true c t rules.Rounds q l = λ ne. t.play q ne
valid_of_true c t rules.WinningMoves q l = λ ne. λ x m y d. winning c t q x m y ne d
valid_of_true c t rules.Sooner q l = λ ne. λ x m y d. sooner c t q x m y ne d
valid_of_true c t rules.Ranks q l = λ ne. ranks c t q ne
valid_of_true c t rules.Answers q l = λ ne. answers c t q
valid_of_true c t rules.HopefulMoves q l = λ ne. λ x m y d. hopeful c t q x m y ne d
valid_of_true c t rules.Nearer q l = λ ne. λ x m y d. nearer c t q x m y ne d
valid_of_true c t rules.Values q l = λ ne. values c t q (mark_at c q) refl (t.marks q)
valid_of_true c t rules.Verdict q l = λ e. let P : ℕ → Type 0 = λ z. IsRankVerdict c.verdict (mark_at c z) in subst P (sym e) t.verdict
valid_of_true c t rules.Duties q l = λ u. λ ne. kept c t u q ne
valid_of_true c t rules.Losses q l = λ u. λ ne x m y d. losses c t u q x m y ne d
valid_of_true c t rules.LossNumbers q l = λ u. λ ne. least c t u q (mark_at c q) refl (t.marks q) ne
