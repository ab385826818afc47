-- Live histories that nothing tells apart share a location.
use Rattle.std.proofs.Common.{◌≡◌, ◌<◌, ◌^◌, ◌+◌, ◌⊎◌, ◌↔◌, [], ◌∷◌, ◌++◌, ℕ, ◌==◌, inl, inr, refl, sym, ◌∙◌, ap, subst, Option, Some}
use Rattle.std.proofs.lemmas.List.{append-nil, append_assoc}
use Rattle.forms.specs.Word.{Word, Claim, IsOver}
use Rattle.automata.specs.Moves.{Moves, location_after, accepts}
use Rattle.automata.proofs.Words.{over-nil, over-cons, over-append, location_after-append}
use Rattle.game.specs.Board.{Mover, Agent, Environment, width}
use Rattle.game.specs.Histories.{Aims, IsViolated, IsDone, IsKeepable, IsLegalRound, IsLegalHistory, IsRunning, IsMetFirst, IsLive, ShareLocation, Kind, Running, Broken, Met, Past, Illegal, HasKind, violation, one_more}
use Rattle.game.specs.Simulates.{Simulates}
use Rattle.game.specs.Alike.{AreAlike}
use Rattle.game.proofs.Simulation.{wins}
use Rattle.game.proofs.HistoryLemmas.{over-front, over-last, by_last_letter, not_empty, violated-more, violated-now, violated-cases, violated_or_not, done_or_not, legal-more, legal-less, running-more, met-more, live_unmet, over-front, over-last}

-- alike histories stay so
alike-more : (s : Aims) (u v x : Word) → IsOver (width s.parts) x → AreAlike s u v → AreAlike s (u ++ x) (v ++ x)
alike-more s u v x o r =
    let p = width s.parts in
    record {
      goal = λ w k. ap s.goal (append_assoc u x w) ∙ r.goal (x ++ w) (over-append p x w o k) ∙ ap s.goal (sym (append_assoc v x w));
      assumed = λ w k. let e = r.assumed (x ++ w) (over-append p x w o k) in (
        λ z. subst (IsViolated s.assumed) (sym (append_assoc v x w)) (e.0 (subst (IsViolated s.assumed) (append_assoc u x w) z)),
        λ z. subst (IsViolated s.assumed) (sym (append_assoc u x w)) (e.1 (subst (IsViolated s.assumed) (append_assoc v x w) z)),
      );
      duty = λ w k. let e = r.duty (x ++ w) (over-append p x w o k) in (
        λ z. subst (IsViolated s.duty) (sym (append_assoc v x w)) (e.0 (subst (IsViolated s.duty) (append_assoc u x w) z)),
        λ z. subst (IsViolated s.duty) (sym (append_assoc u x w)) (e.1 (subst (IsViolated s.duty) (append_assoc v x w) z)),
      );
    }

alike_turned : (s : Aims) (u v : Word) → AreAlike s u v → AreAlike s v u
alike_turned s u v r = record { goal = λ w k. sym (r.goal w k); assumed = λ w k. let e = r.assumed w k in (e.1, e.0); duty = λ w k. let e = r.duty w k in (e.1, e.0) }

-- what they say themselves
now : (o : Option Claim) (u v : Word) → (IsViolated o (u ++ []) ↔ IsViolated o (v ++ [])) → IsViolated o u ↔ IsViolated o v
now o u v e =
    (λ z. subst (IsViolated o) (append-nil v) (e.0 (subst (IsViolated o) (sym (append-nil u)) z)), λ z. subst (IsViolated o) (append-nil u) (e.1 (subst (IsViolated o) (sym (append-nil v)) z)))

alike_done : (s : Aims) (u v : Word) → AreAlike s u v → IsDone s u → IsDone s v
alike_done s u v r (whole, goal) =
    let p = width s.parts in
    let e = now s.duty u v (r.duty [] (over-nil p)) in
    (λ z. whole (e.1 z), ap s.goal (sym (append-nil v)) ∙ sym (r.goal [] (over-nil p)) ∙ ap s.goal (append-nil u) ∙ goal)

-- the game of violating what is assumed is the same from alike histories
alike_simulates : (s : Aims) → Simulates (violation s) (violation s) (λ u v. AreAlike s u v)
alike_simulates s =
    let p = width s.parts in
    record {
      duty = refl;
      decided = λ u v r. violated_or_not s.assumed u;
      met = λ u v r. now s.assumed u v (r.assumed [] (over-nil p));
      broken = λ u v r. (λ w. w, λ w. w);
      decision = λ u v r unmet x. (λ d. d, λ d. d);
      legal = λ u v r unmet a k. (λ l. l, λ l. l);
      kept = λ u v r unmet a k l. alike-more s u v (a ∷ []) (over-cons p a [] k (over-nil p)) r;
    }

alike_keepable : (s : Aims) (u v : Word) → AreAlike s u v → IsKeepable s u → IsKeepable s v
alike_keepable s u v r keep n w = keep n (wins (violation s) (violation s) (λ u v. AreAlike s u v) (alike_simulates s) n v u (alike_turned s u v r) w)

abbrev aims : Mover → ℕ → ℕ → Claim → Option Claim → Option Claim → Aims
aims d i o g k u = record { parts = record { first = d; inputs = i; outputs = o }; goal = g; assumed = k; duty = u }

-- so are legal rounds
alike_round_by : (d : Mover) (i o : ℕ) (g : Claim) (k u : Option Claim) (h j : Word) (a : ℕ) → a < 2 ^ (i + o)
    → ((b : ℕ) → b < 2 ^ (i + o) → IsKeepable (aims d i o g k u) (one_more h b) → IsKeepable (aims d i o g k u) (one_more j b)) → IsLegalRound (aims d i o g k u) h a → IsLegalRound (aims d i o g k u) j a
alike_round_by Agent i o g k u h j a l keep legal = keep a l legal
alike_round_by Environment i o g k u h j a l keep legal = λ b q e. keep b q (legal b q e)

alike_round : (s : Aims) (u v : Word) (a : ℕ) → a < 2 ^ width s.parts → AreAlike s u v → IsLegalRound s u a → IsLegalRound s v a
alike_round s u v a l r legal =
    let p = width s.parts in
    alike_round_by s.parts.first s.parts.inputs s.parts.outputs s.goal s.assumed s.duty u v a l
    (λ b k keep. alike_keepable s (one_more u b) (one_more v b) (alike-more s u v (b ∷ []) (over-cons p b [] k (over-nil p)) r) keep) legal

-- the two stand alike: both go on, or both have one of the other kinds
data StandAlike (s : Aims) (u v : Word) : Type 0 where
  run : IsRunning s u → IsRunning s v → StandAlike s u v
  met : IsMetFirst s u → IsMetFirst s v → StandAlike s u v
  past : HasKind s u Past → HasKind s v Past → StandAlike s u v
  illegal : HasKind s u Illegal → HasKind s v Illegal → StandAlike s u v

alike_kind : (s : Aims) (u v : Word) → AreAlike s u v → StandAlike s u v → (k : Kind) × HasKind s u k × HasKind s v k
alike_kind s u v r (run x y) =
    let e = now s.duty u v (r.duty [] (over-nil (width s.parts))) in
    elim (violated_or_not s.duty u) [ inl b ↦ (Broken, (x, b), (y, e.0 b)) | inr n ↦ (Running, (x, n), (y, λ z. n (e.1 z))) ]
alike_kind s u v r (met x y) = (Met, x, y)
alike_kind s u v r (past x y) = (Past, x, y)
alike_kind s u v r (illegal x y) = (Illegal, x, y)

past-more : (s : Aims) (h : Word) (a : ℕ) → HasKind s h Past → HasKind s (one_more h a) Past
past-more s h a (u, v, z, some, m) = (u, v ++ a ∷ [], ap (λ t. t ++ a ∷ []) z ∙ append_assoc u v (a ∷ []), not_empty v [] a, m)

illegal-more : (s : Aims) (h : Word) (a : ℕ) → HasKind s h Illegal → HasKind s (one_more h a) Illegal
illegal-more s h a (u, v, c, z, r, bad) = (u, v ++ a ∷ [], c, ap (λ t. t ++ a ∷ []) z ∙ append_assoc u (c ∷ v) (a ∷ []), r, bad)

-- one more letter
stand-more : (s : Aims) → ((h : Word) → IsOver (width s.parts) h → IsLegalHistory s h ⊎ (¬ IsLegalHistory s h)) → (u v : Word) (a : ℕ) → IsOver (width s.parts) u → a < 2 ^ width s.parts
    → AreAlike s u v → StandAlike s u v → StandAlike s (one_more u a) (one_more v a)
stand-more s decided u v a o k r (run x y) =
    let p = width s.parts in
    let r' = alike-more s u v (a ∷ []) (over-cons p a [] k (over-nil p)) r in
    elim (decided (one_more u a) (over-append p u (a ∷ []) o (over-cons p a [] k (over-nil p)))) [
      | inl l ↦
          let lu = (legal-less s u a l).2 in
          let lv = alike_round s u v a k r lu in
          elim (done_or_not s (one_more u a)) [
            | inl d ↦ met (met-more s u a x k lu d) (met-more s v a y k lv (alike_done s (one_more u a) (one_more v a) r' d))
            | inr n ↦ run (running-more s u a x k lu n) (running-more s v a y k lv (λ d. n (alike_done s (one_more v a) (one_more u a) (alike_turned s (one_more u a) (one_more v a) r') d)))
          ]
      | inr n ↦ illegal (u, [], a, refl, x, λ l. n (legal-more s u a x.0 k l))
          (v, [], a, refl, y, λ l. n (legal-more s u a x.0 k (alike_round s v u a k (alike_turned s u v r) l)))
    ]
stand-more s decided u v a o k r (met x y) = past (u, a ∷ [], refl, not_empty [] [] a, x) (v, a ∷ [], refl, not_empty [] [] a, y)
stand-more s decided u v a o k r (past x y) = past (past-more s u a x) (past-more s v a y)
stand-more s decided u v a o k r (illegal x y) = illegal (illegal-more s u a x) (illegal-more s v a y)

-- a live history that meets the goal meets it first
done_live : (s : Aims) (h : Word) → IsLive s h → IsDone s h → IsMetFirst s h
done_live s h (inl r) d = absurd (r.1 h [] (sym (append-nil h)) d)
done_live s h (inr m) d = m

-- live histories that nothing tells apart share a location
pub alike_share : (s : Aims) → ((h : Word) → IsOver (width s.parts) h → IsLegalHistory s h ⊎ (¬ IsLegalHistory s h)) → (u v : Word) → IsOver (width s.parts) u
    → IsLive s u → IsLive s v → AreAlike s u v → ShareLocation s u v
alike_share s decided u v o lu lv r w =
    let p = width s.parts in
    let start : StandAlike s u v = elim (done_or_not s u) [
      | inl d ↦ met (done_live s u lu d) (done_live s v lv (alike_done s u v r d))
      | inr n ↦ run (live_unmet s u lu n) (live_unmet s v lv (λ d. n (alike_done s v u (alike_turned s u v r) d)))
    ] in
    λ ow.
    let q = by_last_letter (λ w. IsOver p w → StandAlike s (u ++ w) (v ++ w))
    (λ k. subst (λ x. StandAlike s x (v ++ [])) (sym (append-nil u)) (subst (λ x. StandAlike s u x) (sym (append-nil v)) start))
    (λ x a before k.
    let f = over-front p x a k in
    subst (λ y. StandAlike s y (v ++ (x ++ a ∷ []))) (append_assoc u x (a ∷ [])) (subst (λ y. StandAlike s (one_more (u ++ x) a) y) (append_assoc v x (a ∷ []))
    (stand-more s decided (u ++ x) (v ++ x) a (over-append p u x o f) (over-last p x a k) (alike-more s u v x f r) (before f))))
    w ow in
    alike_kind s (u ++ w) (v ++ w) (alike-more s u v w ow r) q

-- where one automaton decides a claim, two histories with one location, which both violate it or neither, go on alike
violated_from : (k : Moves) (u v : Word) → location_after k k.first u ≡ location_after k k.first v → (IsViolated (Some (λ x. accepts k x)) u → IsViolated (Some (λ x. accepts k x)) v)
    → (w : Word) → IsViolated (Some (λ x. accepts k x)) (u ++ w) → IsViolated (Some (λ x. accepts k x)) (v ++ w)
violated_from k u v e to w =
    let c : Claim = λ x. accepts k x in
    by_last_letter (λ w. IsViolated (Some c) (u ++ w) → IsViolated (Some c) (v ++ w))
    (λ z. subst (IsViolated (Some c)) (sym (append-nil v)) (to (subst (IsViolated (Some c)) (append-nil u) z)))
    (λ x a before z.
    elim (violated-cases c (u ++ x) a (subst (IsViolated (Some c)) (sym (append_assoc u x (a ∷ []))) z)) [
      | inl y ↦ subst (IsViolated (Some c)) (append_assoc v x (a ∷ [])) (violated-more (Some c) (v ++ x) a (before y))
      | inr f ↦
          let after : (h : Word) → location_after k k.first ((h ++ x) ++ a ∷ []) ≡ location_after k (location_after k k.first h) (x ++ a ∷ []) =
          λ h. ap (location_after k k.first) (append_assoc h x (a ∷ [])) ∙ location_after-append k k.first h (x ++ a ∷ []) in
          let same : location_after k k.first (one_more (v ++ x) a) ≡ location_after k k.first (one_more (u ++ x) a) =
          after v ∙ ap (λ q. location_after k q (x ++ a ∷ [])) (sym e) ∙ sym (after u) in
          subst (IsViolated (Some c)) (append_assoc v x (a ∷ [])) (violated-now c (v ++ x) a (ap (λ q. k.mark q == 1) same ∙ f))
    ])
    w

pub violated_alike : (k : Moves) (u v : Word) → location_after k k.first u ≡ location_after k k.first v
    → (IsViolated (Some (λ x. accepts k x)) u ↔ IsViolated (Some (λ x. accepts k x)) v)
    → (w : Word) → IsViolated (Some (λ x. accepts k x)) (u ++ w) ↔ IsViolated (Some (λ x. accepts k x)) (v ++ w)
violated_alike k u v e b w = (violated_from k u v e b.0 w, violated_from k v u (sym e) b.1 w)

-- and so does what an automaton accepts
pub accepted_alike : (g : Moves) (u v : Word) → location_after g g.first u ≡ location_after g g.first v → (w : Word) → accepts g (u ++ w) ≡ accepts g (v ++ w)
accepted_alike g u v e w =
    ap (λ q. g.mark q == 1) (location_after-append g g.first u w ∙ ap (λ q. location_after g q w) e ∙ sym (location_after-append g g.first v w))
