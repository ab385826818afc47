-- The bound on locations: what tells live histories apart is where three automata are.
use Rattle.std.proofs.Common.{◌≡◌, ◌<◌, ◌≤◌, ◌+◌, ◌*◌, ◌⊎◌, ◌↔◌, ◌^◌, ◌++◌, ℕ, inl, inr, refl, ◌∙◌, ap, Option, Some, None, arith}
use Rattle.std.proofs.lemmas.List.{append_assoc}
use Rattle.forms.specs.Word.{Word, Claim, IsOver}
use Rattle.diagrams.specs.Eval.{Diagrams}
use Rattle.automata.specs.Moves.{Moves, location_after}
use Rattle.automata.specs.Table.{Table, size_of, Fits, moves_of}
use Rattle.automata.proofs.Words.{location_after-within}
use Rattle.game.specs.Board.{Mover, Agent, Environment, Partition, width}
use Rattle.game.specs.Histories.{Aims, IsViolated, IsKeepable, IsLegalRound, IsLegalHistory, one_more}
use Rattle.game.specs.Arena.{Locations, IsArenaOf}
use Rattle.legality.specs.Legal.{claim_of, TellsLegal}
use Rattle.arena.specs.Building.{claim_where, FitsWhere, BeginsWhere, assumed_count, duty_count, aims_of}
use Rattle.game.proofs.HistoryLemmas.{by_last_letter, violated-nil, violated_or_not, legal-less, live_legal}
use Rattle.game.proofs.AlikeLemmas.{violated_alike, accepted_alike}
use Rattle.game.proofs.BoundLemmas.{arena_bound, code_small, code_once}
use Rattle.legality.proofs.LegalLemmas.{closed_of}

-- what was violated stays so
violated_stays : (o : Option Claim) (u w : Word) → IsViolated o u → IsViolated o (u ++ w)
violated_stays None u w x = elim x [ ]
violated_stays (Some c) u w (x, y, e, some, f) = (x, y ++ w, ap (λ z. z ++ w) e ∙ append_assoc x y w, some, f)

-- a legal round leads to where what is assumed can be kept
round_keeps : (d : Mover) (i o : ℕ) (g : Claim) (k u : Option Claim) (h : Word) (a : ℕ) → a < 2 ^ (i + o)
    → IsLegalRound (record { parts = record { first = d; inputs = i; outputs = o }; goal = g; assumed = k; duty = u }) h a
    → IsKeepable (record { parts = record { first = d; inputs = i; outputs = o }; goal = g; assumed = k; duty = u }) (one_more h a)
round_keeps Agent i o g k u h a l r = r
round_keeps Environment i o g k u h a l r = r a l refl

-- so a legal history has violated nothing that is assumed
legal_whole : (s : Aims) (h : Word) → IsLegalHistory s h → ¬ IsViolated s.assumed h
legal_whole s h =
    by_last_letter (λ h. IsLegalHistory s h → ¬ IsViolated s.assumed h) (λ l. violated-nil s.assumed)
    (λ u a before l. let r = legal-less s u a l in round_keeps s.parts.first s.parts.inputs s.parts.outputs s.goal s.assumed s.duty u a r.1 r.2 0) h

-- where the automaton is after a history, or 0 where there is none
assumed_code : Diagrams → Option Table → Word → ℕ
assumed_code s None h = 0
assumed_code s (Some t) h = location_after (moves_of s t) t.first h

-- the same, or one more location where the history has violated it
spot : (size at : ℕ) {P : Type 0} → P ⊎ (¬ P) → ℕ
spot size at (inl x) = size
spot size at (inr x) = at

duty_code : Diagrams → Option Table → Word → ℕ
duty_code s None h = 0
duty_code s (Some t) h = spot (size_of t) (location_after (moves_of s t) t.first h) (violated_or_not (Some (claim_of s t)) h)

assumed_small : (p : ℕ) (s : Diagrams) (o : Option Table) (h : Word) → FitsWhere s o → BeginsWhere o → IsOver p h → assumed_code s o h < assumed_count o
unfolding assumed_code
assumed_small p s None h f b o = omega arith
assumed_small p s (Some t) h f b o = location_after-within p (moves_of s t) (closed_of p s t f b) t.first h b o

spot_small : (size at : ℕ) {P : Type 0} (d : P ⊎ (¬ P)) → at < size → spot size at d < size + 1
unfolding spot
spot_small size at (inl x) h = omega arith
spot_small size at (inr x) h = omega arith

duty_small : (p : ℕ) (s : Diagrams) (o : Option Table) (h : Word) → FitsWhere s o → BeginsWhere o → IsOver p h → duty_code s o h < duty_count o
unfolding duty_code
duty_small p s None h f b o = omega arith
duty_small p s (Some t) h f b o =
    spot_small (size_of t) (location_after (moves_of s t) t.first h) (violated_or_not (Some (claim_of s t)) h) (location_after-within p (moves_of s t) (closed_of p s t f b) t.first h b o)

-- equal codes: nothing tells them apart
assumed_tells : (s : Diagrams) (o : Option Table) (u v : Word) → assumed_code s o u ≡ assumed_code s o v → ¬ IsViolated (claim_where s o) u → ¬ IsViolated (claim_where s o) v
    → (w : Word) → IsViolated (claim_where s o) (u ++ w) ↔ IsViolated (claim_where s o) (v ++ w)
unfolding assumed_code
assumed_tells s None u v e x y w = (λ z. z, λ z. z)
assumed_tells s (Some t) u v e x y w = violated_alike (moves_of s t) u v e (λ z. absurd (x z), λ z. absurd (y z)) w

spot_tells : (s : Diagrams) (t : Table) (u v : Word) (d : IsViolated (Some (claim_of s t)) u ⊎ (¬ IsViolated (Some (claim_of s t)) u)) (g : IsViolated (Some (claim_of s t)) v ⊎ (¬ IsViolated (Some (claim_of s t)) v))
    → location_after (moves_of s t) t.first u < size_of t → location_after (moves_of s t) t.first v < size_of t
    → spot (size_of t) (location_after (moves_of s t) t.first u) d ≡ spot (size_of t) (location_after (moves_of s t) t.first v) g
    → (w : Word) → IsViolated (Some (claim_of s t)) (u ++ w) ↔ IsViolated (Some (claim_of s t)) (v ++ w)
unfolding spot
spot_tells s t u v (inl x) (inl y) h k e w = (λ z. violated_stays (Some (claim_of s t)) v w y, λ z. violated_stays (Some (claim_of s t)) u w x)
spot_tells s t u v (inl x) (inr y) h k e w = absurd (omega arith)
spot_tells s t u v (inr x) (inl y) h k e w = absurd (omega arith)
spot_tells s t u v (inr x) (inr y) h k e w = violated_alike (moves_of s t) u v e (λ z. absurd (x z), λ z. absurd (y z)) w

duty_tells : (p : ℕ) (s : Diagrams) (o : Option Table) (u v : Word) → FitsWhere s o → BeginsWhere o → IsOver p u → IsOver p v → duty_code s o u ≡ duty_code s o v
    → (w : Word) → IsViolated (claim_where s o) (u ++ w) ↔ IsViolated (claim_where s o) (v ++ w)
unfolding duty_code
duty_tells p s None u v f b ou ov e w = (λ z. z, λ z. z)
duty_tells p s (Some t) u v f b ou ov e w =
    let closed = closed_of p s t f b in
    spot_tells s t u v (violated_or_not (Some (claim_of s t)) u) (violated_or_not (Some (claim_of s t)) v)
    (location_after-within p (moves_of s t) closed t.first u b ou) (location_after-within p (moves_of s t) closed t.first v b ov) e w

-- an arena has no more locations than goal, what is assumed and duty can tell apart
pub count_bound : (s : Diagrams) (p : Partition) (goal : Table) (keep duty : Option Table) (m : Locations) → Fits s goal → goal.first < size_of goal → FitsWhere s keep → BeginsWhere keep → FitsWhere s duty → BeginsWhere duty
    → ((h : Word) → IsOver (width p) h → IsLegalHistory (aims_of s p goal keep duty) h ⊎ (¬ IsLegalHistory (aims_of s p goal keep duty) h))
    → IsArenaOf (aims_of s p goal keep duty) m → m.size ≤ size_of goal * assumed_count keep * duty_count duty
count_bound s p goal keep duty m fg hg fk hk fd hd decided arena =
    let a = aims_of s p goal keep duty in
    let at : Word → ℕ = λ h. location_after (moves_of s goal) goal.first h in
    arena_bound a m arena decided (size_of goal * assumed_count keep * duty_count duty)
    (λ h. (at h * assumed_count keep + assumed_code s keep h) * duty_count duty + duty_code s duty h)
    (λ h o live.
    code_small (at h * assumed_count keep + assumed_code s keep h) (duty_code s duty h) (size_of goal * assumed_count keep) (duty_count duty)
    (code_small (at h) (assumed_code s keep h) (size_of goal) (assumed_count keep) (location_after-within (width p) (moves_of s goal) (closed_of (width p) s goal fg hg) goal.first h hg o) (assumed_small (width p) s keep h fk hk o))
    (duty_small (width p) s duty h fd hd o))
    (λ u v ou ov lu lv e.
    let one = code_once (at u * assumed_count keep + assumed_code s keep u) (duty_code s duty u) (at v * assumed_count keep + assumed_code s keep v) (duty_code s duty v) (duty_count duty)
    (duty_small (width p) s duty u fd hd ou) (duty_small (width p) s duty v fd hd ov) e in
    let two = code_once (at u) (assumed_code s keep u) (at v) (assumed_code s keep v) (assumed_count keep) (assumed_small (width p) s keep u fk hk ou) (assumed_small (width p) s keep v fk hk ov) one.0 in
    record {
      goal = λ w o. accepted_alike (moves_of s goal) u v two.0 w;
      assumed = λ w o. assumed_tells s keep u v two.1 (legal_whole a u (live_legal a u lu)) (legal_whole a v (live_legal a v lv)) w;
      duty = λ w o. duty_tells (width p) s duty u v fd hd ou ov one.1 w;
    })

-- legal histories are decided where an automaton tells them
pub legal_decided : (a : Aims) (l : Moves) → TellsLegal a l → (h : Word) → IsOver (width a.parts) h → IsLegalHistory a h ⊎ (¬ IsLegalHistory a h)
legal_decided a l tells h o = elim (tells h o) [ inl (e, x) ↦ inl x | inr (e, x) ↦ inr x ]
