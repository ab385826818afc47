-- What holds of a specification's game holds of that of another one with the same claims about words over the propositions.
use Rattle.std.proofs.Common.{◌≡◌, ◌<◌, ◌^◌, ◌+◌, ◌++◌, [], ◌∷◌, ℕ, inl, inr, refl, sym, ◌∙◌, ap, subst, Option, Some, None}
use Rattle.forms.specs.Word.{Word, Claim, IsOver}
use Rattle.automata.proofs.Words.{over-nil, over-head, over-tail, over-cons, over-append, over-push}
use Rattle.game.specs.Board.{Mover, Agent, Environment, Partition, width, IsLeastNumber}
use Rattle.game.specs.Histories.{Aims, IsViolated, IsDone, IsKeepable, ViolatesWithin, IsLegalRound, IsLegalHistory, IsRunning, IsMetFirst, IsLive, ShareLocation, Kind, Running, Broken, Met, Past, Illegal, HasKind, violation, one_more, is_given}
use Rattle.game.specs.Arena.{Locations, IsArenaOf}
use Rattle.game.specs.Simulates.{Simulates}
use Rattle.game.specs.Same.{AgreeOver, AgreeWhere, Claims, aims_with, Agree}
use Rattle.game.proofs.Simulation.{wins}
use Rattle.game.proofs.SimulatedMarks.{least_same}
use Rattle.game.proofs.HistoryLemmas.{violated_or_not}

-- a prefix of a word over p propositions
pub over-prefix : (p : ℕ) (u v : Word) → IsOver p (u ++ v) → IsOver p u
over-prefix p [] v o = over-nil p
over-prefix p (a ∷ u) v o = over-cons p a u (over-head p a (u ++ v) o) (over-prefix p u v (over-tail p a (u ++ v) o))

prefix_of : (p : ℕ) (h u v : Word) → IsOver p h → h ≡ u ++ v → IsOver p u
prefix_of p h u v o e = over-prefix p u v (subst (IsOver p) e o)

pub agree_turned : (p : ℕ) (o q : Option Claim) → AgreeWhere p o q → AgreeWhere p q o
agree_turned p None None e = tt
agree_turned p None (Some d) e = elim e [ ]
agree_turned p (Some c) None e = elim e [ ]
agree_turned p (Some c) (Some d) e = λ w k. sym (e w k)

pub violated_same : (p : ℕ) (o q : Option Claim) → AgreeWhere p o q → (h : Word) → IsOver p h → IsViolated o h → IsViolated q h
violated_same p None q e h o x = elim x [ ]
violated_same p (Some c) None e h o x = elim e [ ]
violated_same p (Some c) (Some d) e h o (u, v, f, some, no_more) = (u, v, f, some, sym (e u (prefix_of p h u v o f)) ∙ no_more)

pub same_turned : (p : Partition) (x y : Claims) → Agree (width p) x y → Agree (width p) y x
same_turned p x y r = record { goal = λ w o. sym (r.goal w o); assumed = agree_turned (width p) x.assumed y.assumed r.assumed; duty = agree_turned (width p) x.duty y.duty r.duty }

done_same : (p : Partition) (x y : Claims) → Agree (width p) x y → (h : Word) → IsOver (width p) h → IsDone (aims_with p x) h → IsDone (aims_with p y) h
done_same p x y r h o (whole, goal) = (λ v. whole (violated_same (width p) y.duty x.duty (agree_turned (width p) x.duty y.duty r.duty) h o v), sym (r.goal h o) ∙ goal)

-- the game for what is assumed is the same
same_violation : (p : Partition) (x y : Claims) → Agree (width p) x y → Simulates (violation (aims_with p x)) (violation (aims_with p y)) (λ h g. IsOver (width p) h × (h ≡ g))
same_violation p x y r =
    record {
      duty = refl;
      decided = λ h g e. violated_or_not x.assumed h;
      met = λ h g e. (
        λ v. subst (IsViolated y.assumed) e.1 (violated_same (width p) x.assumed y.assumed r.assumed h e.0 v),
        λ v. violated_same (width p) y.assumed x.assumed (agree_turned (width p) x.assumed y.assumed r.assumed) h e.0 (subst (IsViolated y.assumed) (sym e.1) v),
      );
      broken = λ h g e. (λ w. w, λ w. w);
      decision = λ h g e unmet x. (λ d. d, λ d. d);
      legal = λ h g e unmet a k. (λ l. l, λ l. l);
      kept = λ h g e unmet a k l. (over-push (width p) h a e.0 k, ap (λ z. one_more z a) e.1);
    }

pub violates_same : (p : Partition) (x y : Claims) → Agree (width p) x y → (n : ℕ) (h : Word) → IsOver (width p) h → ViolatesWithin (aims_with p x) n h → ViolatesWithin (aims_with p y) n h
violates_same p x y r n h o w = wins (violation (aims_with p x)) (violation (aims_with p y)) (λ h g. IsOver (width p) h × (h ≡ g)) (same_violation p x y r) n h h (o, refl) w

pub keepable_same : (p : Partition) (x y : Claims) → Agree (width p) x y → (h : Word) → IsOver (width p) h → IsKeepable (aims_with p x) h → IsKeepable (aims_with p y) h
keepable_same p x y r h o keep n w = keep n (violates_same p y x (same_turned p x y r) n h o w)

round_by : (d : Mover) (i o : ℕ) (x y : Claims) (h : Word) (a : ℕ) → a < 2 ^ (i + o)
    → ((b : ℕ) → b < 2 ^ (i + o) → IsKeepable (aims_with (record { first = d; inputs = i; outputs = o }) x) (one_more h b) → IsKeepable (aims_with (record { first = d; inputs = i; outputs = o }) y) (one_more h b))
    → IsLegalRound (aims_with (record { first = d; inputs = i; outputs = o }) x) h a → IsLegalRound (aims_with (record { first = d; inputs = i; outputs = o }) y) h a
round_by Agent i o x y h a l keep legal = keep a l legal
round_by Environment i o x y h a l keep legal = λ b q e. keep b q (legal b q e)

round_same : (p : Partition) (x y : Claims) → Agree (width p) x y → (h : Word) (a : ℕ) → IsOver (width p) h → a < 2 ^ width p → IsLegalRound (aims_with p x) h a → IsLegalRound (aims_with p y) h a
round_same p x y r h a o l legal = round_by p.first p.inputs p.outputs x y h a l (λ b k keep. keepable_same p x y r (one_more h b) (over-push (width p) h b o k) keep) legal

pub legal_same : (p : Partition) (x y : Claims) → Agree (width p) x y → (h : Word) → IsOver (width p) h → IsLegalHistory (aims_with p x) h → IsLegalHistory (aims_with p y) h
legal_same p x y r h o legal u v a e = let l = legal u v a e in (l.0, round_same p x y r u a (prefix_of (width p) h u (a ∷ v) o e) l.0 l.1)

running_same : (p : Partition) (x y : Claims) → Agree (width p) x y → (h : Word) → IsOver (width p) h → IsRunning (aims_with p x) h → IsRunning (aims_with p y) h
running_same p x y r h o (legal, never) =
    (legal_same p x y r h o legal, λ u v e d. never u v e (done_same p y x (same_turned p x y r) u (prefix_of (width p) h u v o e) d))

met_same : (p : Partition) (x y : Claims) → Agree (width p) x y → (h : Word) → IsOver (width p) h → IsMetFirst (aims_with p x) h → IsMetFirst (aims_with p y) h
met_same p x y r h o (legal, done, never) = (
  legal_same p x y r h o legal,
  done_same p x y r h o done,
  λ u v e some d. never u v e some (done_same p y x (same_turned p x y r) u (prefix_of (width p) h u v o e) d),
)

live_same : (p : Partition) (x y : Claims) → Agree (width p) x y → (h : Word) → IsOver (width p) h → IsLive (aims_with p x) h → IsLive (aims_with p y) h
live_same p x y r h o (inl run) = inl (running_same p x y r h o run)
live_same p x y r h o (inr met) = inr (met_same p x y r h o met)

-- a letter of a word over p propositions
letter_in : (p : ℕ) (u v : Word) (a : ℕ) → IsOver p (u ++ a ∷ v) → a < 2 ^ p
letter_in p [] v a o = over-head p a v o
letter_in p (b ∷ u) v a o = letter_in p u v a (over-tail p b (u ++ a ∷ v) o)

kind_same : (p : Partition) (x y : Claims) → Agree (width p) x y → (h : Word) (k : Kind) → IsOver (width p) h → HasKind (aims_with p x) h k → HasKind (aims_with p y) h k
kind_same p x y r h Running o (run, whole) = (running_same p x y r h o run, λ v. whole (violated_same (width p) y.duty x.duty (agree_turned (width p) x.duty y.duty r.duty) h o v))
kind_same p x y r h Broken o (run, v) = (running_same p x y r h o run, violated_same (width p) x.duty y.duty r.duty h o v)
kind_same p x y r h Met o met = met_same p x y r h o met
kind_same p x y r h Past o (u, v, e, some, met) = (u, v, e, some, met_same p x y r u (prefix_of (width p) h u v o e) met)
kind_same p x y r h Illegal o (u, v, a, e, run, bad) =
    let f = prefix_of (width p) h u (a ∷ v) o e in
    let l = letter_in (width p) u v a (subst (IsOver (width p)) e o) in
    (u, v, a, e, running_same p x y r u f run, λ legal. bad (round_same p y x (same_turned p x y r) u a f l legal))

shares_same : (p : Partition) (x y : Claims) → Agree (width p) x y → (u v : Word) → IsOver (width p) u → IsOver (width p) v → ShareLocation (aims_with p x) u v → ShareLocation (aims_with p y) u v
shares_same p x y r u v ou ov share w o =
    let k = share w o in
    (k.0, kind_same p x y r (u ++ w) k.0 (over-append (width p) u w ou o) k.1, kind_same p x y r (v ++ w) k.0 (over-append (width p) v w ov o) k.2)

pub arena_same : (p : Partition) (x y : Claims) (m : Locations) → Agree (width p) x y → IsArenaOf (aims_with p x) m → IsArenaOf (aims_with p y) m
arena_same p x y m r arena =
    let back = same_turned p x y r in
    record {
      live = λ h o. let e = arena.live h o in (λ l. e.0 (live_same p y x back h o l), λ at. live_same p x y r h o (e.1 at));
      shared = λ u v i j a b. let e = arena.shared u v i j a b in (λ q. shares_same p x y r u v a.over b.over (e.0 q), λ s. e.1 (shares_same p y x back u v a.over b.over s));
      goal = λ h at a. let e = arena.goal h at a in (λ q. done_same p x y r h a.over (e.0 q), λ d. e.1 (done_same p y x back h a.over d));
      broken = λ h at a. let e = arena.broken h at a in (
        λ q. violated_same (width p) x.duty y.duty r.duty h a.over (e.0 q),
        λ v. e.1 (violated_same (width p) y.duty x.duty (agree_turned (width p) x.duty y.duty r.duty) h a.over v),
      );
      numbered = arena.numbered;
    }

-- the arena of one specification is that of another with the same claims
pub same_arena : (s : Aims) (goal : Claim) (assumed duty : Option Claim) (m : Locations) → AgreeOver (width s.parts) s.goal goal → AgreeWhere (width s.parts) s.assumed assumed
    → AgreeWhere (width s.parts) s.duty duty → IsArenaOf s m → IsArenaOf (record { parts = s.parts; goal = goal; assumed = assumed; duty = duty }) m
same_arena s goal assumed duty m g k d arena =
    arena_same s.parts (record { goal = s.goal; assumed = s.assumed; duty = s.duty }) (record { goal = goal; assumed = assumed; duty = duty }) m (record { goal = g; assumed = k; duty = d }) arena

-- a duty in both, or in neither
pub duty_same : (p : ℕ) (o q : Option Claim) → AgreeWhere p o q → is_given o ≡ is_given q
duty_same p None None a = refl
duty_same p None (Some d) a = absurd a
duty_same p (Some c) None a = absurd a
duty_same p (Some c) (Some d) a = refl

-- and one least number of rounds within which what is assumed is violated
pub unkeepable_same : (p : Partition) (x y : Claims) → Agree (width p) x y → (n : ℕ) → IsLeastNumber (λ k. ViolatesWithin (aims_with p x) k []) n
    → IsLeastNumber (λ k. ViolatesWithin (aims_with p y) k []) n
unkeepable_same p x y r n l =
    least_same (λ k. ViolatesWithin (aims_with p x) k []) (λ k. ViolatesWithin (aims_with p y) k []) n
    (λ k w. violates_same p x y r k [] (over-nil (width p)) w) (λ k w. violates_same p y x (same_turned p x y r) k [] (over-nil (width p)) w) l
