-- The locations of an arena simulate histories.
use Rattle.std.proofs.Common.{◌≡◌, ◌<◌, ◌^◌, ◌+◌, ◌↔◌, ℕ, [], ◌∷◌, inl, inr, refl, sym, ◌∙◌, ap, subst, Bool, true, false, Option, Some, None, nat_lt, if◌then◌else◌}
use Rattle.std.proofs.lemmas.Bool.{cases_Bool, lt-ltb, ltb-true}
use Rattle.std.proofs.lemmas.Nat.{pow_pos}
use Rattle.automata.proofs.Words.{over-push}
use Rattle.std.proofs.lemmas.Option.{same_Some}
use Rattle.forms.specs.Word.{Word, Claim}
use Rattle.game.specs.Board.{Mover, Agent, Environment, width}
use Rattle.game.specs.Histories.{Aims, IsDone, IsLegalRound, IsInputLegal, IsDecisionAt, histories, is_given, one_more}
use Rattle.game.specs.Arena.{Locations, locations, location_from, LeadsTo, IsArenaOf, IsDecisionThere}
use Rattle.game.specs.Simulates.{Simulates}
use Rattle.game.proofs.Rounds.{letter_of}
use Rattle.game.proofs.HistoryLemmas.{done_or_not, live_unmet, live-more, live-less}

-- one step of a walk: none past a goal or an illegal round
abbrev step : Bool → Bool → Option ℕ → Option ℕ
step goal legal o = if goal then None else (if legal then o else None)

step_some : (g l : Bool) (o : Option ℕ) (q : ℕ) → step g l o ≡ Some q → (g ≡ false) × (l ≡ true) × (o ≡ Some q)
step_some true l o q e = cc
step_some false true o q e = (refl, refl, e)
step_some false false o q e = cc

step_goes : (g l : Bool) (o : Option ℕ) → g ≡ false → l ≡ true → step g l o ≡ o
step_goes g l o e f = rw (e, f) refl

-- the location after one more letter
from-more : (m : Locations) (at q : ℕ) (h : Word) (a : ℕ) → location_from m at h ≡ Some q → m.is_goal q ≡ false → m.next q a < m.size
    → location_from m at (one_more h a) ≡ Some (m.next q a)
from-more m at q [] a e g l =
    let f : at ≡ q = cc in
    step_goes (m.is_goal at) (nat_lt (m.next at a) m.size) (Some (m.next at a)) (ap m.is_goal f ∙ g)
    (ap (λ x. nat_lt (m.next x a) m.size) f ∙ lt-ltb (m.next q a) m.size l) ∙ ap (λ x. Some (m.next x a)) f
from-more m at q (b ∷ h) a e g l =
    let r = step_some (m.is_goal at) (nat_lt (m.next at b) m.size) (location_from m (m.next at b) h) q e in
    step_goes (m.is_goal at) (nat_lt (m.next at b) m.size) (location_from m (m.next at b) (one_more h a)) r.0 r.1
    ∙ from-more m (m.next at b) q h a r.2 g l

-- before the last letter there is a location that isn't a goal, and the letter leads on from it
pub record IsBefore (m : Locations) (at r : ℕ) (h : Word) (a : ℕ) : Type 0 where
  pub location : ℕ
  pub leads : location_from m at h ≡ Some location
  pub goal : m.is_goal location ≡ false
  pub within : m.next location a < m.size
  pub next : r ≡ m.next location a

pub from-less : (m : Locations) (at r : ℕ) (h : Word) (a : ℕ) → location_from m at (one_more h a) ≡ Some r → IsBefore m at r h a
from-less m at r [] a e =
    let p = step_some (m.is_goal at) (nat_lt (m.next at a) m.size) (Some (m.next at a)) r e in
    record { location = at; leads = refl; goal = p.0; within = ltb-true (m.next at a) m.size p.1; next = let f = p.2 in cc }
from-less m at r (b ∷ h) a e =
    let p = step_some (m.is_goal at) (nat_lt (m.next at b) m.size) (location_from m (m.next at b) (one_more h a)) r e in
    let q = from-less m (m.next at b) r h a p.2 in
    record {
      location = q.location;
      leads = step_goes (m.is_goal at) (nat_lt (m.next at b) m.size) (location_from m (m.next at b) h) p.0 p.1 ∙ q.leads;
      goal = q.goal;
      within = q.within;
      next = q.next;
    }

-- a word leads to one location at most
pub leads_once : (p : ℕ) (m : Locations) (h : Word) (i j : ℕ) → LeadsTo p m h i → LeadsTo p m h j → i ≡ j
leads_once p m h i j x y = let e : Some i ≡ Some j = sym x.leads ∙ y.leads in cc

pub leads-more : (p : ℕ) (m : Locations) (h : Word) (at a : ℕ) → LeadsTo p m h at → m.is_goal at ≡ false → a < 2 ^ p → m.next at a < m.size
    → LeadsTo p m (one_more h a) (m.next at a)
leads-more p m h at a x g k l = record { over = over-push p h a x.over k; leads = from-more m 0 at h a x.leads g l }

pub leads-less : (p : ℕ) (m : Locations) (h : Word) (at r a : ℕ) → LeadsTo p m h at → LeadsTo p m (one_more h a) r → (m.next at a < m.size) × (r ≡ m.next at a)
leads-less p m h at r a x y =
    let b = from-less m 0 r h a y.leads in
    let e : b.location ≡ at = let f : Some b.location ≡ Some at = sym b.leads ∙ x.leads in cc in
    (subst (λ q. m.next q a < m.size) e b.within, b.next ∙ ap (λ q. m.next q a) e)

-- a walk stays among the locations
pub walk-within : (m : Locations) (at q : ℕ) (w : Word) → at < m.size → location_from m at w ≡ Some q → q < m.size
walk-within m at q [] l e = subst (λ z. z < m.size) (same_Some at q e) l
walk-within m at q (a ∷ w) l e =
    let p = step_some (m.is_goal at) (nat_lt (m.next at a) m.size) (location_from m (m.next at a) w) q e in
    walk-within m (m.next at a) q w (ltb-true (m.next at a) m.size p.1) p.2

-- at a location that isn't a goal the goal isn't met
unmet_there : (s : Aims) (m : Locations) → IsArenaOf s m → (h : Word) (at : ℕ) → LeadsTo (width s.parts) m h at → ¬ IsDone s h → m.is_goal at ≡ false
unmet_there s m arena h at x unmet =
    elim (cases_Bool (m.is_goal at)) [ inl t ↦ absurd (unmet ((arena.goal h at x).0 t)) | inr f ↦ f ]

-- a legal round leads to a location
legal_goes : (s : Aims) (m : Locations) → IsArenaOf s m → (h : Word) (at : ℕ) → LeadsTo (width s.parts) m h at → ¬ IsDone s h → (a : ℕ) → a < 2 ^ width s.parts
    → IsLegalRound s h a → (m.next at a < m.size) × LeadsTo (width s.parts) m (one_more h a) (m.next at a)
legal_goes s m arena h at x unmet a k l =
    let run = live_unmet s h ((arena.live h x.over).1 (at, x)) unmet in
    let y = (arena.live (one_more h a) (over-push (width s.parts) h a x.over k)).0 (live-more s h a run k l) in
    let r = leads-less (width s.parts) m h at y.0 a x y.1 in
    (r.0, leads-more (width s.parts) m h at a x (unmet_there s m arena h at x unmet) k r.0)

-- what leads to a location is a legal round
goes_legal : (s : Aims) (m : Locations) → IsArenaOf s m → (h : Word) (at : ℕ) → LeadsTo (width s.parts) m h at → ¬ IsDone s h → (a : ℕ) → a < 2 ^ width s.parts
    → m.next at a < m.size → IsLegalRound s h a
goes_legal s m arena h at x unmet a k l =
    let y = leads-more (width s.parts) m h at a x (unmet_there s m arena h at x unmet) k l in
    (live-less s h a ((arena.live (one_more h a) y.over).1 (m.next at a, y))).2

-- what a specification asks for, by its parts
abbrev aims : Mover → ℕ → ℕ → Claim → Option Claim → Option Claim → Aims
aims d i o g k u = record { parts = record { first = d; inputs = i; outputs = o }; goal = g; assumed = k; duty = u }

-- where legal rounds agree, so do decisions
decisions_by : (d : Mover) (i o : ℕ) (g : Claim) (k u : Option Claim) (m : Locations) (h : Word) (at x : ℕ)
    → ((a : ℕ) → a < 2 ^ (i + o) → IsLegalRound (aims d i o g k u) h a ↔ (m.next at a < m.size))
    → IsDecisionAt (aims d i o g k u) h x ↔ IsDecisionThere (record { first = d; inputs = i; outputs = o }) m at x
decisions_by Agent i o g k u m h at x legal = (λ e. e, λ e. e)
decisions_by Environment i o g k u m h at x legal = (
  λ (small, l). (small, λ a b e. (legal a b).0 (subst (λ z. IsInputLegal (aims Environment i o g k u) h z) (sym e) l)),
  λ (small, l). (
    small,
    let c = letter_of (record { first = Environment; inputs = i; outputs = o }) x 0 small (pow_pos o) in
        subst (λ z. IsInputLegal (aims Environment i o g k u) h z) c.1.input ((legal c.0 c.1.letter).1 (l c.0 c.1.letter c.1.input)),
  ),
)

-- the locations of an arena simulate the histories that lead to them
pub arena_simulates : (s : Aims) (m : Locations) → IsArenaOf s m
    → Simulates (histories s) (locations s.parts (is_given s.duty) m) (λ h at. LeadsTo (width s.parts) m h at)
arena_simulates s m arena =
    record {
      duty = refl;
      decided = λ h at x. done_or_not s h;
      met = λ h at x. let e = arena.goal h at x in (e.1, e.0);
      broken = λ h at x. let e = arena.broken h at x in (e.1, e.0);
      decision = λ h at x unmet y. decisions_by s.parts.first s.parts.inputs s.parts.outputs s.goal s.assumed s.duty m h at y
          (λ a k. (λ l. (legal_goes s m arena h at x unmet a k l).0, λ l. goes_legal s m arena h at x unmet a k l));
      legal = λ h at x unmet a k. (λ l. (legal_goes s m arena h at x unmet a k l).0, λ l. goes_legal s m arena h at x unmet a k l);
      kept = λ h at x unmet a k l. (legal_goes s m arena h at x unmet a k l).1;
    }
