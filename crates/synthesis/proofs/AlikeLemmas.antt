-- Locations that lead where others do have the same game, and are the arena of the same specifications.
use Rattle.std.proofs.Common.{◌≡◌, ◌<◌, ◌^◌, ◌↔◌, ◌⊎◌, ℕ, zero, suc, [], ◌∷◌, Bool, true, false, Option, Some, None, inl, inr, refl, sym, ◌∙◌, ap, subst, arith, List, length, nat_lt, if◌then◌else◌}
use Rattle.std.proofs.lemmas.Bool.{cases_Bool, ltb-true, true≢false}
use Rattle.forms.specs.Word.{Word}
use Rattle.diagrams.specs.declared.top.Id.{Id}
use Rattle.diagrams.specs.Eval.{Diagrams, eval, letter_truth}
use Rattle.diagrams.specs.Live.{Keeps}
use Rattle.diagrams.proofs.DependsLemmas.{over_later}
use Rattle.diagrams.proofs.Meaning.{eval-lasts, live_lasts}
use Rattle.game.specs.Board.{Mover, Agent, Environment, Partition, Board, width, decision_of}
use Rattle.game.specs.Numbers.{IsLeastOrNone}
use Rattle.game.specs.Winning.{WinsWithin, ReachesWithin}
use Rattle.game.specs.Marks.{IsAnswer}
use Rattle.game.specs.Playable.{IsPlayable}
use Rattle.game.specs.Simulates.{Simulates}
use Rattle.game.specs.Histories.{Aims}
use Rattle.game.specs.Arena.{Locations, locations, location_from, LeadsTo, IsDecisionThere, IsLeastHistory, AreNumbered, IsArenaOf}
use Rattle.game.proofs.Simulation.{turned, wins, reaches}
use Rattle.game.proofs.SimulatedMarks.{least_same, printed_answer}
use Rattle.layers.specs.Ranked.{AreRanks, AreDistances, GoesByInput, IsPlayableArena}
use Rattle.adversarial.specs.Answered.{table_at, AreAnswers, shown_count, IsAnswerDiagram, AreAnswerDiagrams}

-- so many locations, with the same marks, and letters lead where they lead
pub record AreAlike (m n : Locations) : Type 0 where
  pub size : m.size ≡ n.size
  pub goal : (at : ℕ) → m.is_goal at ≡ n.is_goal at
  pub broken : (at : ℕ) → m.is_broken at ≡ n.is_broken at
  pub next : (at a : ℕ) → at < m.size → m.next at a ≡ n.next at a

pub alike_turned : (m n : Locations) → AreAlike m n → AreAlike n m
alike_turned m n are = record {
  size = sym are.size;
  goal = λ at. sym (are.goal at);
  broken = λ at. sym (are.broken at);
  next = λ at a l. let e = are.size in sym (are.next at a (omega (arith, l, e)));
}

-- a legal round is one
legal-to : (m n : Locations) → AreAlike m n → (at a : ℕ) → at < m.size → m.next at a < m.size → n.next at a < n.size
legal-to m n are at a l h = let e = are.next at a l in let s = are.size in omega (arith, e, s, h)

legal-from : (m n : Locations) → AreAlike m n → (at a : ℕ) → at < m.size → n.next at a < n.size → m.next at a < m.size
legal-from m n are at a l h = let e = are.next at a l in let s = are.size in omega (arith, e, s, h)

-- a decision is one
decision-to : (d : Mover) (i o : ℕ) (m n : Locations) → AreAlike m n → (at x : ℕ) → at < m.size
    → IsDecisionThere (record { first = d; inputs = i; outputs = o }) m at x → IsDecisionThere (record { first = d; inputs = i; outputs = o }) n at x
decision-to Agent i o m n are at x l e = e
decision-to Environment i o m n are at x l (small, all) = (small, λ a k e. legal-to m n are at a l (all a k e))

decision-from : (d : Mover) (i o : ℕ) (m n : Locations) → AreAlike m n → (at x : ℕ) → at < m.size
    → IsDecisionThere (record { first = d; inputs = i; outputs = o }) n at x → IsDecisionThere (record { first = d; inputs = i; outputs = o }) m at x
decision-from Agent i o m n are at x l e = e
decision-from Environment i o m n are at x l (small, all) = (small, λ a k e. legal-from m n are at a l (all a k e))

goal-told : (b : Bool) → (b ≡ true) ⊎ (¬ (b ≡ true))
goal-told true = inl refl
goal-told false = inr (λ e. true≢false (sym e))

-- the same location on both
abbrev pub SameThere : Locations → ℕ → ℕ → Type 0
SameThere m at g = (at ≡ g) × (at < m.size)

-- the one board simulates the other
pub alike_simulate : (p : Partition) (duty : Bool) (m n : Locations) → AreAlike m n → Simulates (locations p duty m) (locations p duty n) (SameThere m)
alike_simulate p duty m n are = record {
  duty = refl;
  decided = λ h g r. goal-told (m.is_goal h);
  met = λ h g (e, l). (λ x. ap n.is_goal (sym e) ∙ sym (are.goal h) ∙ x, λ x. are.goal h ∙ ap n.is_goal e ∙ x);
  broken = λ h g (e, l). (λ x. ap n.is_broken (sym e) ∙ sym (are.broken h) ∙ x, λ x. are.broken h ∙ ap n.is_broken e ∙ x);
  decision = λ h g (e, l) unmet x. (
    λ d. subst (λ z. IsDecisionThere p n z x) e (decision-to p.first p.inputs p.outputs m n are h x l d),
    λ d. decision-from p.first p.inputs p.outputs m n are h x l (subst (λ z. IsDecisionThere p n z x) (sym e) d),
  );
  legal = λ h g (e, l) unmet a k. (
    λ q. subst (λ z. n.next z a < n.size) e (legal-to m n are h a l q),
    λ q. legal-from m n are h a l (subst (λ z. n.next z a < n.size) (sym e) q),
  );
  kept = λ h g (e, l) unmet a k q. (are.next h a l ∙ ap (λ z. n.next z a) e, q);
}

least_or_none : (P Q : ℕ → Type 0) (o : Option ℕ) → ((k : ℕ) → P k → Q k) → ((k : ℕ) → Q k → P k) → IsLeastOrNone P o → IsLeastOrNone Q o
least_or_none P Q None to back f = λ k q. f k (back k q)
least_or_none P Q (Some n) to back f = least_same P Q n to back f

-- the rounds with one input are legal together
even-to : (d : Mover) (i o : ℕ) (m n : Locations) → AreAlike m n → GoesByInput (record { first = d; inputs = i; outputs = o }) m
    → GoesByInput (record { first = d; inputs = i; outputs = o }) n
even-to Agent i o m n are even = tt
even-to Environment i o m n are even = λ at a c h ka kc e l.
    let s = are.size in
    let inside : at < m.size = omega (arith, h, s) in
    legal-to m n are at c inside (even at a c inside ka kc e (legal-from m n are at a inside l))

pub alike_even : (p : Partition) (m n : Locations) → AreAlike m n → GoesByInput p m → GoesByInput p n
alike_even p m n are even = even-to p.first p.inputs p.outputs m n are even

module _ (p : Partition) (duty : Bool) (m n : Locations) (are : AreAlike m n) where
  abbrev one : Board p
  one = locations p duty m

  abbrev other : Board p
  other = locations p duty n

  sim : Simulates one other (SameThere m)
  sim = alike_simulate p duty m n are

  back : Simulates other one (λ g h. SameThere m h g)
  back = turned one other (SameThere m) sim

  inside : (at : ℕ) → at < n.size → at < m.size
  inside at h = let s = are.size in omega (arith, h, s)

  -- the game can be played on both
  pub alike_playable : IsPlayableArena p duty m → IsPlayableArena p duty n
  alike_playable play =
      let here : (at : ℕ) → at < n.size → SameThere m at at = λ at h. (refl, inside at h) in
      let unmet_here : (at : ℕ) → at < n.size → ¬ other.IsMet at → ¬ one.IsMet at = λ at h unmet x. unmet ((sim.met at at (here at h)).0 x) in
      record {
        kept = λ at h unmet a k l. l;
        belongs = λ at h unmet a k l.
            let u = unmet_here at h unmet in
            (sim.decision at at (here at h) u (decision_of p a)).0 (play.belongs at (inside at h) u a k ((sim.legal at at (here at h) u a k).1 l));
        decides = λ at h unmet.
            let u = unmet_here at h unmet in
            let d = play.decides at (inside at h) u in
            (d.0, (sim.decision at at (here at h) u d.0).0 d.1);
        goes_on = λ at h unmet x y d o.
            let u = unmet_here at h unmet in
            let w = play.goes_on at (inside at h) u x y ((sim.decision at at (here at h) u x).1 d) o in
            (w.0, w.1, (sim.legal at at (here at h) u w.0 w.1.letter).0 w.2);
      }

  -- ranks are ranks
  pub alike_ranks : (rank : ℕ → Option ℕ) → AreRanks p duty m rank → AreRanks p duty n rank
  alike_ranks rank r at h =
      least_or_none (λ k. WinsWithin one k at) (λ k. WinsWithin other k at) (rank at)
      (λ k. wins one other (SameThere m) sim k at at (refl, inside at h))
      (λ k. wins other one (λ g j. SameThere m j g) back k at at (refl, inside at h)) (r at (inside at h))

  -- distances are distances
  pub alike_distances : (distance : ℕ → Option ℕ) → AreDistances p duty m distance → AreDistances p duty n distance
  alike_distances distance r at h =
      least_or_none (λ k. ReachesWithin one k at) (λ k. ReachesWithin other k at) (distance at)
      (λ k. reaches one other (SameThere m) sim k at at (refl, inside at h))
      (λ k. reaches other one (λ g j. SameThere m j g) back k at at (refl, inside at h)) (r at (inside at h))

  -- answers are answers, also in a grown store
  pub alike_answers : (s e : Diagrams) → Keeps s e → (rank : ℕ → Option ℕ) → AreRanks p duty m rank → (tables : List (Option Id))
      → AreAnswers s p duty m rank tables → AreAnswers e p duty n rank tables
  alike_answers s e k rank r tables x = record {
    size = x.size ∙ are.size;
    won = λ at j h f. x.won at j (inside at h) f;
    answers = λ at h f.
        let q = x.answers at (inside at h) f in
        let never = subst (λ o. IsLeastOrNone (λ j. WinsWithin one j at) o) f (r at (inside at h)) in (
          q.0,
          q.1,
          live_lasts s e k.extends q.0 q.2,
          λ y o.
              subst (λ z. IsAnswer other at y z) (sym (eval-lasts s e k.was k.now k.extends q.0 q.2 (letter_truth p.outputs y)))
              (printed_answer one other (SameThere m) sim at at (refl, inside at h) (never 0) y (eval s q.0 (letter_truth p.outputs y)) (q.3 y o)),
        );
  }

-- tables of answers stay such as their store grows
pub answer_diagrams_last : (s e : Diagrams) → Keeps s e → (p : Partition) (tables : List (Option Id)) → AreAnswerDiagrams s p tables → AreAnswerDiagrams e p tables
answer_diagrams_last s e k p tables x at id l f =
    let q = x at id l f in
    record {
      live = live_lasts s e k.extends id q.live;
      over = over_later s e k id (λ v. v < shown_count p) q.live q.over;
      inputs = λ a. subst (λ z. z < 2 ^ p.inputs) (sym (eval-lasts s e k.was k.now k.extends id q.live a)) (q.inputs a);
    }

-- one step of a walk
abbrev step : Bool → Bool → Option ℕ → Option ℕ
step goal legal o = if goal then None else (if legal then o else None)

-- words lead where they lead
from_same : (m n : Locations) → AreAlike m n → (w : Word) (at : ℕ) → at < m.size → location_from m at w ≡ location_from n at w
from_same m n are [] at l = refl
from_same m n are (a ∷ w) at l =
    let e = are.next at a l in
    let tested : nat_lt (m.next at a) m.size ≡ nat_lt (n.next at a) n.size = ap (λ z. nat_lt z m.size) e ∙ ap (nat_lt (n.next at a)) are.size in
    elim (cases_Bool (nat_lt (m.next at a) m.size)) [
      | inl legal ↦
          let inside = ltb-true (m.next at a) m.size legal in
          let rest : location_from m (m.next at a) w ≡ location_from n (n.next at a) w = from_same m n are w (m.next at a) inside ∙ ap (λ z. location_from n z w) e in
          ap (λ z. step z (nat_lt (m.next at a) m.size) (location_from m (m.next at a) w)) (are.goal at)
          ∙ ap (λ z. step (n.is_goal at) z (location_from m (m.next at a) w)) tested
          ∙ ap (λ z. step (n.is_goal at) (nat_lt (n.next at a) n.size) z) rest
      | inr illegal ↦
          ap (λ z. step z (nat_lt (m.next at a) m.size) (location_from m (m.next at a) w)) (are.goal at)
          ∙ ap (λ z. step (n.is_goal at) z (location_from m (m.next at a) w)) illegal
          ∙ ap (λ z. step (n.is_goal at) z (location_from n (n.next at a) w)) (sym illegal ∙ tested)
    ]

leads-to : (p : ℕ) (m n : Locations) → AreAlike m n → 0 < m.size → (h : Word) (at : ℕ) → LeadsTo p m h at → LeadsTo p n h at
leads-to p m n are some h at x = record { over = x.over; leads = sym (from_same m n are h 0 some) ∙ x.leads }

-- they are the arena of the same specifications
pub alike_arena : (s : Aims) (m n : Locations) → AreAlike m n → IsArenaOf s m → IsArenaOf s n
alike_arena s m n are arena =
    let p = width s.parts in
    let some = arena.numbered.some in
    let to : (h : Word) (at : ℕ) → LeadsTo p m h at → LeadsTo p n h at = leads-to p m n are some in
    let size = are.size in
    let from : (h : Word) (at : ℕ) → LeadsTo p n h at → LeadsTo p m h at = leads-to p n m (alike_turned m n are) (omega (arith, some, size)) in
    record {
      live = λ h over. (
        λ live. let x = (arena.live h over).0 live in (x.0, to h x.0 x.1),
        λ x. (arena.live h over).1 (x.0, from h x.0 x.1),
      );
      shared = λ u v i j x y. arena.shared u v i j (from u i x) (from v j y);
      goal = λ h at x. let e = arena.goal h at (from h at x) in (λ g. e.0 (are.goal at ∙ g), λ d. sym (are.goal at) ∙ e.1 d);
      broken = λ h at x. let e = arena.broken h at (from h at x) in (λ g. e.0 (are.broken at ∙ g), λ d. sym (are.broken at) ∙ e.1 d);
      numbered = record {
        some = omega (arith, some, size);
        word = arena.numbered.word;
        least = λ at h.
            let x = arena.numbered.least at (omega (arith, h, size)) in
            record { leads = to (arena.numbered.word at) at x.leads; least = λ v y. x.least v (from v at y) };
        order = λ i j l h. arena.numbered.order i j l (omega (arith, h, size));
      };
    }
