-- The game can be played on legal histories: there is a decision at each, and a legal round with each output.
use Rattle.std.proofs.Common.{◌≡◌, ◌≢◌, ◌<◌, ◌^◌, ◌+◌, ℕ, [], ◌∷◌, Option, None, refl, sym, ◌∙◌, ap, subst}
use Rattle.forms.specs.Word.{Word, Claim, IsOver}
use Rattle.automata.specs.Moves.{Moves, location_after, IsClosed}
use Rattle.automata.proofs.Words.{over-push, location_after-append, location_after-within}
use Rattle.game.specs.Board.{Mover, Agent, Environment, width, decision_of, IsRound}
use Rattle.game.specs.Histories.{Aims, IsKeepable, IsLegalRound, IsInputLegal, IsDecisionAt, IsLegalHistory, histories, one_more}
use Rattle.game.specs.Playable.{IsPlayable}
use Rattle.legality.specs.Violation.{TellsViolated, AreViolationRanks}
use Rattle.game.proofs.Rounds.{letter_of, input_small}
use Rattle.game.proofs.HistoryLemmas.{Ends, nothing, letter, ends, legal-more, legal-less}
use Rattle.legality.proofs.WatchLemmas.{IsRanked, is_ranked}
use Rattle.legality.proofs.GoesOn.{agent_goes_on, environment_goes_on}

-- what a specification asks for, by its parts
abbrev aims : Mover → ℕ → ℕ → Claim → Option Claim → Option Claim → Aims
aims d i o g k u = record { parts = record { first = d; inputs = i; outputs = o }; goal = g; assumed = k; duty = u }

-- after a legal round what is assumed can be kept
round_keeps : (d : Mover) (i o : ℕ) (g : Claim) (k u : Option Claim) (h : Word) (a : ℕ) → a < 2 ^ (i + o) → IsLegalRound (aims d i o g k u) h a → IsKeepable (aims d i o g k u) (one_more h a)
round_keeps Agent i o g k u h a l legal = legal
round_keeps Environment i o g k u h a l legal = legal a l refl

-- so it can after each legal history
keepable_by : (s : Aims) (h : Word) → Ends h → IsKeepable s [] → IsLegalHistory s h → IsKeepable s h
keepable_by s _ nothing keep legal = keep
keepable_by s _ (letter u a) keep legal =
    let r = legal-less s u a legal in
    round_keeps s.parts.first s.parts.inputs s.parts.outputs s.goal s.assumed s.duty u a r.1 r.2

-- legal rounds belong to decisions
belongs_by : (d : Mover) (i o : ℕ) (g : Claim) (k u : Option Claim) (h : Word) (a : ℕ) → a < 2 ^ (i + o) → IsLegalRound (aims d i o g k u) h a
    → IsDecisionAt (aims d i o g k u) h (decision_of (record { first = d; inputs = i; outputs = o }) a)
belongs_by Agent i o g k u h a l legal = refl
belongs_by Environment i o g k u h a l legal = (input_small (record { first = Environment; inputs = i; outputs = o }) a l, legal)

-- a decision, and a legal round with each output
decides_by : (d : Mover) (i o : ℕ) (g : Claim) (k u : Option Claim) (m : Moves) (rank : ℕ → Option ℕ) → IsClosed (i + o) m → AreViolationRanks (record { first = d; inputs = i; outputs = o }) m rank
    → (h : Word) → IsOver (i + o) h → ((a : ℕ) → a < 2 ^ (i + o) → IsRanked (aims d i o g k u) m rank (one_more h a)) → rank (location_after m m.first h) ≡ None
    → (x : ℕ) × IsDecisionAt (aims d i o g k u) h x
decides_by Agent i o g k u m rank closed ranks h over ranked none = (0, refl)
decides_by Environment i o g k u m rank closed ranks h over ranked none =
    let r = environment_goes_on i o m rank closed ranks (location_after m m.first h) (location_after-within (i + o) m closed m.first h closed.first over) none in
    (r.0, (r.1, λ a l e. (ranked a l).keepable (ap rank (location_after-append m m.first h (a ∷ [])) ∙ r.2 a l e)))

goes_on_by : (d : Mover) (i o : ℕ) (g : Claim) (k u : Option Claim) (m : Moves) (rank : ℕ → Option ℕ) → IsClosed (i + o) m → AreViolationRanks (record { first = d; inputs = i; outputs = o }) m rank
    → (h : Word) → IsOver (i + o) h → ((a : ℕ) → a < 2 ^ (i + o) → IsRanked (aims d i o g k u) m rank (one_more h a)) → rank (location_after m m.first h) ≡ None
    → (x y : ℕ) → IsDecisionAt (aims d i o g k u) h x → y < 2 ^ o
    → (a : ℕ) × IsRound (record { first = d; inputs = i; outputs = o }) x y a × IsLegalRound (aims d i o g k u) h a
goes_on_by Agent i o g k u m rank closed ranks h over ranked none x y d small =
    let r = agent_goes_on i o m rank closed ranks (location_after m m.first h) (location_after-within (i + o) m closed m.first h closed.first over) none y small in
    (r.0, record { letter = r.1.letter; decision = sym d; output = r.1.output }, (ranked r.0 r.1.letter).keepable (ap rank (location_after-append m m.first h (r.0 ∷ [])) ∙ r.2))
goes_on_by Environment i o g k u m rank closed ranks h over ranked none x y (small, legal) j =
    let c = letter_of (record { first = Environment; inputs = i; outputs = o }) x y small j in
    (c.0, record { letter = c.1.letter; decision = c.1.input; output = c.1.output }, subst (λ z. IsInputLegal (aims Environment i o g k u) h z) (sym c.1.input) legal)

-- the game can be played on legal histories, where what is assumed can be kept at the start
pub histories_playable : (s : Aims) (m : Moves) (v : ℕ) (rank : ℕ → Option ℕ) → v ≢ 0 → TellsViolated (width s.parts) m v s.assumed → IsClosed (width s.parts) m
    → AreViolationRanks s.parts m rank → IsKeepable s [] → IsPlayable (histories s) (λ h. IsOver (width s.parts) h × IsLegalHistory s h)
histories_playable s m v rank some tells closed ranks keep =
    let p = width s.parts in
    let ranked : (h : Word) → IsOver p h → IsRanked s m rank h = is_ranked s m v rank some tells closed ranks in
    let none : (h : Word) → IsOver p h → IsLegalHistory s h → rank (location_after m m.first h) ≡ None = λ h o l. (ranked h o).ranked (keepable_by s h (ends h) keep l) in
    record {
      kept = λ h i unmet a k l. (over-push p h a i.0 k, legal-more s h a i.1 k l);
      belongs = λ h i unmet a k l. belongs_by s.parts.first s.parts.inputs s.parts.outputs s.goal s.assumed s.duty h a k l;
      decides = λ h i unmet. decides_by s.parts.first s.parts.inputs s.parts.outputs s.goal s.assumed s.duty m rank closed ranks h i.0
          (λ a k. ranked (one_more h a) (over-push p h a i.0 k)) (none h i.0 i.1);
      goes_on = λ h i unmet x y d o. goes_on_by s.parts.first s.parts.inputs s.parts.outputs s.goal s.assumed s.duty m rank closed ranks h i.0
          (λ a k. ranked (one_more h a) (over-push p h a i.0 k)) (none h i.0 i.1) x y d o;
    }
