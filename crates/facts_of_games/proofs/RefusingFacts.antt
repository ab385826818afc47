-- A specification with the agent first whose goal and whose assumption exclude each other: the round that meets the goal is
-- illegal. Its arena and its printed strategy, worked out by hand.
use Rattle.std.proofs.Common.{◌≡◌, ◌<◌, ℕ, zero, suc, [], ◌∷◌, refl, sym, ◌∙◌, ap, subst, arith, inl, inr, Bool, true, false, Option, Some, None, nat_lt, if◌then◌else◌}
use Rattle.std.specs.Prelude.{codes}
use Rattle.std.specs.Fmt.{digits}
use Rattle.std.proofs.lemmas.Bool.{true≢false, false≢true, cases_Bool, lt-ltb}
use Rattle.forms.specs.Word.{Word}
use Rattle.automata.proofs.Words.{over-nil}
use Rattle.game.specs.Board.{Agent, Board, IsLeastNumber, IsRound, IsLetter, IsOutput}
use Rattle.game.specs.Histories.{Aims, IsViolated, IsLegalRound, Running, HasKind, one_more}
use Rattle.game.specs.Arena.{Locations, locations, AreNumbered, IsArenaOf}
use Rattle.game.specs.Marks.{Lost, IsOutOfReach, IsDecisionOutOfReach, Evades}
use Rattle.game.specs.Playable.{IsPlayable}
use Rattle.game.proofs.Rounds.{letter_of, choice_of}
use Rattle.game.proofs.HistoryLemmas.{running-more, violated-nil, legal-nil, empty_prefix}
use Rattle.printed_strategy.specs.Strategy.{Strategy, Choice}
use Rattle.printed_strategy.specs.Printed.{IsRightAt, IsPrintedFor}
use Rattle.printed_strategy.specs.Planned.{target_on, IsPlanOn}
use Rattle.printed_strategy.specs.Headline.{KeepsPromises}
use Rattle.printed_strategy.specs.CubeLines.{lines_of}
use Rattle.printed_strategy.specs.StrategyText.{strategy_text}
use Rattle.printed_strategy.proofs.ArenaPlans.{printed_from_arena}
use Rattle.printed_strategy.proofs.HeadlineLemmas.{keeps_promises}
use Rattle.facts_of_games.proofs.ArenaByHand.{arena_by_hand, nil-least}
use Rattle.facts_of_games.proofs.Stuck.{out_there, decision_out}
use Rattle.facts_of_games.proofs.SharedFacts.{grants}
use Rattle.facts_of_games.proofs.HeldFacts.{input_now, has-input, kept, input-whole, legal, illegal}

-- of the letters 0 to 3, outputs first, `grants` are those with the input: some round is without it
abbrev has_gap : Word → Bool
has_gap [] = false
has_gap (a ∷ w) = if grants a then has_gap w else true

-- the input is assumed in each round, and the goal is a round without it
abbrev refusing : Aims
refusing = record { parts = record { first = Agent; inputs = 1; outputs = 1 }; goal = has_gap; assumed = Some input_now; duty = None }

gap-push : (h : Word) (a : ℕ) → grants a ≡ true → has_gap (one_more h a) ≡ has_gap h
gap-push [] a g = ap (λ z. if z then false else true) g
gap-push (b ∷ h) a g = ap (λ z. if grants b then z else true) (gap-push h a g)

-- the arena: the goal isn't met
abbrev next_on : ℕ → ℕ → ℕ
next_on at zero = 1
next_on at (suc zero) = 0
next_on at (suc (suc zero)) = 1
next_on at (suc (suc (suc a))) = 0

abbrev rooms : Locations
rooms = record { size = 1; next = next_on; is_goal = λ at. false; is_broken = λ at. false }

gone : (at a : ℕ) → next_on at a < 1 → grants a ≡ true
gone at zero l = absurd (omega (arith, l))
gone at (suc zero) l = refl
gone at (suc (suc zero)) l = absurd (omega (arith, l))
gone at (suc (suc (suc a))) l = refl

goes-on : (at a : ℕ) → grants a ≡ true → next_on at a < 1
goes-on at zero g = absurd (false≢true g)
goes-on at (suc zero) g = omega arith
goes-on at (suc (suc zero)) g = absurd (false≢true g)
goes-on at (suc (suc (suc a))) g = omega arith

-- what the location says of its histories
abbrev Says : ℕ → Word → Type 0
Says at h = HasKind refusing h Running × (¬ IsViolated refusing.assumed h) × (has_gap h ≡ false)

begin : Says 0 []
begin = (
  ((legal-nil refusing, λ u v e d. false≢true (subst (λ z. has_gap z ≡ true) (empty_prefix u v e).0 d.1)), λ v. v),
  violated-nil refusing.assumed,
  refl,
)

step : (at a : ℕ) (h : Word) → at < 1 → false ≡ false → a < 4 → Says at h → next_on at a < 1 → Says (next_on at a) (one_more h a)
step at a h l e k x n =
    let g = gone at a n in
    let f : has_gap (one_more h a) ≡ false = gap-push h a g ∙ x.2 in
    ((running-more refusing h a x.0.0 k (legal h a x.1 g) (λ d. true≢false (sym d.1 ∙ f)), λ v. v), input-whole h a x.1 g, f)

stops : (at a : ℕ) (h : Word) → at < 1 → false ≡ false → a < 4 → Says at h → nat_lt (next_on at a) 1 ≡ false → ¬ IsLegalRound refusing h a
stops at a h l e k x f =
    elim (cases_Bool (grants a)) [
      | inl g ↦ absurd (true≢false (sym (lt-ltb (next_on at a) 1 (goes-on at a g)) ∙ f))
      | inr g ↦ illegal h a g
    ]

one_room : (i j : ℕ) → i < 1 → j < 1 → i ≡ j
one_room i j h k = omega (arith, h, k)

numbered : AreNumbered 2 rooms
numbered = record {
  some = omega arith;
  word = λ at. [];
  least = λ at l. record { leads = record { over = over-nil 2; leads = ap Some (one_room 0 at (omega arith) l) }; least = λ v x. nil-least v };
  order = λ i j h k. absurd (omega (arith, h, k));
}

-- the arena of the specification
rooms_are_its_arena : IsArenaOf refusing rooms
rooms_are_its_arena =
    arena_by_hand refusing rooms Says (omega arith) begin (λ at h l x. x.0) step stops (λ at e. refl) (λ i j h k d. absurd (d (one_room i j h k))) numbered

abbrev chosen : ℕ → ℕ → Option Choice
chosen at x = Some (record { mark = Lost; output = 0 })

abbrev target : ℕ → ℕ → Option ℕ
target at zero = None
target at (suc zero) = Some 0
target at (suc (suc zero)) = None
target at (suc (suc (suc a))) = Some 0

abbrev refused : Strategy
refused = record {
  parts = record { first = Agent; inputs = 1; outputs = 1 };
  has_duty = false;
  verdict = None;
  size = 1;
  mark = λ at. Lost;
  target = target;
  choice = chosen;
  answers = λ at. Some (λ y. 1);
}

-- its text
refused_text : strategy_text (codes "g" ∷ codes "r" ∷ []) refused
    ≡ codes "strategy 1\nverdict unrealisable\nfirst agent\ninputs r\noutputs g\nlocations 1\nlocation 0 lost\nround -0 illegal\nround -1 0\nmove . lost 0\nanswer - 1\nend\n"
unfolding strategy_text lines_of digits
refused_text = refl

abbrev board : Board refusing.parts
board = locations refusing.parts false rooms

-- the round with an output and the input, which is legal
served : (at y : ℕ) → y < 2 → (a : ℕ) × IsLetter refusing.parts 1 y a × IsRound refusing.parts 0 y a × (next_on at a < 1)
served at y o =
    let c = letter_of refusing.parts 1 y (omega arith) o in
    (c.0, c.1, record { letter = c.1.letter; decision = refl; output = c.1.output }, goes-on at c.0 (has-input y c.0 c.1))

goes : (at x y : ℕ) → x ≡ 0 → IsOutput refusing.parts y → (a : ℕ) × IsRound refusing.parts x y a × board.IsLegal at a
goes at x y e o = let a = served at y o in (a.0, subst (λ z. IsRound refusing.parts z y a.0) (sym e) a.2, a.3)

abbrev Anywhere : ℕ → Type 0
Anywhere at = Unit {0}

playable : IsPlayable board Anywhere
playable = record {
  kept = λ at i u a l k. tt;
  belongs = λ at i u a l k. choice_of refusing.parts a l;
  decides = λ at i u. (0, refl);
  goes_on = λ at i u x y d o. goes at x y d o;
}

out : (at : ℕ) → IsOutOfReach board at
out at = out_there board Anywhere playable (λ h i m. false≢true m) at tt

out_from : (at x : ℕ) → x ≡ 0 → IsDecisionOutOfReach board at x
out_from at x e = decision_out board Anywhere playable (λ h i m. false≢true m) at x (λ y o. goes at x y e o) (λ y a r k. tt)

-- the least legal input answers
no-answer : (at y k : ℕ) → k < 1 → ¬ Evades board at k y
no-answer at y zero h (zero, q, l, w) = omega (arith, l)
no-answer at y zero h (suc zero, q, l, w) = let e = q.input in omega (arith, e)
no-answer at y zero h (suc (suc zero), q, l, w) = omega (arith, l)
no-answer at y zero h (suc (suc (suc zero)), q, l, w) = let e = q.input in omega (arith, e)
no-answer at y zero h (suc (suc (suc (suc a))), q, l, w) = let e = q.letter in omega (arith, e)
no-answer at y (suc k) h w = omega (arith, h)

answered : (at y : ℕ) → y < 2 → IsLeastNumber (λ z. Evades board at z y) 1
answered at y o = record { holds = (let a = served at y o in (a.0, a.1, a.3, (out (next_on at a.0)).0)); least = no-answer at y }

right : (at : ℕ) → at < 1 → IsRightAt board refused at at
right at l = record {
  mark = (refl, out at);
  choice = λ c x e. (e, (refl, out_from at x e), refl);
  answers = λ c y o. answered at y o;
}

targets : (at a : ℕ) → target at a ≡ target_on rooms at a
targets at zero = refl
targets at (suc zero) = refl
targets at (suc (suc zero)) = refl
targets at (suc (suc (suc a))) = refl

-- it is right on the arena
refused_is_planned : IsPlanOn refusing.parts false rooms refused
refused_is_planned = record {
  parts = refl;
  duty = refl;
  verdict = (out 0).0;
  size = refl;
  target = λ at a l unmet k. targets at a;
  right = right;
}

-- so it is the printed strategy
refused_is_printed : IsPrintedFor refusing refused
refused_is_printed = printed_from_arena refusing rooms rooms_are_its_arena refused refused_is_planned (λ n. kept n [] (violated-nil refusing.assumed))

-- and keeps its promises
refused_keeps : KeepsPromises refusing refused
refused_keeps = keeps_promises refusing refused refused_is_printed (λ n. kept n [] (violated-nil refusing.assumed))
