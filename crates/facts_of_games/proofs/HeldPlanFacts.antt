-- The printed strategy of the specification of `HeldFacts`, worked out on its arena by hand.
use Rattle.std.proofs.Common.{◌≡◌, ◌<◌, ℕ, zero, suc, [], ◌∷◌, refl, sym, subst, arith, inl, inr, true, Option, Some, None}
use Rattle.std.specs.Prelude.{codes}
use Rattle.std.specs.Fmt.{digits}
use Rattle.std.proofs.lemmas.Bool.{false≢true}
use Rattle.game.specs.Board.{Agent, Board, IsLeastNumber, IsRound, IsLetter}
use Rattle.game.specs.Winning.{WinsWithin, DecisionWinsWithin, ReachesWithin, DecisionReachesWithin, FailsDutyWithin, DecisionFailsDutyWithin, KeepsDuty}
use Rattle.game.specs.Marks.{Mark, Held, LostIn, Evades, CanKeepDuty}
use Rattle.game.specs.Arena.{locations}
use Rattle.game.proofs.Rounds.{letter_of}
use Rattle.game.proofs.HistoryLemmas.{violated-nil}
use Rattle.printed_strategy.specs.Strategy.{Strategy, Choice}
use Rattle.printed_strategy.specs.Printed.{IsRightAt, IsPrintedFor}
use Rattle.printed_strategy.specs.Planned.{target_on, IsPlanOn}
use Rattle.printed_strategy.specs.Headline.{KeepsPromises}
use Rattle.printed_strategy.specs.CubeLines.{lines_of}
use Rattle.printed_strategy.specs.StrategyText.{strategy_text}
use Rattle.printed_strategy.proofs.ArenaPlans.{printed_from_arena}
use Rattle.printed_strategy.proofs.HeadlineLemmas.{keeps_promises}
use Rattle.facts_of_games.proofs.HeldFacts.{serving, rooms, next_on, is_broken_on, goes, has-input, kept, rooms_are_its_arena}

abbrev mark_on : ℕ → Mark
mark_on zero = Held
mark_on (suc at) = LostIn 0

abbrev choice_on : ℕ → ℕ → Option Choice
choice_on zero x = Some (record { mark = Held; output = 1 })
choice_on (suc at) x = Some (record { mark = LostIn 1; output = 0 })

abbrev target : ℕ → ℕ → Option ℕ
target at zero = None
target zero (suc zero) = Some 1
target (suc at) (suc zero) = Some 1
target at (suc (suc zero)) = None
target zero (suc (suc (suc a))) = Some 0
target (suc at) (suc (suc (suc a))) = Some 1

abbrev holding : Strategy
holding = record {
  parts = record { first = Agent; inputs = 1; outputs = 1 };
  has_duty = true;
  verdict = None;
  size = 2;
  mark = mark_on;
  target = target;
  choice = choice_on;
  answers = λ at. Some (λ y. 1);
}

-- its text
holding_text : strategy_text (codes "g" ∷ codes "r" ∷ []) holding
    ≡ codes "strategy 2\nverdict unrealisable\nfirst agent\ninputs r\noutputs g\nlocations 2\nlocation 0 held\nround 00 illegal\nround 01 1\nround 10 illegal\nround 11 0\nmove . held 1\nanswer - 1\nlocation 1 lost 0\nround -0 illegal\nround -1 1\nmove . lost 1 0\nanswer - 1\nend\n"
unfolding strategy_text lines_of digits
holding_text = refl

abbrev board : Board serving.parts
board = locations serving.parts true rooms

-- the round with an output and the input, which is legal
served : (at y : ℕ) → y < 2 → (a : ℕ) × IsLetter serving.parts 1 y a × IsRound serving.parts 0 y a × (next_on at a < 2)
served at y o =
    let c = letter_of serving.parts 1 y (omega arith) o in
    (c.0, c.1, record { letter = c.1.letter; decision = refl; output = c.1.output }, goes at c.0 (has-input y c.0 c.1))

-- nothing is won or hoped for
never-wins : (n at : ℕ) → ¬ WinsWithin board n at
never-wins zero at w = false≢true w
never-wins (suc n) at (inl w) = false≢true w
never-wins (suc n) at (inr f) =
    let w = f 0 refl in
    let a = served at w.0 w.1 in
    never-wins n (next_on at a.0) (w.2 a.0 a.2 a.3)

never-won : (n at x : ℕ) → x ≡ 0 → ¬ DecisionWinsWithin board n at x
never-won zero at x e w = w.2
never-won (suc n) at x e w =
    let a = served at w.0 w.1 in
    never-wins n (next_on at a.0) (w.2 a.0 (subst (λ z. IsRound serving.parts z w.0 a.0) (sym e) a.2) a.3)

never-reaches : (n at : ℕ) → ¬ ReachesWithin board n at
never-reaches zero at w = false≢true w
never-reaches (suc n) at (inl w) = false≢true w
never-reaches (suc n) at (inr (x, d, inl w)) = never-won (suc n) at x d w
never-reaches (suc n) at (inr (x, d, inr (c, y, o, (a, r, l, w)))) = never-reaches n (next_on at a) w

never-far : (n at x : ℕ) → x ≡ 0 → ¬ DecisionReachesWithin board n at x
never-far zero at x e w = w
never-far (suc n) at x e (inl w) = never-won (suc n) at x e w
never-far (suc n) at x e (inr (c, y, o, (a, r, l, w))) = never-reaches n (next_on at a) w

-- a legal round with the output keeps the duty
stays : (x a : ℕ) → IsRound serving.parts x 1 a → next_on 0 a < 2 → next_on 0 a ≡ 0
stays x zero r l = absurd (omega (arith, l))
stays x (suc zero) r l = let e = r.output in absurd (omega (arith, e))
stays x (suc (suc zero)) r l = absurd (omega (arith, l))
stays x (suc (suc (suc a))) r l = refl

never-fails : (n : ℕ) → ¬ FailsDutyWithin board n 0
never-fails zero w = false≢true w
never-fails (suc n) (inl w) = false≢true w
never-fails (suc n) (inr (x, d, f)) =
    let w = f 1 (omega arith) in
    never-fails n (subst (λ z. FailsDutyWithin board n z) (stays x w.0 w.1 w.2) w.3)

keeps : (x : ℕ) → KeepsDuty board 0 x 1
keeps x a r l k f = never-fails k (subst (λ z. FailsDutyWithin board k z) (stays x a r l) f)

breaks : (x : ℕ) → x ≡ 0 → (k : ℕ) → k < 1 → ¬ KeepsDuty board 0 x k
breaks x e zero h w = w 1 (record { letter = omega arith; decision = sym e; output = refl }) (omega arith) 0 refl
breaks x e (suc k) h w = omega (arith, h)

lost-keeps : (at x : ℕ) → x ≡ 0 → ¬ CanKeepDuty board (suc at) x
lost-keeps at x e (y, o, w) =
    let a = served (suc at) y o in
    w a.0 (subst (λ z. IsRound serving.parts z y a.0) (sym e) a.2) a.3 0 (stays-broken a.0 a.3)
  where
    stays-broken : (a : ℕ) → next_on (suc at) a < 2 → is_broken_on (next_on (suc at) a) ≡ true
    stays-broken zero l = refl
    stays-broken (suc zero) l = refl
    stays-broken (suc (suc zero)) l = refl
    stays-broken (suc (suc (suc a))) l = refl

lost-fails : (at x : ℕ) → x ≡ 0 → IsLeastNumber (λ k. DecisionFailsDutyWithin board k (suc at) x) 1
lost-fails at x e = record {
  holds = λ y o. (let a = served (suc at) y o in (a.0, subst (λ z. IsRound serving.parts z y a.0) (sym e) a.2, a.3, stays-broken a.0));
  least = less;
}
  where
    stays-broken : (a : ℕ) → is_broken_on (next_on (suc at) a) ≡ true
    stays-broken zero = refl
    stays-broken (suc zero) = refl
    stays-broken (suc (suc zero)) = refl
    stays-broken (suc (suc (suc a))) = refl

    less : (k : ℕ) → k < 1 → ¬ DecisionFailsDutyWithin board k (suc at) x
    less zero l w = w
    less (suc k) l w = omega (arith, l)

-- the input alone evades
no-answer : (at y k : ℕ) → k < 1 → ¬ Evades board at k y
no-answer at y zero h (zero, q, l, w) = omega (arith, l)
no-answer at y zero h (suc zero, q, l, w) = let e = q.input in omega (arith, e)
no-answer at y zero h (suc (suc zero), q, l, w) = omega (arith, l)
no-answer at y zero h (suc (suc (suc zero)), q, l, w) = let e = q.input in omega (arith, e)
no-answer at y zero h (suc (suc (suc (suc a))), q, l, w) = let e = q.letter in omega (arith, e)
no-answer at y (suc k) h w = omega (arith, h)

answered : (at y : ℕ) → y < 2 → IsLeastNumber (λ z. Evades board at z y) 1
answered at y o = record {
  holds = (let a = served at y o in (a.0, a.1, a.3, λ k. never-wins k (next_on at a.0)));
  least = no-answer at y;
}

right : (at : ℕ) → at < 2 → IsRightAt board holding at at
right zero l = record {
  mark = (refl, (λ k. never-wins k 0, λ k. never-reaches k 0), never-fails);
  choice = λ c x e. (
    e,
    (refl, (λ k. never-won k 0 x e, λ k. never-far k 0 x e), (1, omega arith, keeps x)),
    record { output = omega arith; least = record { holds = keeps x; least = breaks x e } },
  );
  answers = λ c y o. answered 0 y o;
}
right (suc at) l = record {
  mark = (refl, (λ k. never-wins k (suc at), λ k. never-reaches k (suc at)), record { holds = refl; least = λ k h. absurd (omega (arith, h)) });
  choice = λ c x e. (
    e,
    (refl, (λ k. never-won k (suc at) x e, λ k. never-far k (suc at) x e), lost-keeps at x e, lost-fails at x e),
    refl,
  );
  answers = λ c y o. answered (suc at) y o;
}

targets : (at a : ℕ) → target at a ≡ target_on rooms at a
targets at zero = refl
targets zero (suc zero) = refl
targets (suc at) (suc zero) = refl
targets at (suc (suc zero)) = refl
targets zero (suc (suc (suc a))) = refl
targets (suc at) (suc (suc (suc a))) = refl

-- it is right on the arena
holding_is_planned : IsPlanOn serving.parts true rooms holding
holding_is_planned = record {
  parts = refl;
  duty = refl;
  verdict = λ k. never-wins k 0;
  size = refl;
  target = λ at a l unmet k. targets at a;
  right = right;
}

-- so it is the printed strategy
holding_is_printed : IsPrintedFor serving holding
holding_is_printed = printed_from_arena serving rooms rooms_are_its_arena holding holding_is_planned (λ n. kept n [] (violated-nil serving.assumed))

-- and keeps its promises
holding_keeps : KeepsPromises serving holding
holding_keeps = keeps_promises serving holding holding_is_printed (λ n. kept n [] (violated-nil serving.assumed))
