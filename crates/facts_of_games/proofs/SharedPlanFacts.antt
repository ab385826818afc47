-- The printed strategy of the specification of `SharedFacts`, worked out on its arena by hand: one mark of each kind that a
-- decision with a duty can have but `held`.
use Rattle.std.proofs.Common.{◌≡◌, ◌<◌, ◌/◌, ◌%◌, ℕ, zero, suc, [], ◌∷◌, refl, sym, arith, inl, inr, true, Option, Some, None}
use Rattle.std.specs.Prelude.{codes}
use Rattle.std.specs.Fmt.{digits}
use Rattle.std.proofs.lemmas.Bool.{false≢true}
use Rattle.game.specs.Board.{Environment, Board, IsLeastNumber, IsRound, IsLetter, SomeLeads}
use Rattle.game.specs.Winning.{WinsWithin, DecisionWinsWithin, MoveWinsWithin, ReachesWithin, DecisionReachesWithin, DecisionFailsDutyWithin}
use Rattle.game.specs.Marks.{Mark, Goal, Win, Pending, LostIn, CanKeepDuty, Evades}
use Rattle.game.specs.Arena.{locations}
use Rattle.game.proofs.Rounds.{letter_of}
use Rattle.printed_strategy.specs.Strategy.{Strategy, Choice}
use Rattle.printed_strategy.specs.Printed.{IsRightAt, IsChoiceFor, IsPrintedFor}
use Rattle.printed_strategy.specs.Planned.{target_on, IsPlanOn}
use Rattle.printed_strategy.specs.Headline.{KeepsPromises}
use Rattle.printed_strategy.specs.CubeLines.{lines_of}
use Rattle.printed_strategy.specs.StrategyText.{strategy_text}
use Rattle.printed_strategy.proofs.ArenaPlans.{printed_from_arena}
use Rattle.printed_strategy.proofs.HeadlineLemmas.{keeps_promises}
use Rattle.facts_of_games.proofs.SharedFacts.{guarded, rooms, next_on, is_goal_on, next-small, keepable, rooms_are_its_arena}

abbrev mark_on : ℕ → Mark
mark_on zero = Pending 1
mark_on (suc zero) = LostIn 0
mark_on (suc (suc at)) = Goal

abbrev choice_on : ℕ → ℕ → Option Choice
choice_on zero zero = Some (record { mark = Pending 2; output = 1 })
choice_on zero (suc x) = Some (record { mark = Win 1; output = 1 })
choice_on (suc at) x = Some (record { mark = LostIn 1; output = 0 })

abbrev guarding : Strategy
guarding = record {
  parts = record { first = Environment; inputs = 1; outputs = 1 };
  has_duty = true;
  verdict = None;
  size = 3;
  mark = mark_on;
  target = λ at a. Some (next_on at a);
  choice = choice_on;
  answers = λ at. Some (λ y. 0);
}

-- its text
guarding_text : strategy_text (codes "r" ∷ codes "g" ∷ []) guarding
    ≡ codes "strategy 2\nverdict unrealisable\nfirst environment\ninputs r\noutputs g\nlocations 3\nlocation 0 open 1\nround 00 1\nround 01 0\nround 10 1\nround 11 2\nmove 0 open 2 1\nmove 1 win 1 1\nanswer . 0\nlocation 1 lost 0\nround -- 1\nmove - lost 1 0\nanswer . 0\nlocation 2 goal\nend\n"
unfolding strategy_text lines_of digits
guarding_text = refl

abbrev board : Board guarded.parts
board = locations guarded.parts true rooms

-- each input and output make a round
pub round : (x y : ℕ) → x < 2 → y < 2 → (a : ℕ) × IsLetter guarded.parts x y a × IsRound guarded.parts x y a
round x y h k =
    let c = letter_of guarded.parts x y h k in
    (c.0, c.1, record { letter = c.1.letter; decision = c.1.input; output = c.1.output })

-- with the duty broken nothing is won or hoped for
lost-wins : (n : ℕ) → ¬ WinsWithin board n 1
lost-wins zero w = false≢true w
lost-wins (suc n) (inl w) = false≢true w
lost-wins (suc n) (inr f) =
    let w = f 0 (omega arith, λ a l e. next-small 1 a) in
    let a = round 0 w.0 (omega arith) w.1 in
    lost-wins n (w.2 a.0 a.2 (next-small 1 a.0))

lost-decision : (n x : ℕ) → x < 2 → ¬ DecisionWinsWithin board n 1 x
lost-decision zero x h w = w.2
lost-decision (suc n) x h w = let a = round x w.0 h w.1 in lost-wins n (w.2 a.0 a.2 (next-small 1 a.0))

lost-reaches : (n : ℕ) → ¬ ReachesWithin board n 1
lost-reaches zero w = false≢true w
lost-reaches (suc n) (inl w) = false≢true w
lost-reaches (suc n) (inr (x, d, inl w)) = lost-decision (suc n) x d.0 w
lost-reaches (suc n) (inr (x, d, inr (c, y, o, (a, r, l, w)))) = lost-reaches n w

lost-far : (n x : ℕ) → x < 2 → ¬ DecisionReachesWithin board n 1 x
lost-far zero x h w = w
lost-far (suc n) x h (inl w) = lost-decision (suc n) x h w
lost-far (suc n) x h (inr (c, y, o, (a, r, l, w))) = lost-reaches n w

-- the letters of a decision and an output
pub letters : (x y : ℕ) (P : ℕ → Type 0) → (a : ℕ) → IsRound guarded.parts x y a → (x ≡ 0 → y ≡ 0 → P 0) → (x ≡ 0 → y ≡ 1 → P 1) → (x ≡ 1 → y ≡ 0 → P 2) → (x ≡ 1 → y ≡ 1 → P 3) → P a
letters x y P zero r f g h k = f (sym r.decision) (sym r.output)
letters x y P (suc zero) r f g h k = g (sym r.decision) (sym r.output)
letters x y P (suc (suc zero)) r f g h k = h (sym r.decision) (sym r.output)
letters x y P (suc (suc (suc zero))) r f g h k = k (sym r.decision) (sym r.output)
letters x y P (suc (suc (suc (suc a)))) r f g h k = let l = r.letter in absurd (omega (arith, l))

pub round_of : (a : ℕ) → a < 4 → (x y : ℕ) → a / 2 ≡ x → a % 2 ≡ y → IsRound guarded.parts x y a
round_of a l x y e f = record { letter = l; decision = e; output = f }

-- no number wins at the start, nor from the input that doesn't ask
quiet-wins : (n : ℕ) → ((k : ℕ) → ¬ WinsWithin board k 1) → (WinsWithin board n 0 → ⊥) → ¬ DecisionWinsWithin board (suc n) 0 0
quiet-wins n never later (y, o, each) = by-output y o each
  where
    by-output : (y : ℕ) → y < 2 → ((a : ℕ) → IsRound guarded.parts 0 y a → next_on 0 a < 3 → WinsWithin board n (next_on 0 a)) → ⊥
    by-output zero o each = never n (each 0 (round_of 0 (omega arith) 0 0 refl refl) (omega arith))
    by-output (suc zero) o each = later (each 1 (round_of 1 (omega arith) 0 1 refl refl) (omega arith))
    by-output (suc (suc y)) o each = omega (arith, o)

start-wins : (n : ℕ) → ¬ WinsWithin board n 0
start-wins zero w = false≢true w
start-wins (suc n) (inl w) = false≢true w
start-wins (suc n) (inr f) = quiet-wins n lost-wins (start-wins n) (f 0 (omega arith, λ a l e. next-small 0 a))

quiet-never : (n : ℕ) → ¬ DecisionWinsWithin board n 0 0
quiet-never zero w = w.2
quiet-never (suc n) w = quiet-wins n lost-wins (start-wins n) w

-- the input that asks is won by its grant
asking-wins : MoveWinsWithin board 1 0 1 1
asking-wins a r l = letters 1 1 (λ z. is_goal_on (next_on 0 z) ≡ true) a r (λ e f. cc) (λ e f. cc) (λ e f. cc) (λ e f. refl)

asking-won : IsLeastNumber (λ k. DecisionWinsWithin board k 0 1) 1
asking-won = record { holds = (1, omega arith, asking-wins); least = less }
  where
    less : (k : ℕ) → k < 1 → ¬ DecisionWinsWithin board k 0 1
    less zero h w = w.2
    less (suc k) h w = omega (arith, h)

start-reaches : ReachesWithin board 1 0
start-reaches = inr (1, (omega arith, λ a l e. next-small 0 a), inl (1, omega arith, asking-wins))

start-hope : IsLeastNumber (λ k. ReachesWithin board k 0) 1
start-hope = record { holds = start-reaches; least = less }
  where
    less : (k : ℕ) → k < 1 → ¬ ReachesWithin board k 0
    less zero h w = false≢true w
    less (suc k) h w = omega (arith, h)

quiet-leads : SomeLeads board (ReachesWithin board 1) 0 0 1
quiet-leads = (1, round_of 1 (omega arith) 0 1 refl refl, omega arith, start-reaches)

not-met : (a y : ℕ) → IsRound guarded.parts 0 y a → is_goal_on (next_on 0 a) ≡ true → ⊥
not-met a y r e = letters 0 y (λ z. is_goal_on (next_on 0 z) ≡ true → ⊥) a r (λ p q. false≢true) (λ p q. false≢true) (λ p q. cc) (λ p q. cc) e

quiet-hope : IsLeastNumber (λ k. DecisionReachesWithin board k 0 0) 2
quiet-hope = record { holds = inr ((λ w. quiet-never w.0 w.1), 1, omega arith, quiet-leads); least = less }
  where
    less : (k : ℕ) → k < 2 → ¬ DecisionReachesWithin board k 0 0
    less zero h w = w
    less (suc zero) h (inl w) = quiet-never 1 w
    less (suc zero) h (inr (c, y, o, (a, r, l, w))) = not-met a y r w
    less (suc (suc k)) h w = omega (arith, h)

-- without its grant the duty is broken
asking-move : (k : ℕ) → k < 1 → ¬ MoveWinsWithin board 1 0 1 k
asking-move zero h w = false≢true (w 2 (round_of 2 (omega arith) 1 0 refl refl) (omega arith))
asking-move (suc k) h w = omega (arith, h)

quiet-move : (k : ℕ) → k < 1 → ¬ SomeLeads board (ReachesWithin board 1) 0 0 k
quiet-move zero h (a, r, l, w) =
    lost-reaches 1 (letters 0 0 (λ z. ReachesWithin board 1 (next_on 0 z) → ReachesWithin board 1 1) a r (λ p q x. x) (λ p q x. absurd cc) (λ p q x. absurd cc) (λ p q x. absurd cc) w)
quiet-move (suc k) h w = omega (arith, h)

start-choice : (x : ℕ) → x < 2 → IsChoiceFor board 0 x (choice_on 0 x)
start-choice zero h = (
  (omega arith, λ a l e. next-small 0 a),
  (quiet-never, quiet-hope),
  record { output = omega arith; least = record { holds = quiet-leads; least = quiet-move } },
)
start-choice (suc zero) h = (
  (omega arith, λ a l e. next-small 0 a),
  asking-won,
  record { output = omega arith; least = record { holds = asking-wins; least = asking-move } },
)
start-choice (suc (suc x)) h = absurd (omega (arith, h))

-- silence evades every output
start-evades : (y : ℕ) → y < 2 → Evades board 0 0 y
start-evades zero o = (0, record { letter = omega arith; input = refl; output = refl }, omega arith, lost-wins)
start-evades (suc zero) o = (1, record { letter = omega arith; input = refl; output = refl }, omega arith, start-wins)
start-evades (suc (suc y)) o = absurd (omega (arith, o))

lost-evades : (y : ℕ) → y < 2 → Evades board 1 0 y
lost-evades y o = let a = round 0 y (omega arith) o in (a.0, a.1, next-small 1 a.0, lost-wins)

at-start : IsRightAt board guarding 0 0
at-start = record {
  mark = (start-wins, start-hope);
  choice = λ c x l. start-choice x l;
  answers = λ c y e. record { holds = start-evades; least = λ k l. absurd (omega (arith, l)) };
}

lost-keeps : (x : ℕ) → x < 2 → ¬ CanKeepDuty board 1 x
lost-keeps x h (y, o, keeps) = let a = round x y h o in keeps a.0 a.2 (next-small 1 a.0) 0 refl

lost-fails : (x : ℕ) → x < 2 → IsLeastNumber (λ k. DecisionFailsDutyWithin board k 1 x) 1
lost-fails x h = record { holds = λ y o. (let a = round x y h o in (a.0, a.2, next-small 1 a.0, refl)); least = less }
  where
    less : (k : ℕ) → k < 1 → ¬ DecisionFailsDutyWithin board k 1 x
    less zero l w = w
    less (suc k) l w = omega (arith, l)

at-lost : IsRightAt board guarding 1 1
at-lost = record {
  mark = (refl, (lost-wins, lost-reaches), record { holds = refl; least = λ k l. absurd (omega (arith, l)) });
  choice = λ c x l. (
    (l, λ a k e. next-small 1 a),
    (refl, ((λ n. lost-decision n x l), (λ n. lost-far n x l)), lost-keeps x l, lost-fails x l),
    refl,
  );
  answers = λ c y e. record { holds = lost-evades; least = λ k l. absurd (omega (arith, l)) };
}

right : (at : ℕ) → at < 3 → IsRightAt board guarding at at
right zero l = at-start
right (suc zero) l = at-lost
right (suc (suc at)) l = record { mark = refl; choice = λ c. absurd (c refl); answers = λ c. tt }

target : (at a : ℕ) → Some (next_on at a) ≡ target_on rooms at a
target zero zero = refl
target zero (suc zero) = refl
target zero (suc (suc zero)) = refl
target zero (suc (suc (suc a))) = refl
target (suc at) a = refl

-- it is right on the arena
guarding_is_planned : IsPlanOn guarded.parts true rooms guarding
guarding_is_planned = record {
  parts = refl;
  duty = refl;
  verdict = start-wins;
  size = refl;
  target = λ at a l unmet k. target at a;
  right = right;
}

-- so it is the printed strategy
guarding_is_printed : IsPrintedFor guarded guarding
guarding_is_printed = printed_from_arena guarded rooms rooms_are_its_arena guarding guarding_is_planned (λ n. keepable n [])

-- and keeps its promises
guarding_keeps : KeepsPromises guarded guarding
guarding_keeps = keeps_promises guarded guarding guarding_is_printed (λ n. keepable n [])
