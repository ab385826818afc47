-- The printed strategy of the specification of `OpenFacts`, worked out on its arena by hand: at the open start a decision is
-- held, and one input answers every output.
use Rattle.std.proofs.Common.{◌≡◌, ◌<◌, ◌⊎◌, ℕ, zero, suc, [], ◌∷◌, refl, subst, arith, inl, inr, true, Option, Some, None}
use Rattle.std.specs.Prelude.{codes}
use Rattle.std.specs.Fmt.{digits}
use Rattle.std.proofs.lemmas.Bool.{false≢true}
use Rattle.game.specs.Board.{Environment, Board, IsLeastNumber, IsRound, IsOutput}
use Rattle.game.specs.Winning.{WinsWithin, DecisionWinsWithin, MoveWinsWithin, ReachesWithin, FailsDutyWithin, DecisionFailsDutyWithin, KeepsDuty}
use Rattle.game.specs.Marks.{Mark, Goal, Win, Pending, Held, LostIn, IsOutOfReach, IsDecisionOutOfReach, CanKeepDuty, Evades}
use Rattle.game.specs.Playable.{IsPlayable}
use Rattle.game.specs.Arena.{locations}
use Rattle.game.proofs.Rounds.{choice_of}
use Rattle.printed_strategy.specs.Strategy.{Strategy, Choice}
use Rattle.printed_strategy.specs.Printed.{IsRightAt, IsChoiceFor, IsPrintedFor}
use Rattle.printed_strategy.specs.Planned.{target_on, IsPlanOn}
use Rattle.printed_strategy.specs.Headline.{KeepsPromises}
use Rattle.printed_strategy.specs.CubeLines.{lines_of}
use Rattle.printed_strategy.specs.StrategyText.{strategy_text}
use Rattle.printed_strategy.proofs.ArenaPlans.{printed_from_arena}
use Rattle.printed_strategy.proofs.HeadlineLemmas.{keeps_promises}
use Rattle.facts_of_games.proofs.Stuck.{out_there, decision_out}
use Rattle.facts_of_games.proofs.SharedPlanFacts.{letters, round}
use Rattle.facts_of_games.proofs.OpenFacts.{waiting, rooms, next_on, is_goal_on, next-small, keepable, rooms_are_its_arena}

abbrev mark_on : ℕ → Mark
mark_on zero = Pending 1
mark_on (suc zero) = Held
mark_on (suc (suc zero)) = LostIn 0
mark_on (suc (suc (suc at))) = Goal

abbrev choice_on : ℕ → ℕ → Option Choice
choice_on zero zero = Some (record { mark = Held; output = 0 })
choice_on zero (suc x) = Some (record { mark = Win 1; output = 0 })
choice_on (suc zero) x = Some (record { mark = Held; output = 0 })
choice_on (suc (suc at)) x = Some (record { mark = LostIn 1; output = 0 })

abbrev waiting_plan : Strategy
waiting_plan = record {
  parts = record { first = Environment; inputs = 1; outputs = 1 };
  has_duty = true;
  verdict = None;
  size = 4;
  mark = mark_on;
  target = λ at a. Some (next_on at a);
  choice = choice_on;
  answers = λ at. Some (λ y. 0);
}

-- its text
waiting_text : strategy_text (codes "r" ∷ codes "g" ∷ []) waiting_plan
    ≡ codes "strategy 2\nverdict unrealisable\nfirst environment\ninputs r\noutputs g\nlocations 4\nlocation 0 open 1\nround 00 1\nround 01 2\nround 10 3\nround 11 2\nmove 0 held 0\nmove 1 win 1 0\nanswer . 0\nlocation 1 held\nround -0 1\nround -1 2\nmove - held 0\nanswer . 0\nlocation 2 lost 0\nround -- 2\nmove - lost 1 0\nanswer . 0\nlocation 3 goal\nend\n"
unfolding strategy_text lines_of digits
waiting_text = refl

abbrev board : Board waiting.parts
board = locations waiting.parts true rooms

-- where the goal is missed or the duty broken, for good
abbrev IsMissed : ℕ → Type 0
IsMissed at = (at ≡ 1) ⊎ (at ≡ 2)

missed-on : (at a : ℕ) → IsMissed at → IsMissed (next_on at a)
missed-on zero a (inl e) = absurd cc
missed-on zero a (inr e) = absurd cc
missed-on (suc zero) zero e = inl refl
missed-on (suc zero) (suc zero) e = inr refl
missed-on (suc zero) (suc (suc zero)) e = inl refl
missed-on (suc zero) (suc (suc (suc a))) e = inr refl
missed-on (suc (suc at)) a e = inr refl

missed-unmet : (at : ℕ) → IsMissed at → ¬ board.IsMet at
missed-unmet zero e m = false≢true m
missed-unmet (suc zero) e m = false≢true m
missed-unmet (suc (suc zero)) e m = false≢true m
missed-unmet (suc (suc (suc at))) (inl e) m = omega (arith, e)
missed-unmet (suc (suc (suc at))) (inr e) m = omega (arith, e)

-- each input is a decision, and with each output it has a round
decides : (at x : ℕ) → x < 2 → board.IsDecision at x
decides at x l = (l, λ a k e. next-small at a)

goes : (at x y : ℕ) → x < 2 → IsOutput waiting.parts y → (a : ℕ) × IsRound waiting.parts x y a × board.IsLegal at a
goes at x y l o = let a = round x y l o in (a.0, a.2, next-small at a.0)

missed-playable : IsPlayable board IsMissed
missed-playable = record {
  kept = λ at i u a l k. missed-on at a i;
  belongs = λ at i u a l k. decides at _ (choice_of waiting.parts a l);
  decides = λ at i u. (0, decides at 0 (omega arith));
  goes_on = λ at i u x y d o. goes at x y d.0 o;
}

out : (at : ℕ) → IsMissed at → IsOutOfReach board at
out at i = out_there board IsMissed missed-playable missed-unmet at i

out_from : (at x : ℕ) → x < 2 → ((y a : ℕ) → IsRound waiting.parts x y a → IsMissed (next_on at a)) → IsDecisionOutOfReach board at x
out_from at x l into = decision_out board IsMissed missed-playable missed-unmet at x (λ y o. goes at x y l o) (λ y a r k. into y a r)

-- without an input the goal is missed at the start
silent : (y a : ℕ) → IsRound waiting.parts 0 y a → IsMissed (next_on 0 a)
silent y a r = letters 0 y (λ z. IsMissed (next_on 0 z)) a r (λ e f. inl refl) (λ e f. inr refl) (λ e f. absurd cc) (λ e f. absurd cc)

start-wins : (n : ℕ) → ¬ WinsWithin board n 0
start-wins zero w = false≢true w
start-wins (suc n) (inl w) = false≢true w
start-wins (suc n) (inr f) = let w = f 0 (decides 0 0 (omega arith)) in (out_from 0 0 (omega arith) silent).0 (suc n) w

-- with one it is met by not granting
asking-wins : MoveWinsWithin board 1 0 1 0
asking-wins a r l = letters 1 0 (λ z. is_goal_on (next_on 0 z) ≡ true) a r (λ e f. absurd cc) (λ e f. absurd cc) (λ e f. refl) (λ e f. absurd cc)

asking-won : IsLeastNumber (λ k. DecisionWinsWithin board k 0 1) 1
asking-won = record { holds = (0, omega arith, asking-wins); least = less }
  where
    less : (k : ℕ) → k < 1 → ¬ DecisionWinsWithin board k 0 1
    less zero h w = w.2
    less (suc k) h w = omega (arith, h)

start-hope : IsLeastNumber (λ k. ReachesWithin board k 0) 1
start-hope = record { holds = inr (1, decides 0 1 (omega arith), inl (0, omega arith, asking-wins)); least = less }
  where
    less : (k : ℕ) → k < 1 → ¬ ReachesWithin board k 0
    less zero h w = false≢true w
    less (suc k) h w = omega (arith, h)

-- where no output is given the duty is kept for good
quiet-stays : (x a : ℕ) → IsRound waiting.parts x 0 a → next_on 1 a ≡ 1
quiet-stays x zero r = refl
quiet-stays x (suc zero) r = let e = r.output in absurd (omega (arith, e))
quiet-stays x (suc (suc zero)) r = refl
quiet-stays x (suc (suc (suc zero))) r = let e = r.output in absurd (omega (arith, e))
quiet-stays x (suc (suc (suc (suc a)))) r = let l = r.letter in absurd (omega (arith, l))

never-fails : (n : ℕ) → ¬ FailsDutyWithin board n 1
never-fails zero w = false≢true w
never-fails (suc n) (inl w) = false≢true w
never-fails (suc n) (inr (x, d, f)) =
    let w = f 0 (omega arith) in
    never-fails n (subst (λ z. FailsDutyWithin board n z) (quiet-stays x w.0 w.1) w.3)

keeps-start : KeepsDuty board 0 0 0
keeps-start a r l k f = letters 0 0 (λ z. FailsDutyWithin board k (next_on 0 z) → ⊥) a r (λ e q. never-fails k) (λ e q. absurd cc) (λ e q. absurd cc) (λ e q. absurd cc) f

keeps-missed : (x : ℕ) → KeepsDuty board 1 x 0
keeps-missed x a r l k f = never-fails k (subst (λ z. FailsDutyWithin board k z) (quiet-stays x a r) f)

-- the least output is 0
no-less : (P : ℕ → Type 0) (k : ℕ) → k < 0 → ¬ P k
no-less P k h p = omega (arith, h)

start-choice : (x : ℕ) → x < 2 → IsChoiceFor board 0 x (choice_on 0 x)
start-choice zero h = (
  decides 0 0 h,
  (refl, out_from 0 0 h silent, (0, omega arith, keeps-start)),
  record { output = omega arith; least = record { holds = keeps-start; least = no-less (λ z. KeepsDuty board 0 0 z) } },
)
start-choice (suc zero) h = (
  decides 0 1 h,
  asking-won,
  record { output = omega arith; least = record { holds = asking-wins; least = no-less (λ z. MoveWinsWithin board 1 0 1 z) } },
)
start-choice (suc (suc x)) h = absurd (omega (arith, h))

-- silence evades every output
evades : (at y : ℕ) → y < 2 → ((a : ℕ) → IsRound waiting.parts 0 y a → IsMissed (next_on at a)) → Evades board at 0 y
evades at y o into = let a = round 0 y (omega arith) o in (a.0, a.1, next-small at a.0, (out (next_on at a.0) (into a.0 a.2)).0)

broken-fails : (x : ℕ) → x < 2 → IsLeastNumber (λ k. DecisionFailsDutyWithin board k 2 x) 1
broken-fails x h = record { holds = λ y o. (let a = goes 2 x y h o in (a.0, a.1, a.2, refl)); least = less }
  where
    less : (k : ℕ) → k < 1 → ¬ DecisionFailsDutyWithin board k 2 x
    less zero l w = w
    less (suc k) l w = omega (arith, l)

broken-keeps : (x : ℕ) → x < 2 → ¬ CanKeepDuty board 2 x
broken-keeps x h (y, o, keeps) = let a = goes 2 x y h o in keeps a.0 a.1 a.2 0 refl

right : (at : ℕ) → at < 4 → IsRightAt board waiting_plan at at
right zero l = record {
  mark = (start-wins, start-hope);
  choice = λ c x k. start-choice x k;
  answers = λ c y e. record { holds = λ z o. evades 0 z o (silent z); least = λ k h. absurd (omega (arith, h)) };
}
right (suc zero) l = record {
  mark = (refl, out 1 (inl refl), never-fails);
  choice = λ c x k. (
    decides 1 x k,
    (refl, out_from 1 x k (λ y a r. missed-on 1 a (inl refl)), (0, omega arith, keeps-missed x)),
    record { output = omega arith; least = record { holds = keeps-missed x; least = no-less (λ z. KeepsDuty board 1 x z) } },
  );
  answers = λ c y e. record { holds = λ z o. evades 1 z o (λ a r. missed-on 1 a (inl refl)); least = λ k h. absurd (omega (arith, h)) };
}
right (suc (suc zero)) l = record {
  mark = (refl, out 2 (inr refl), record { holds = refl; least = λ k h. absurd (omega (arith, h)) });
  choice = λ c x k. (
    decides 2 x k,
    (refl, out_from 2 x k (λ y a r. inr refl), broken-keeps x k, broken-fails x k),
    refl,
  );
  answers = λ c y e. record { holds = λ z o. evades 2 z o (λ a r. inr refl); least = λ k h. absurd (omega (arith, h)) };
}
right (suc (suc (suc at))) l = record { mark = refl; choice = λ c. absurd (c refl); answers = λ c. tt }

target : (at a : ℕ) → Some (next_on at a) ≡ target_on rooms at a
target zero zero = refl
target zero (suc zero) = refl
target zero (suc (suc zero)) = refl
target zero (suc (suc (suc a))) = refl
target (suc zero) zero = refl
target (suc zero) (suc zero) = refl
target (suc zero) (suc (suc zero)) = refl
target (suc zero) (suc (suc (suc a))) = refl
target (suc (suc at)) a = refl

-- it is right on the arena
waiting_is_planned : IsPlanOn waiting.parts true rooms waiting_plan
waiting_is_planned = record {
  parts = refl;
  duty = refl;
  verdict = start-wins;
  size = refl;
  target = λ at a l unmet k. target at a;
  right = right;
}

-- so it is the printed strategy
waiting_is_printed : IsPrintedFor waiting waiting_plan
waiting_is_printed = printed_from_arena waiting rooms rooms_are_its_arena waiting_plan waiting_is_planned (λ n. keepable n [])

-- and keeps its promises
waiting_keeps : KeepsPromises waiting waiting_plan
waiting_keeps = keeps_promises waiting waiting_plan waiting_is_printed (λ n. keepable n [])
