-- A duty that is always true is still a duty: where the goal is missed the mark is `held`. The environment moves first, and its
-- first input decides the goal.
use Rattle.std.proofs.Common.{◌≡◌, ◌<◌, ℕ, zero, suc, [], ◌∷◌, ◌++◌, refl, sym, ◌∙◌, ap, subst, arith, inl, inr, Bool, true, false, Option, Some, None, nat_lt}
use Rattle.std.specs.Prelude.{codes}
use Rattle.std.specs.Fmt.{digits}
use Rattle.std.proofs.lemmas.Bool.{true≢false, false≢true, lt-ltb}
use Rattle.std.proofs.lemmas.Option.{same_Some}
use Rattle.forms.specs.Word.{Word, IsOver}
use Rattle.forms.specs.Shortlex.{comes_before}
use Rattle.forms.proofs.ShortlexLemmas.{before-shorter, before-lesser, lesser-less}
use Rattle.automata.proofs.Words.{over-nil, over-cons}
use Rattle.game.specs.Board.{Environment, Board, IsLeastNumber, IsRound, IsOutput}
use Rattle.game.specs.Histories.{Aims, IsViolated, ViolatesWithin, IsLegalRound, Running, Met, HasKind, one_more}
use Rattle.game.specs.Winning.{WinsWithin, DecisionWinsWithin, MoveWinsWithin, ReachesWithin, FailsDutyWithin, KeepsDuty}
use Rattle.game.specs.Marks.{Mark, Goal, Win, Pending, Held, IsOutOfReach, IsDecisionOutOfReach, Evades}
use Rattle.game.specs.Arena.{Locations, locations, location_from, LeadsTo, IsArenaOf}
use Rattle.game.specs.Playable.{IsPlayable}
use Rattle.game.proofs.Rounds.{letter_of, choice_of}
use Rattle.game.proofs.HistoryLemmas.{running-more, met-more, legal-nil, empty_prefix}
use Rattle.printed_strategy.specs.Strategy.{Strategy, Choice}
use Rattle.printed_strategy.specs.Printed.{IsRightAt, IsChoiceFor, IsPrintedFor}
use Rattle.printed_strategy.specs.Planned.{target_on}
use Rattle.printed_strategy.specs.Headline.{KeepsPromises}
use Rattle.printed_strategy.specs.CubeLines.{lines_of}
use Rattle.printed_strategy.specs.StrategyText.{strategy_text}
use Rattle.printed_strategy.proofs.ArenaPlans.{printed_from_arena}
use Rattle.printed_strategy.proofs.HeadlineLemmas.{keeps_promises}
use Rattle.facts_of_games.proofs.ArenaByHand.{kind_at, kind_after, arena_by_hand, nil-least, letter-least}
use Rattle.facts_of_games.proofs.Stuck.{out_there, decision_out}
use Rattle.facts_of_games.proofs.SharedFacts.{asks}
use Rattle.facts_of_games.proofs.SharedPlanFacts.{letters, round}
use Rattle.facts_of_games.proofs.OpenFacts.{first_or}

-- the goal is that the first round asks, and the duty says nothing
abbrev idle : Aims
idle = record { parts = record { first = Environment; inputs = 1; outputs = 1 }; goal = λ w. asks (first_or 0 w); assumed = None; duty = Some (λ w. true) }

keepable : (n : ℕ) (h : Word) → ¬ ViolatesWithin idle n h
keepable zero h w = w
keepable (suc n) h (inl w) = w
keepable (suc n) h (inr f) =
    let w = f 0 (omega arith) in
    let a = letter_of idle.parts 0 w.0 (omega arith) w.1 in
    keepable n (h ++ a.0 ∷ []) (w.2 a.0 (record { letter = a.1.letter; decision = a.1.input; output = a.1.output }) tt)

legal : (h : Word) (a : ℕ) → IsLegalRound idle h a
legal h a b l e n = keepable n (h ++ b ∷ [])

whole : (h : Word) → ¬ IsViolated idle.duty h
whole h (u, v, e, some, f) = true≢false f

-- the arena: nothing was played; the goal is missed; the goal is met
abbrev next_on : ℕ → ℕ → ℕ
next_on zero zero = 1
next_on zero (suc zero) = 1
next_on zero (suc (suc a)) = 2
next_on (suc at) a = 1

abbrev is_goal_on : ℕ → Bool
is_goal_on zero = false
is_goal_on (suc zero) = false
is_goal_on (suc (suc at)) = true

abbrev rooms : Locations
rooms = record { size = 3; next = next_on; is_goal = is_goal_on; is_broken = λ at. false }

next-small : (at a : ℕ) → next_on at a < 3
next-small zero zero = omega arith
next-small zero (suc zero) = omega arith
next-small zero (suc (suc a)) = omega arith
next-small (suc at) a = omega arith

abbrev Says : ℕ → Word → Type 0
Says zero h = h ≡ []
Says (suc zero) h = ((b : ℕ) × (w : Word) × (h ≡ b ∷ w) × (asks b ≡ false)) × HasKind idle h Running
Says (suc (suc at)) h = HasKind idle h Met

begin : HasKind idle [] Running
begin = ((legal-nil idle, λ u v e d. false≢true (subst (λ z. asks (first_or 0 z) ≡ true) (empty_prefix u v e).0 d.1)), whole [])

missing : (h : Word) (a : ℕ) → a < 4 → HasKind idle h Running → asks (first_or 0 (one_more h a)) ≡ false → HasKind idle (one_more h a) Running
missing h a k (run, w) f = (running-more idle h a run k (legal h a) (λ d. true≢false (sym d.1 ∙ f)), whole (one_more h a))

missed : (h : Word) (a : ℕ) → a < 4 → Says 1 h → Says 1 (one_more h a)
missed h a k ((b, w, e, f), x) =
    let q : one_more h a ≡ b ∷ one_more w a = ap (λ z. one_more z a) e in
    ((b, one_more w a, q, f), missing h a k x (ap (λ z. asks (first_or 0 z)) q ∙ f))

first-step : (a : ℕ) → a < 4 → Says (next_on 0 a) (a ∷ [])
first-step zero k = ((0, [], refl, refl), missing [] 0 k begin refl)
first-step (suc zero) k = ((1, [], refl, refl), missing [] 1 k begin refl)
first-step (suc (suc a)) k = met-more idle [] (suc (suc a)) begin.0 k (legal [] (suc (suc a))) (whole (suc (suc a) ∷ []), refl)

step : (at a : ℕ) (h : Word) → at < 3 → is_goal_on at ≡ false → a < 4 → Says at h → next_on at a < 3 → Says (next_on at a) (one_more h a)
step zero a h l g k x n = subst (λ z. Says (next_on 0 a) (one_more z a)) (sym x) (first-step a k)
step (suc zero) a h l g k x n = missed h a k x
step (suc (suc at)) a h l g k x n = absurd (true≢false g)

kind : (at : ℕ) (h : Word) → at < 3 → Says at h → HasKind idle h (kind_at rooms at)
kind zero h l x = subst (λ z. HasKind idle z Running) (sym x) begin
kind (suc zero) h l x = x.1
kind (suc (suc at)) h l x = x

stops : (at a : ℕ) (h : Word) → at < 3 → is_goal_on at ≡ false → a < 4 → Says at h → nat_lt (next_on at a) 3 ≡ false → ¬ IsLegalRound idle h a
stops at a h l g k x f = absurd (true≢false (sym (lt-ltb (next_on at a) 3 (next-small at a)) ∙ f))

asking : IsOver 2 (2 ∷ [])
asking = over-cons 2 2 [] (omega arith) (over-nil 2)

differ : (i j : ℕ) → i < 3 → j < 3 → ¬ (i ≡ j) → (w : Word) × IsOver 2 w × ¬ (kind_after rooms i w ≡ kind_after rooms j w)
differ zero zero h k d = absurd (d refl)
differ zero (suc zero) h k d = (2 ∷ [], asking, λ e. cc)
differ zero (suc (suc j)) h k d = ([], over-nil 2, λ e. cc)
differ (suc zero) zero h k d = (2 ∷ [], asking, λ e. cc)
differ (suc zero) (suc zero) h k d = absurd (d refl)
differ (suc zero) (suc (suc j)) h k d = ([], over-nil 2, λ e. cc)
differ (suc (suc i)) zero h k d = ([], over-nil 2, λ e. cc)
differ (suc (suc i)) (suc zero) h k d = ([], over-nil 2, λ e. cc)
differ (suc (suc i)) (suc (suc j)) h k d = absurd (d (omega (arith, h, k)))

abbrev word_of : ℕ → Word
word_of zero = []
word_of (suc zero) = 0 ∷ []
word_of (suc (suc at)) = 2 ∷ []

leads : (at : ℕ) → at < 3 → LeadsTo 2 rooms (word_of at) at
leads zero l = record { over = over-nil 2; leads = refl }
leads (suc zero) l = record { over = over-cons 2 0 [] (omega arith) (over-nil 2); leads = refl }
leads (suc (suc zero)) l = record { over = asking; leads = refl }
leads (suc (suc (suc at))) l = absurd (omega (arith, l))

no-room : (c : ℕ) → c < 2 → ¬ (location_from rooms 0 (c ∷ []) ≡ Some 2)
no-room zero h e = let q : 1 ≡ 2 = same_Some 1 2 e in omega (arith, q)
no-room (suc zero) h e = let q : 1 ≡ 2 = same_Some 1 2 e in omega (arith, q)
no-room (suc (suc c)) h e = omega (arith, h)

least : (at : ℕ) → at < 3 → (v : Word) → LeadsTo 2 rooms v at → comes_before v (word_of at) ≡ false
least zero l v x = nil-least v
least (suc zero) l v x = letter-least rooms 1 0 (λ e. cc) (λ c h e. omega (arith, h)) v x.leads
least (suc (suc zero)) l v x = letter-least rooms 2 2 (λ e. cc) no-room v x.leads
least (suc (suc (suc at))) l v x = absurd (omega (arith, l))

order : (i j : ℕ) → i < j → j < 3 → comes_before (word_of i) (word_of j) ≡ true
order zero zero h k = absurd (omega (arith, h))
order zero (suc zero) h k = before-shorter [] (0 ∷ []) (omega arith)
order zero (suc (suc j)) h k = before-shorter [] (2 ∷ []) (omega arith)
order (suc zero) zero h k = absurd (omega (arith, h))
order (suc zero) (suc zero) h k = absurd (omega (arith, h))
order (suc zero) (suc (suc j)) h k = before-lesser (0 ∷ []) (2 ∷ []) refl (lesser-less 0 2 [] [] (omega arith))
order (suc (suc i)) j h k = absurd (omega (arith, h, k))

rooms_are_its_arena : IsArenaOf idle rooms
rooms_are_its_arena = arena_by_hand idle rooms Says (omega arith) refl kind step stops (λ at e. refl) differ
    (record { some = omega arith; word = word_of; least = λ at l. record { leads = leads at l; least = least at l }; order = order })

abbrev mark_on : ℕ → Mark
mark_on zero = Pending 1
mark_on (suc zero) = Held
mark_on (suc (suc at)) = Goal

abbrev choice_on : ℕ → ℕ → Option Choice
choice_on zero zero = Some (record { mark = Held; output = 0 })
choice_on zero (suc x) = Some (record { mark = Win 1; output = 0 })
choice_on (suc at) x = Some (record { mark = Held; output = 0 })

abbrev idling : Strategy
idling = record {
  parts = record { first = Environment; inputs = 1; outputs = 1 };
  has_duty = true;
  verdict = None;
  size = 3;
  mark = mark_on;
  target = λ at a. Some (next_on at a);
  choice = choice_on;
  answers = λ at. Some (λ y. 0);
}

-- its text
idling_text : strategy_text (codes "r" ∷ codes "g" ∷ []) idling
    ≡ codes "strategy 2\nverdict unrealisable\nfirst environment\ninputs r\noutputs g\nlocations 3\nlocation 0 open 1\nround 0- 1\nround 1- 2\nmove 0 held 0\nmove 1 win 1 0\nanswer . 0\nlocation 1 held\nround -- 1\nmove - held 0\nanswer . 0\nlocation 2 goal\nend\n"
unfolding strategy_text lines_of digits
idling_text = refl

abbrev board : Board idle.parts
board = locations idle.parts true rooms

decides : (at x : ℕ) → x < 2 → board.IsDecision at x
decides at x l = (l, λ a k e. next-small at a)

goes : (at x y : ℕ) → x < 2 → IsOutput idle.parts y → (a : ℕ) × IsRound idle.parts x y a × board.IsLegal at a
goes at x y l o = let a = round x y l o in (a.0, a.2, next-small at a.0)

-- where the goal is missed, for good
abbrev IsMissed : ℕ → Type 0
IsMissed at = at ≡ 1

missed-on : (at a : ℕ) → IsMissed at → IsMissed (next_on at a)
missed-on zero a e = absurd (omega (arith, e))
missed-on (suc at) a e = refl

missed-unmet : (at : ℕ) → IsMissed at → ¬ board.IsMet at
missed-unmet zero e m = false≢true m
missed-unmet (suc zero) e m = false≢true m
missed-unmet (suc (suc at)) e m = omega (arith, e)

missed-playable : IsPlayable board IsMissed
missed-playable = record {
  kept = λ at i u a l k. missed-on at a i;
  belongs = λ at i u a l k. decides at _ (choice_of idle.parts a l);
  decides = λ at i u. (0, decides at 0 (omega arith));
  goes_on = λ at i u x y d o. goes at x y d.0 o;
}

out : IsOutOfReach board 1
out = out_there board IsMissed missed-playable missed-unmet 1 refl

out_from : (at x : ℕ) → x < 2 → ((y a : ℕ) → IsRound idle.parts x y a → IsMissed (next_on at a)) → IsDecisionOutOfReach board at x
out_from at x l into = decision_out board IsMissed missed-playable missed-unmet at x (λ y o. goes at x y l o) (λ y a r k. into y a r)

silent : (y a : ℕ) → IsRound idle.parts 0 y a → IsMissed (next_on 0 a)
silent y a r = letters 0 y (λ z. IsMissed (next_on 0 z)) a r (λ e f. refl) (λ e f. refl) (λ e f. absurd cc) (λ e f. absurd cc)

start-wins : (n : ℕ) → ¬ WinsWithin board n 0
start-wins zero w = false≢true w
start-wins (suc n) (inl w) = false≢true w
start-wins (suc n) (inr f) = let w = f 0 (decides 0 0 (omega arith)) in (out_from 0 0 (omega arith) silent).0 (suc n) w

asking-wins : MoveWinsWithin board 1 0 1 0
asking-wins a r l = letters 1 0 (λ z. is_goal_on (next_on 0 z) ≡ true) a r (λ e f. absurd cc) (λ e f. absurd cc) (λ e f. refl) (λ e f. absurd cc)

asking-won : IsLeastNumber (λ k. DecisionWinsWithin board k 0 1) 1
asking-won = record { holds = (0, omega arith, asking-wins); least = less }
  where
    less : (k : ℕ) → k < 1 → ¬ DecisionWinsWithin board k 0 1
    less zero h w = w.2
    less (suc k) h w = omega (arith, h)

start-hope : IsLeastNumber (λ k. ReachesWithin board k 0) 1
start-hope = record { holds = inr (1, decides 0 1 (omega arith), inl (0, omega arith, asking-wins)); least = less }
  where
    less : (k : ℕ) → k < 1 → ¬ ReachesWithin board k 0
    less zero h w = false≢true w
    less (suc k) h w = omega (arith, h)

-- nothing breaks the duty
never-fails : (n at : ℕ) → ¬ FailsDutyWithin board n at
never-fails zero at w = false≢true w
never-fails (suc n) at (inl w) = false≢true w
never-fails (suc n) at (inr (x, d, f)) = let w = f 0 (omega arith) in never-fails n (next_on at w.0) w.3

keeps : (at x y : ℕ) → KeepsDuty board at x y
keeps at x y a r l k f = never-fails k (next_on at a) f

no-less : (P : ℕ → Type 0) (k : ℕ) → k < 0 → ¬ P k
no-less P k h p = omega (arith, h)

held : (at x : ℕ) → x < 2 → ((y a : ℕ) → IsRound idle.parts x y a → IsMissed (next_on at a)) → IsChoiceFor board at x (Some (record { mark = Held; output = 0 }))
held at x h into = (
  decides at x h,
  (refl, out_from at x h into, (0, omega arith, keeps at x 0)),
  record { output = omega arith; least = record { holds = keeps at x 0; least = no-less (λ z. KeepsDuty board at x z) } },
)

start-choice : (x : ℕ) → x < 2 → IsChoiceFor board 0 x (choice_on 0 x)
start-choice zero h = held 0 0 h silent
start-choice (suc zero) h = (
  decides 0 1 h,
  asking-won,
  record { output = omega arith; least = record { holds = asking-wins; least = no-less (λ z. MoveWinsWithin board 1 0 1 z) } },
)
start-choice (suc (suc x)) h = absurd (omega (arith, h))

evades : (at y : ℕ) → y < 2 → ((a : ℕ) → IsRound idle.parts 0 y a → IsMissed (next_on at a)) → Evades board at 0 y
evades at y o into =
    let a = round 0 y (omega arith) o in
    (a.0, a.1, next-small at a.0, λ k w. out.0 k (subst (λ z. WinsWithin board k z) (into a.0 a.2) w))

right : (at : ℕ) → at < 3 → IsRightAt board idling at at
right zero l = record {
  mark = (start-wins, start-hope);
  choice = λ c x k. start-choice x k;
  answers = λ c y e. record { holds = λ z o. evades 0 z o (silent z); least = λ k h. absurd (omega (arith, h)) };
}
right (suc zero) l = record {
  mark = (refl, out, λ k. never-fails k 1);
  choice = λ c x k. held 1 x k (λ y a r. refl);
  answers = λ c y e. record { holds = λ z o. evades 1 z o (λ a r. refl); least = λ k h. absurd (omega (arith, h)) };
}
right (suc (suc at)) l = record { mark = refl; choice = λ c. absurd (c refl); answers = λ c. tt }

target : (at a : ℕ) → Some (next_on at a) ≡ target_on rooms at a
target zero zero = refl
target zero (suc zero) = refl
target zero (suc (suc a)) = refl
target (suc at) a = refl

-- it is right on the arena, so it is the printed strategy
idling_is_printed : IsPrintedFor idle idling
idling_is_printed = printed_from_arena idle rooms rooms_are_its_arena idling
    (record { parts = refl; duty = refl; verdict = start-wins; size = refl; target = λ at a l unmet k. target at a; right = right }) (λ n. keepable n [])

-- and keeps its promises
idling_keeps : KeepsPromises idle idling
idling_keeps = keeps_promises idle idling idling_is_printed (λ n. keepable n [])
