-- A specification with the environment first whose first round decides the goal, with a duty: a decision is held at a location
-- that is open, and one round breaks the duty and would meet the goal. Its arena, worked out by hand.
use Rattle.std.proofs.Common.{◌≡◌, ◌<◌, ℕ, zero, suc, [], ◌∷◌, ◌++◌, refl, sym, ◌∙◌, ap, subst, arith, inl, inr, Bool, true, false, not, Some, None, nat_lt}
use Rattle.std.proofs.lemmas.Bool.{true≢false, false≢true, lt-ltb}
use Rattle.std.proofs.lemmas.Option.{same_Some}
use Rattle.forms.specs.Word.{Word, IsOver}
use Rattle.forms.specs.Shortlex.{comes_before}
use Rattle.forms.proofs.ShortlexLemmas.{before-shorter, before-lesser, lesser-less}
use Rattle.automata.proofs.Words.{over-nil, over-cons}
use Rattle.game.specs.Board.{Environment}
use Rattle.game.specs.Histories.{Aims, IsViolated, ViolatesWithin, IsLegalRound, Running, Broken, Met, HasKind, one_more}
use Rattle.game.specs.Arena.{Locations, location_from, LeadsTo, AreNumbered, IsArenaOf}
use Rattle.game.proofs.Rounds.{letter_of}
use Rattle.game.proofs.HistoryLemmas.{running-more, met-more, violated-nil, violated-now, violated-more, violated-cases, legal-nil, empty_prefix}
use Rattle.facts_of_games.proofs.ArenaByHand.{kind_at, kind_after, arena_by_hand, nil-least, letter-least}
use Rattle.facts_of_games.proofs.SharedFacts.{grants, asks, last_or, last-push}

-- the first letter of a word
abbrev pub first_or : ℕ → Word → ℕ
first_or d [] = d
first_or d (a ∷ w) = a

-- the last round doesn't grant
abbrev pub quiet : Word → Bool
quiet w = not (grants (last_or 0 w))

-- the goal is that the first round asks; the duty is to grant in none
abbrev pub waiting : Aims
waiting = record { parts = record { first = Environment; inputs = 1; outputs = 1 }; goal = λ w. asks (first_or 0 w); assumed = None; duty = Some quiet }

-- nothing is assumed
pub keepable : (n : ℕ) (h : Word) → ¬ ViolatesWithin waiting n h
keepable zero h w = w
keepable (suc n) h (inl w) = w
keepable (suc n) h (inr f) =
    let w = f 0 (omega arith) in
    let a = letter_of waiting.parts 0 w.0 (omega arith) w.1 in
    keepable n (h ++ a.0 ∷ []) (w.2 a.0 (record { letter = a.1.letter; decision = a.1.input; output = a.1.output }) tt)

legal : (h : Word) (a : ℕ) → IsLegalRound waiting h a
legal h a b l e n = keepable n (h ++ b ∷ [])

-- the arena: nothing was played; the goal is missed and the duty kept; the duty is broken; the goal is met
abbrev pub next_on : ℕ → ℕ → ℕ
next_on zero zero = 1
next_on zero (suc zero) = 2
next_on zero (suc (suc zero)) = 3
next_on zero (suc (suc (suc a))) = 2
next_on (suc zero) zero = 1
next_on (suc zero) (suc zero) = 2
next_on (suc zero) (suc (suc zero)) = 1
next_on (suc zero) (suc (suc (suc a))) = 2
next_on (suc (suc at)) a = 2

abbrev pub is_goal_on : ℕ → Bool
is_goal_on zero = false
is_goal_on (suc zero) = false
is_goal_on (suc (suc zero)) = false
is_goal_on (suc (suc (suc at))) = true

abbrev pub is_broken_on : ℕ → Bool
is_broken_on zero = false
is_broken_on (suc zero) = false
is_broken_on (suc (suc zero)) = true
is_broken_on (suc (suc (suc at))) = false

abbrev pub rooms : Locations
rooms = record { size = 4; next = next_on; is_goal = is_goal_on; is_broken = is_broken_on }

pub next-small : (at a : ℕ) → next_on at a < 4
next-small zero zero = omega arith
next-small zero (suc zero) = omega arith
next-small zero (suc (suc zero)) = omega arith
next-small zero (suc (suc (suc a))) = omega arith
next-small (suc zero) zero = omega arith
next-small (suc zero) (suc zero) = omega arith
next-small (suc zero) (suc (suc zero)) = omega arith
next-small (suc zero) (suc (suc (suc a))) = omega arith
next-small (suc (suc at)) a = omega arith

-- what a location says of its histories
abbrev Says : ℕ → Word → Type 0
Says zero h = h ≡ []
Says (suc zero) h = ((b : ℕ) × (w : Word) × (h ≡ b ∷ w) × (asks b ≡ false)) × HasKind waiting h Running
Says (suc (suc zero)) h = HasKind waiting h Broken
Says (suc (suc (suc at))) h = HasKind waiting h Met

begin : HasKind waiting [] Running
begin = ((legal-nil waiting, λ u v e d. false≢true (subst (λ z. asks (first_or 0 z) ≡ true) (empty_prefix u v e).0 d.1)), violated-nil waiting.duty)

whole-more : (h : Word) (a : ℕ) → ¬ IsViolated waiting.duty h → grants a ≡ false → ¬ IsViolated waiting.duty (one_more h a)
whole-more h a whole g v =
    elim (violated-cases quiet h a v) [
      | inl x ↦ whole x
      | inr f ↦ true≢false (sym (ap not (ap grants (last-push 0 h a) ∙ g)) ∙ f)
    ]

-- a round that grants breaks the duty, whether the goal would be met or not
breaking : (h : Word) (a : ℕ) → a < 4 → HasKind waiting h Running → grants a ≡ true → HasKind waiting (one_more h a) Broken
breaking h a k (run, whole) g =
    let v = violated-now quiet h a (ap not (ap grants (last-push 0 h a) ∙ g)) in
    (running-more waiting h a run k (legal h a) (λ d. d.0 v), v)

-- one that doesn't keeps it
keeping : (h : Word) (a : ℕ) → a < 4 → HasKind waiting h Running → grants a ≡ false → asks (first_or 0 (one_more h a)) ≡ false → HasKind waiting (one_more h a) Running
keeping h a k (run, whole) g f = (running-more waiting h a run k (legal h a) (λ d. true≢false (sym d.1 ∙ f)), whole-more h a whole g)

missed : (h : Word) (a : ℕ) → a < 4 → Says 1 h → grants a ≡ false → Says 1 (one_more h a)
missed h a k ((b, w, e, f), x) g =
    let q : one_more h a ≡ b ∷ one_more w a = ap (λ z. one_more z a) e in
    ((b, one_more w a, q, f), keeping h a k x g (ap (λ z. asks (first_or 0 z)) q ∙ f))

broken-on : (h : Word) (a : ℕ) → a < 4 → HasKind waiting h Broken → HasKind waiting (one_more h a) Broken
broken-on h a k (run, broken) =
    let v = violated-more waiting.duty h a broken in
    (running-more waiting h a run k (legal h a) (λ d. d.0 v), v)

first-step : (a : ℕ) → a < 4 → Says (next_on 0 a) (a ∷ [])
first-step zero k = ((0, [], refl, refl), keeping [] 0 k begin refl refl)
first-step (suc zero) k = breaking [] 1 k begin refl
first-step (suc (suc zero)) k = met-more waiting [] 2 begin.0 k (legal [] 2) (whole-more [] 2 begin.1 refl, refl)
first-step (suc (suc (suc a))) k = breaking [] (suc (suc (suc a))) k begin refl

step : (at a : ℕ) (h : Word) → at < 4 → is_goal_on at ≡ false → a < 4 → Says at h → next_on at a < 4 → Says (next_on at a) (one_more h a)
step zero a h l g k x n = subst (λ z. Says (next_on 0 a) (one_more z a)) (sym x) (first-step a k)
step (suc zero) zero h l g k x n = missed h 0 k x refl
step (suc zero) (suc zero) h l g k x n = breaking h 1 k x.1 refl
step (suc zero) (suc (suc zero)) h l g k x n = missed h 2 k x refl
step (suc zero) (suc (suc (suc a))) h l g k x n = breaking h (suc (suc (suc a))) k x.1 refl
step (suc (suc zero)) a h l g k x n = broken-on h a k x
step (suc (suc (suc at))) a h l g k x n = absurd (true≢false g)

kind : (at : ℕ) (h : Word) → at < 4 → Says at h → HasKind waiting h (kind_at rooms at)
kind zero h l x = subst (λ z. HasKind waiting z Running) (sym x) begin
kind (suc zero) h l x = x.1
kind (suc (suc zero)) h l x = x
kind (suc (suc (suc at))) h l x = x

stops : (at a : ℕ) (h : Word) → at < 4 → is_goal_on at ≡ false → a < 4 → Says at h → nat_lt (next_on at a) 4 ≡ false → ¬ IsLegalRound waiting h a
stops at a h l g k x f = absurd (true≢false (sym (lt-ltb (next_on at a) 4 (next-small at a)) ∙ f))

-- two locations differ at once, or after a round that asks and doesn't grant
asking : IsOver 2 (2 ∷ [])
asking = over-cons 2 2 [] (omega arith) (over-nil 2)

differ : (i j : ℕ) → i < 4 → j < 4 → ¬ (i ≡ j) → (w : Word) × IsOver 2 w × ¬ (kind_after rooms i w ≡ kind_after rooms j w)
differ zero zero h k d = absurd (d refl)
differ zero (suc zero) h k d = (2 ∷ [], asking, λ e. cc)
differ zero (suc (suc zero)) h k d = ([], over-nil 2, λ e. cc)
differ zero (suc (suc (suc j))) h k d = ([], over-nil 2, λ e. cc)
differ (suc zero) zero h k d = (2 ∷ [], asking, λ e. cc)
differ (suc zero) (suc zero) h k d = absurd (d refl)
differ (suc zero) (suc (suc zero)) h k d = ([], over-nil 2, λ e. cc)
differ (suc zero) (suc (suc (suc j))) h k d = ([], over-nil 2, λ e. cc)
differ (suc (suc zero)) zero h k d = ([], over-nil 2, λ e. cc)
differ (suc (suc zero)) (suc zero) h k d = ([], over-nil 2, λ e. cc)
differ (suc (suc zero)) (suc (suc zero)) h k d = absurd (d refl)
differ (suc (suc zero)) (suc (suc (suc j))) h k d = ([], over-nil 2, λ e. cc)
differ (suc (suc (suc i))) zero h k d = ([], over-nil 2, λ e. cc)
differ (suc (suc (suc i))) (suc zero) h k d = ([], over-nil 2, λ e. cc)
differ (suc (suc (suc i))) (suc (suc zero)) h k d = ([], over-nil 2, λ e. cc)
differ (suc (suc (suc i))) (suc (suc (suc j))) h k d = absurd (d (omega (arith, h, k)))

sound : (at : ℕ) → is_goal_on at ≡ true → is_broken_on at ≡ false
sound zero e = refl
sound (suc zero) e = refl
sound (suc (suc zero)) e = absurd (false≢true e)
sound (suc (suc (suc at))) e = refl

-- the least histories: the empty one, and a letter each
abbrev word_of : ℕ → Word
word_of zero = []
word_of (suc at) = at ∷ []

leads : (at : ℕ) → at < 4 → LeadsTo 2 rooms (word_of at) at
leads zero l = record { over = over-nil 2; leads = refl }
leads (suc zero) l = record { over = over-cons 2 0 [] (omega arith) (over-nil 2); leads = refl }
leads (suc (suc zero)) l = record { over = over-cons 2 1 [] (omega arith) (over-nil 2); leads = refl }
leads (suc (suc (suc zero))) l = record { over = asking; leads = refl }
leads (suc (suc (suc (suc at)))) l = absurd (omega (arith, l))

no-room : (c at : ℕ) → c < at → at < 3 → ¬ (location_from rooms 0 (c ∷ []) ≡ Some (suc at))
no-room zero at h l e = let q : 1 ≡ suc at = same_Some 1 (suc at) e in omega (arith, h, q)
no-room (suc zero) at h l e = let q : 2 ≡ suc at = same_Some 2 (suc at) e in omega (arith, h, q)
no-room (suc (suc c)) at h l e = omega (arith, h, l)

least : (at : ℕ) → at < 4 → (v : Word) → LeadsTo 2 rooms v at → comes_before v (word_of at) ≡ false
least zero l v x = nil-least v
least (suc at) l v x = letter-least rooms (suc at) at (λ e. cc) (λ c h e. no-room c at h (omega (arith, l)) e) v x.leads

order : (i j : ℕ) → i < j → j < 4 → comes_before (word_of i) (word_of j) ≡ true
order zero zero h k = absurd (omega (arith, h))
order zero (suc j) h k = before-shorter [] (j ∷ []) (omega arith)
order (suc i) zero h k = absurd (omega (arith, h))
order (suc i) (suc j) h k = before-lesser (i ∷ []) (j ∷ []) refl (lesser-less i j [] [] (omega (arith, h)))

numbered : AreNumbered 2 rooms
numbered = record { some = omega arith; word = word_of; least = λ at l. record { leads = leads at l; least = least at l }; order = order }

-- the arena of the specification
pub rooms_are_its_arena : IsArenaOf waiting rooms
rooms_are_its_arena = arena_by_hand waiting rooms Says (omega arith) refl kind step stops sound differ numbered
