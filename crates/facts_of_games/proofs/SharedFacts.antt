-- A specification with the environment first and a duty, whose histories share locations, worked out by hand: its arena, and
-- by it its printed strategy.
use Rattle.std.proofs.Common.{◌≡◌, ◌<◌, ℕ, zero, suc, [], ◌∷◌, ◌++◌, refl, sym, ◌∙◌, ap, subst, arith, inl, inr, Bool, true, false, Some, None, nat_lt}
use Rattle.std.proofs.lemmas.Bool.{true≢false, false≢true, lt-ltb}
use Rattle.std.proofs.lemmas.Option.{same_Some}
use Rattle.forms.specs.Word.{Word, IsOver}
use Rattle.forms.specs.Shortlex.{comes_before}
use Rattle.forms.proofs.ShortlexLemmas.{before-shorter, before-lesser, lesser-less}
use Rattle.automata.proofs.Words.{over-nil, over-cons}
use Rattle.game.specs.Board.{Environment}
use Rattle.game.specs.Histories.{Aims, IsViolated, ViolatesWithin, IsLegalRound, Running, Broken, Met, HasKind, one_more}
use Rattle.game.specs.Arena.{Locations, location_from, LeadsTo, IsArenaOf}
use Rattle.game.proofs.Rounds.{letter_of}
use Rattle.game.proofs.HistoryLemmas.{running-more, met-more, violated-nil, violated-now, violated-more, violated-cases, legal-nil, empty_prefix}
use Rattle.facts_of_games.proofs.ArenaByHand.{kind_at, kind_after, arena_by_hand, nil-least, letter-least}

-- of the letters 0 to 3, inputs first, those with the output, and those with the input
abbrev pub grants : ℕ → Bool
grants zero = false
grants (suc zero) = true
grants (suc (suc zero)) = false
grants (suc (suc (suc a))) = true

abbrev pub asks : ℕ → Bool
asks zero = false
asks (suc zero) = false
asks (suc (suc a)) = true

-- the last letter of a word
abbrev pub last_or : ℕ → Word → ℕ
last_or d [] = d
last_or d (a ∷ w) = last_or a w

pub last-push : (d : ℕ) (h : Word) (a : ℕ) → last_or d (h ++ a ∷ []) ≡ a
last-push d [] a = refl
last-push d (b ∷ h) a = last-push b h a

-- each round grants
abbrev pub granting : Word → Bool
granting w = grants (last_or 1 w)

-- the goal is a round that asks, as the last one; the duty is to grant in each round
abbrev pub guarded : Aims
guarded = record { parts = record { first = Environment; inputs = 1; outputs = 1 }; goal = λ w. asks (last_or 0 w); assumed = None; duty = Some granting }

-- nothing is assumed
pub keepable : (n : ℕ) (h : Word) → ¬ ViolatesWithin guarded n h
keepable zero h w = w
keepable (suc n) h (inl w) = w
keepable (suc n) h (inr f) =
    let w = f 0 (omega arith) in
    let a = letter_of guarded.parts 0 w.0 (omega arith) w.1 in
    keepable n (h ++ a.0 ∷ []) (w.2 a.0 (record { letter = a.1.letter; decision = a.1.input; output = a.1.output }) tt)

legal : (h : Word) (a : ℕ) → IsLegalRound guarded h a
legal h a b l e n = keepable n (h ++ b ∷ [])

-- the arena: the duty is kept, it is broken, the goal is met
abbrev pub next_on : ℕ → ℕ → ℕ
next_on zero zero = 1
next_on zero (suc zero) = 0
next_on zero (suc (suc zero)) = 1
next_on zero (suc (suc (suc a))) = 2
next_on (suc at) a = 1

abbrev pub is_goal_on : ℕ → Bool
is_goal_on zero = false
is_goal_on (suc zero) = false
is_goal_on (suc (suc at)) = true

abbrev pub is_broken_on : ℕ → Bool
is_broken_on zero = false
is_broken_on (suc zero) = true
is_broken_on (suc (suc at)) = false

abbrev pub rooms : Locations
rooms = record { size = 3; next = next_on; is_goal = is_goal_on; is_broken = is_broken_on }

pub next-small : (at a : ℕ) → next_on at a < 3
next-small zero zero = omega arith
next-small zero (suc zero) = omega arith
next-small zero (suc (suc zero)) = omega arith
next-small zero (suc (suc (suc a))) = omega arith
next-small (suc at) a = omega arith

-- what a further round makes of a history
whole-more : (h : Word) (a : ℕ) → ¬ IsViolated guarded.duty h → grants a ≡ true → ¬ IsViolated guarded.duty (one_more h a)
whole-more h a whole g v =
    elim (violated-cases granting h a v) [
      | inl x ↦ whole x
      | inr f ↦ true≢false (sym (ap grants (last-push 1 h a) ∙ g) ∙ f)
    ]

going : (h : Word) (a : ℕ) → a < 4 → HasKind guarded h Running → grants a ≡ true → asks a ≡ false → HasKind guarded (one_more h a) Running
going h a k (run, whole) g f =
    (running-more guarded h a run k (legal h a) (λ d. true≢false (sym d.1 ∙ ap asks (last-push 0 h a) ∙ f)), whole-more h a whole g)

breaking : (h : Word) (a : ℕ) → a < 4 → HasKind guarded h Running → grants a ≡ false → HasKind guarded (one_more h a) Broken
breaking h a k (run, whole) g =
    let v = violated-now granting h a (ap grants (last-push 1 h a) ∙ g) in
    (running-more guarded h a run k (legal h a) (λ d. d.0 v), v)

meeting : (h : Word) (a : ℕ) → a < 4 → HasKind guarded h Running → grants a ≡ true → asks a ≡ true → HasKind guarded (one_more h a) Met
meeting h a k (run, whole) g t = met-more guarded h a run k (legal h a) (whole-more h a whole g, ap asks (last-push 0 h a) ∙ t)

broken-on : (h : Word) (a : ℕ) → a < 4 → HasKind guarded h Broken → HasKind guarded (one_more h a) Broken
broken-on h a k (run, broken) =
    let v = violated-more guarded.duty h a broken in
    (running-more guarded h a run k (legal h a) (λ d. d.0 v), v)

step : (at a : ℕ) (h : Word) → at < 3 → is_goal_on at ≡ false → a < 4 → HasKind guarded h (kind_at rooms at) → next_on at a < 3 → HasKind guarded (one_more h a) (kind_at rooms (next_on at a))
step zero zero h l g k x n = breaking h 0 k x refl
step zero (suc zero) h l g k x n = going h 1 k x refl refl
step zero (suc (suc zero)) h l g k x n = breaking h 2 k x refl
step zero (suc (suc (suc a))) h l g k x n = meeting h (suc (suc (suc a))) k x refl refl
step (suc zero) a h l g k x n = broken-on h a k x
step (suc (suc at)) a h l g k x n = absurd (true≢false g)

stops : (at a : ℕ) (h : Word) → at < 3 → is_goal_on at ≡ false → a < 4 → HasKind guarded h (kind_at rooms at) → nat_lt (next_on at a) 3 ≡ false → ¬ IsLegalRound guarded h a
stops at a h l g k x f = absurd (true≢false (sym (lt-ltb (next_on at a) 3 (next-small at a)) ∙ f))

start : HasKind guarded [] Running
start = ((legal-nil guarded, λ u v e d. false≢true (subst (λ z. asks (last_or 0 z) ≡ true) (empty_prefix u v e).0 d.1)), violated-nil guarded.duty)

-- the kinds differ
differ : (i j : ℕ) → i < 3 → j < 3 → ¬ (i ≡ j) → (w : Word) × IsOver 2 w × ¬ (kind_after rooms i w ≡ kind_after rooms j w)
differ zero zero h k d = absurd (d refl)
differ zero (suc zero) h k d = ([], over-nil 2, λ e. cc)
differ zero (suc (suc j)) h k d = ([], over-nil 2, λ e. cc)
differ (suc zero) zero h k d = ([], over-nil 2, λ e. cc)
differ (suc zero) (suc zero) h k d = absurd (d refl)
differ (suc zero) (suc (suc j)) h k d = ([], over-nil 2, λ e. cc)
differ (suc (suc i)) zero h k d = ([], over-nil 2, λ e. cc)
differ (suc (suc i)) (suc zero) h k d = ([], over-nil 2, λ e. cc)
differ (suc (suc i)) (suc (suc j)) h k d = absurd (d (omega (arith, h, k)))

sound : (at : ℕ) → is_goal_on at ≡ true → is_broken_on at ≡ false
sound zero e = refl
sound (suc zero) e = absurd (false≢true e)
sound (suc (suc at)) e = refl

-- the least histories
abbrev word_of : ℕ → Word
word_of zero = []
word_of (suc zero) = 0 ∷ []
word_of (suc (suc at)) = 3 ∷ []

no-room : (c : ℕ) → c < 3 → ¬ (location_from rooms 0 (c ∷ []) ≡ Some 2)
no-room zero h e = let q : 1 ≡ 2 = same_Some 1 2 e in omega (arith, q)
no-room (suc zero) h e = let q : 0 ≡ 2 = same_Some 0 2 e in omega (arith, q)
no-room (suc (suc zero)) h e = let q : 1 ≡ 2 = same_Some 1 2 e in omega (arith, q)
no-room (suc (suc (suc c))) h e = omega (arith, h)

least : (at : ℕ) → at < 3 → (v : Word) → LeadsTo 2 rooms v at → comes_before v (word_of at) ≡ false
least zero l v x = nil-least v
least (suc zero) l v x = letter-least rooms 1 0 (λ e. cc) (λ c h e. omega (arith, h)) v x.leads
least (suc (suc zero)) l v x = letter-least rooms 2 3 (λ e. cc) no-room v x.leads
least (suc (suc (suc at))) l v x = absurd (omega (arith, l))

word-leads : (at : ℕ) → at < 3 → LeadsTo 2 rooms (word_of at) at
word-leads zero l = record { over = over-nil 2; leads = refl }
word-leads (suc zero) l = record { over = over-cons 2 0 [] (omega arith) (over-nil 2); leads = refl }
word-leads (suc (suc zero)) l = record { over = over-cons 2 3 [] (omega arith) (over-nil 2); leads = refl }
word-leads (suc (suc (suc at))) l = absurd (omega (arith, l))

word-order : (i j : ℕ) → i < j → j < 3 → comes_before (word_of i) (word_of j) ≡ true
word-order zero zero h k = absurd (omega (arith, h))
word-order zero (suc zero) h k = before-shorter [] (0 ∷ []) (omega arith)
word-order zero (suc (suc j)) h k = before-shorter [] (3 ∷ []) (omega arith)
word-order (suc zero) zero h k = absurd (omega (arith, h))
word-order (suc zero) (suc zero) h k = absurd (omega (arith, h))
word-order (suc zero) (suc (suc j)) h k = before-lesser (0 ∷ []) (3 ∷ []) refl (lesser-less 0 3 [] [] (omega arith))
word-order (suc (suc i)) j h k = absurd (omega (arith, h, k))

-- the arena of the specification
pub rooms_are_its_arena : IsArenaOf guarded rooms
rooms_are_its_arena = arena_by_hand guarded rooms (λ at h. HasKind guarded h (kind_at rooms at)) (omega arith) start (λ at h l x. x) step stops sound differ
    (record { some = omega arith; word = word_of; least = λ at l. record { leads = word-leads at l; least = least at l }; order = word-order })
