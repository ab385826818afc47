-- A specification with the agent first, something assumed that makes rounds illegal, and a duty that is held, worked out by
-- hand.
use Rattle.std.proofs.Common.{◌≡◌, ◌<◌, ℕ, zero, suc, [], ◌∷◌, refl, sym, ◌∙◌, ap, arith, inl, inr, Bool, true, false, Some, nat_lt}
use Rattle.std.proofs.lemmas.Bool.{true≢false, false≢true, cases_Bool, lt-ltb}
use Rattle.std.proofs.lemmas.Option.{none-some}
use Rattle.forms.specs.Word.{Word, IsOver}
use Rattle.forms.specs.Shortlex.{comes_before}
use Rattle.forms.proofs.ShortlexLemmas.{before-shorter}
use Rattle.automata.proofs.Words.{over-nil, over-cons}
use Rattle.game.specs.Board.{Agent, IsLetter}
use Rattle.game.specs.Histories.{Aims, IsDone, IsViolated, ViolatesWithin, IsLegalRound, IsRunning, HasKind, one_more}
use Rattle.game.specs.Arena.{Locations, location_from, LeadsTo, IsArenaOf}
use Rattle.game.proofs.Rounds.{letter_of}
use Rattle.game.proofs.HistoryLemmas.{running-more, violated-nil, violated-now, violated-more, violated-cases, legal-nil}
use Rattle.facts_of_games.proofs.ArenaByHand.{kind_at, kind_after, arena_by_hand, nil-least, letter-least}
use Rattle.facts_of_games.proofs.SharedFacts.{grants, asks, last_or, last-push}

-- of the letters 0 to 3, outputs first, `grants` are those with the input, `asks` those with the output
abbrev pub input_now : Word → Bool
input_now w = grants (last_or 1 w)

abbrev pub output_now : Word → Bool
output_now w = asks (last_or 3 w)

-- the goal is never met; the input is assumed in each round, and the output is the duty
abbrev pub serving : Aims
serving = record { parts = record { first = Agent; inputs = 1; outputs = 1 }; goal = λ w. false; assumed = Some input_now; duty = Some output_now }

never-done : (h : Word) → ¬ IsDone serving h
never-done h d = false≢true d.1

pub input-whole : (h : Word) (a : ℕ) → ¬ IsViolated serving.assumed h → grants a ≡ true → ¬ IsViolated serving.assumed (one_more h a)
input-whole h a whole g v =
    elim (violated-cases input_now h a v) [
      | inl x ↦ whole x
      | inr f ↦ true≢false (sym (ap grants (last-push 1 h a) ∙ g) ∙ f)
    ]

output-whole : (h : Word) (a : ℕ) → ¬ IsViolated serving.duty h → asks a ≡ true → ¬ IsViolated serving.duty (one_more h a)
output-whole h a whole g v =
    elim (violated-cases output_now h a v) [
      | inl x ↦ whole x
      | inr f ↦ true≢false (sym (ap asks (last-push 3 h a) ∙ g) ∙ f)
    ]

-- a letter with the input
pub has-input : (y a : ℕ) → IsLetter serving.parts 1 y a → grants a ≡ true
has-input y zero l = let e = l.input in absurd (omega (arith, e))
has-input y (suc zero) l = refl
has-input y (suc (suc zero)) l = let e = l.input in absurd (omega (arith, e))
has-input y (suc (suc (suc a))) l = refl

-- what is assumed can be kept while it is kept
pub kept : (n : ℕ) (h : Word) → ¬ IsViolated serving.assumed h → ¬ ViolatesWithin serving n h
kept zero h whole w = whole w
kept (suc n) h whole (inl w) = whole w
kept (suc n) h whole (inr f) =
    let w = f 0 refl in
    let a = letter_of serving.parts 1 w.0 (omega arith) w.1 in
    kept n (one_more h a.0) (input-whole h a.0 whole (has-input w.0 a.0 a.1)) (w.2 a.0 (record { letter = a.1.letter; decision = refl; output = a.1.output }) tt)

pub legal : (h : Word) (a : ℕ) → ¬ IsViolated serving.assumed h → grants a ≡ true → IsLegalRound serving h a
legal h a whole g n = kept n (one_more h a) (input-whole h a whole g)

pub illegal : (h : Word) (a : ℕ) → grants a ≡ false → ¬ IsLegalRound serving h a
illegal h a g l = l 0 (violated-now input_now h a (ap grants (last-push 1 h a) ∙ g))

-- the arena: the duty is kept, or broken
abbrev pub next_on : ℕ → ℕ → ℕ
next_on at zero = 2
next_on zero (suc zero) = 1
next_on (suc at) (suc zero) = 1
next_on at (suc (suc zero)) = 2
next_on zero (suc (suc (suc a))) = 0
next_on (suc at) (suc (suc (suc a))) = 1

abbrev pub is_broken_on : ℕ → Bool
is_broken_on zero = false
is_broken_on (suc at) = true

abbrev pub rooms : Locations
rooms = record { size = 2; next = next_on; is_goal = λ at. false; is_broken = is_broken_on }

-- a round is legal where the input is
pub goes : (at a : ℕ) → grants a ≡ true → next_on at a < 2
goes at zero g = absurd (false≢true g)
goes zero (suc zero) g = omega arith
goes (suc at) (suc zero) g = omega arith
goes at (suc (suc zero)) g = absurd (false≢true g)
goes zero (suc (suc (suc a))) g = omega arith
goes (suc at) (suc (suc (suc a))) g = omega arith

pub gone : (at a : ℕ) → next_on at a < 2 → grants a ≡ true
gone at zero l = absurd (omega (arith, l))
gone zero (suc zero) l = refl
gone (suc at) (suc zero) l = refl
gone at (suc (suc zero)) l = absurd (omega (arith, l))
gone zero (suc (suc (suc a))) l = refl
gone (suc at) (suc (suc (suc a))) l = refl

-- what a location says of a history
abbrev Says : ℕ → Word → Type 0
Says at h = HasKind serving h (kind_at rooms at) × (¬ IsViolated serving.assumed h)

run-of : (at : ℕ) (h : Word) → Says at h → IsRunning serving h
run-of zero h x = x.0.0
run-of (suc at) h x = x.0.0

more : (at : ℕ) (h : Word) (a : ℕ) → a < 4 → grants a ≡ true → Says at h → IsRunning serving (one_more h a)
more at h a k g x = running-more serving h a (run-of at h x) k (legal h a x.1 g) (never-done (one_more h a))

stepped : (at a : ℕ) (h : Word) → a < 4 → grants a ≡ true → Says at h → Says (next_on at a) (one_more h a)
stepped at zero h k g x = absurd (false≢true g)
stepped zero (suc zero) h k g x = ((more 0 h 1 k g x, violated-now output_now h 1 (ap asks (last-push 3 h 1))), input-whole h 1 x.1 g)
stepped (suc at) (suc zero) h k g x = ((more (suc at) h 1 k g x, violated-more serving.duty h 1 x.0.1), input-whole h 1 x.1 g)
stepped at (suc (suc zero)) h k g x = absurd (false≢true g)
stepped zero (suc (suc (suc a))) h k g x =
    ((more 0 h (suc (suc (suc a))) k g x, output-whole h (suc (suc (suc a))) x.0.1 refl), input-whole h (suc (suc (suc a))) x.1 g)
stepped (suc at) (suc (suc (suc a))) h k g x =
    ((more (suc at) h (suc (suc (suc a))) k g x, violated-more serving.duty h (suc (suc (suc a))) x.0.1), input-whole h (suc (suc (suc a))) x.1 g)

step : (at a : ℕ) (h : Word) → at < 2 → false ≡ false → a < 4 → Says at h → next_on at a < 2 → Says (next_on at a) (one_more h a)
step at a h l e k x n = stepped at a h k (gone at a n) x

stops : (at a : ℕ) (h : Word) → at < 2 → false ≡ false → a < 4 → Says at h → nat_lt (next_on at a) 2 ≡ false → ¬ IsLegalRound serving h a
stops at a h l e k x f =
    elim (cases_Bool (grants a)) [ inl g ↦ absurd (true≢false (sym (lt-ltb (next_on at a) 2 (goes at a g)) ∙ f)) | inr g ↦ illegal h a g ]

start : Says 0 []
start = (((legal-nil serving, λ u v e. never-done u), violated-nil serving.duty), violated-nil serving.assumed)

kind : (at : ℕ) (h : Word) → at < 2 → Says at h → HasKind serving h (kind_at rooms at)
kind at h l x = x.0

differ : (i j : ℕ) → i < 2 → j < 2 → ¬ (i ≡ j) → (w : Word) × IsOver 2 w × ¬ (kind_after rooms i w ≡ kind_after rooms j w)
differ zero zero h k d = absurd (d refl)
differ zero (suc j) h k d = ([], over-nil 2, λ e. cc)
differ (suc i) zero h k d = ([], over-nil 2, λ e. cc)
differ (suc i) (suc j) h k d = absurd (d (omega (arith, h, k)))

abbrev word_of : ℕ → Word
word_of zero = []
word_of (suc at) = 1 ∷ []

no-room : (c at : ℕ) → c < 1 → ¬ (location_from rooms 0 (c ∷ []) ≡ Some (suc at))
no-room zero at h e = none-some (suc at) e
no-room (suc c) at h e = omega (arith, h)

least : (at : ℕ) (v : Word) → LeadsTo 2 rooms v at → comes_before v (word_of at) ≡ false
least zero v x = nil-least v
least (suc at) v x = letter-least rooms (suc at) 1 (λ e. cc) (λ c h e. no-room c at h e) v x.leads

word-leads : (at : ℕ) → at < 2 → LeadsTo 2 rooms (word_of at) at
word-leads zero l = record { over = over-nil 2; leads = refl }
word-leads (suc at) l = let e : 1 ≡ suc at = omega (arith, l) in record { over = over-cons 2 1 [] (omega arith) (over-nil 2); leads = ap Some e }

word-order : (i j : ℕ) → i < j → j < 2 → comes_before (word_of i) (word_of j) ≡ true
word-order zero zero h k = absurd (omega (arith, h))
word-order zero (suc j) h k = before-shorter [] (1 ∷ []) (omega arith)
word-order (suc i) j h k = absurd (omega (arith, h, k))

-- the arena of the specification
pub rooms_are_its_arena : IsArenaOf serving rooms
rooms_are_its_arena = arena_by_hand serving rooms Says (omega arith) start kind step stops (λ at e. absurd (false≢true e)) differ
    (record { some = omega arith; word = word_of; least = λ at l. record { leads = word-leads at l; least = least at }; order = word-order })
