-- A specification with one round to play, and its printed strategy, worked out by hand.
use Rattle.std.proofs.Common.{◌≡◌, ◌<◌, ◌^◌, ◌↔◌, ℕ, zero, suc, [], ◌∷◌, ◌++◌, refl, sym, ◌∙◌, ap, subst, arith, inl, inr, Bool, true, false, Some, None}
use Rattle.std.specs.Prelude.{IsSome}
use Rattle.std.proofs.lemmas.Bool.{false≢true}
use Rattle.std.proofs.lemmas.Option.{none-some, same_Some}
use Rattle.std.proofs.lemmas.List.Elements.{All-nil, All-cons, All-head, All-append}
use Rattle.forms.specs.Word.{Word}
use Rattle.forms.specs.Shortlex.{comes_before}
use Rattle.forms.proofs.ShortlexLemmas.{before-not_itself, before-shorter}
use Rattle.game.specs.Board.{Agent, IsLeastNumber}
use Rattle.game.specs.Winning.{WinsWithin, DecisionWinsWithin, MoveWinsWithin}
use Rattle.game.specs.Marks.{Mark, Goal, Win, IsLeastOutput}
use Rattle.game.specs.Histories.{Aims, IsHistory, histories, IsDone, ViolatesWithin, IsRunning, IsMetFirst, IsLive, ShareLocation, Kind, Running, Broken, Met, Past, Illegal, HasKind}
use Rattle.game.proofs.HistoryLemmas.{legal-nil, empty_prefix, not_empty, met-more}
use Rattle.printed_strategy.specs.Strategy.{Strategy, location_after}
use Rattle.printed_strategy.specs.Printed.{IsPrintedFor, IsRightAt}
use Rattle.printed_strategy.specs.Headline.{KeepsPromises}
use Rattle.printed_strategy.proofs.HeadlineLemmas.{keeps_promises}

-- the goal is a round, and there are no propositions
abbrev is_some_round : Word → Bool
is_some_round [] = false
is_some_round (a ∷ w) = true

abbrev one_round : Aims
one_round = record { parts = record { first = Agent; inputs = 0; outputs = 0 }; goal = is_some_round; assumed = None; duty = None }

abbrev first_mark : ℕ → Mark
first_mark zero = Win 1
first_mark (suc at) = Goal

abbrev playing : Strategy
playing = record {
  parts = record { first = Agent; inputs = 0; outputs = 0 };
  has_duty = false;
  verdict = Some 1;
  size = 2;
  mark = first_mark;
  target = λ at a. Some 1;
  choice = λ at x. Some (record { mark = Win 1; output = 0 });
  answers = λ at. None;
}

done : (a : ℕ) (w : Word) → IsDone one_round (a ∷ w)
done a w = (λ v. v, refl)

not-done : ¬ IsDone one_round []
not-done d = false≢true d.1

cons-some : (a : ℕ) (w : Word) → a ∷ w ≡ [] → ⊥
cons-some a w e = cc

-- the assumption holds of every word
keepable : (n : ℕ) (h : Word) → ¬ ViolatesWithin one_round n h
keepable zero h w = w
keepable (suc n) h (inl w) = w
keepable (suc n) h (inr f) =
    let w = f 0 refl in
    let o : 0 ≡ w.0 = let l = w.1 in omega (arith, l) in
    keepable n (h ++ 0 ∷ []) (w.2 0 (record { letter = omega arith; decision = refl; output = o }) tt)

empty-running : IsRunning one_round []
empty-running = (legal-nil one_round, λ u v e. subst (λ z. ¬ IsDone one_round z) (sym (empty_prefix u v e).0) not-done)

single-met : (a : ℕ) → a < 1 → IsMetFirst one_round (a ∷ [])
single-met a l = met-more one_round [] a empty-running l (λ n. keepable n (a ∷ [])) (done a [])

longer-dead : (a b : ℕ) (h : Word) → IsLive one_round (a ∷ b ∷ h) → ⊥
longer-dead a b h (inl run) = run.1 (a ∷ []) (b ∷ h) refl (done a [])
longer-dead a b h (inr met) = met.2 (a ∷ []) (b ∷ h) refl (cons-some b h) (done a [])

small-head : (a : ℕ) (h : Word) → IsHistory one_round (a ∷ h) → a < 1
small-head a h o = All-head (λ z. z < 2 ^ 0) a h o

live-located : (h : Word) → IsHistory one_round h → IsSome (location_after playing h) ↔ IsLive one_round h
live-located [] o = (λ s. inl empty-running, λ l. refl)
live-located (a ∷ []) o = (λ s. inr (single-met a (small-head a [] o)), λ l. refl)
live-located (a ∷ b ∷ h) o = (λ s. absurd (false≢true s), λ l. absurd (longer-dead a b h l))

-- the kind of each history
kind-of : (w : Word) → IsHistory one_round w → (k : Kind) × HasKind one_round w k
kind-of [] o = (Running, (empty-running, λ v. v))
kind-of (a ∷ []) o = (Met, single-met a (small-head a [] o))
kind-of (a ∷ b ∷ w) o = (Past, (a ∷ [], b ∷ w, refl, cons-some b w, single-met a (small-head a (b ∷ w) o)))

share-itself : (h : Word) → IsHistory one_round h → ShareLocation one_round h h
share-itself h o w p =
    let k = kind-of (h ++ w) (All-append (λ z. z < 2 ^ 0) h w o p) in
    (k.0, k.1, k.1)

apart-by : (b : ℕ) (k : Kind) → HasKind one_round [] k → HasKind one_round (b ∷ []) k → ⊥
apart-by b Running x y = y.0.1 (b ∷ []) [] refl (done b [])
apart-by b Broken x y = x.1
apart-by b Met x y = not-done x.1
apart-by b Past x y = not-done (subst (λ z. IsDone one_round z) (empty_prefix x.0 x.1 x.2).0 x.4.1)
apart-by b Illegal x y = not_empty x.0 x.1 x.2 (sym x.3)

apart : (b : ℕ) → ShareLocation one_round [] (b ∷ []) → ⊥
apart b share = let x = share [] (All-nil (λ a. a < 2 ^ 0)) in apart-by b x.0 x.1 x.2

share-back : (s : Aims) (u v : Word) → ShareLocation s u v → ShareLocation s v u
share-back s u v share w o = let x = share w o in (x.0, x.2, x.1)

some-parts : (m n : ℕ) → Some m ≡ Some n → m ≡ n
some-parts m n e = same_Some m n e

zero-one : {A : Type 0} (m n : ℕ) → m ≡ 0 → n ≡ 1 → Some m ≡ Some n → A
zero-one m n h k e = let q = some-parts m n e in absurd (omega (arith, h, k, q))

same-located : (u v : Word) → IsHistory one_round u → IsHistory one_round v → IsLive one_round u → IsLive one_round v
    → (location_after playing u ≡ location_after playing v) ↔ ShareLocation one_round u v
same-located [] [] o p a b = (λ e. share-itself [] o, λ e. refl)
same-located [] (c ∷ []) o p a b = (λ e. zero-one 0 1 refl refl e, λ e. absurd (apart c e))
same-located [] (c ∷ d ∷ v) o p a b = absurd (longer-dead c d v b)
same-located (c ∷ []) [] o p a b = (λ e. zero-one 0 1 refl refl (sym e), λ e. absurd (apart c (share-back one_round (c ∷ []) [] e)))
same-located (c ∷ []) (d ∷ []) o p a b =
    let h = small-head c [] o in
    let k = small-head d [] p in
    let same : c ≡ d = omega (arith, h, k) in
    (λ e. subst (λ z. ShareLocation one_round (c ∷ []) (z ∷ [])) same (share-itself (c ∷ []) o), λ e. refl)
same-located (c ∷ []) (d ∷ f ∷ v) o p a b = absurd (longer-dead d f v b)
same-located (c ∷ f ∷ u) v o p a b = absurd (longer-dead c f u a)

abbrev word_of : ℕ → Word
word_of zero = []
word_of (suc at) = 0 ∷ []

located : (h : Word) (at : ℕ) → IsHistory one_round h → location_after playing h ≡ Some at → (h ≡ word_of at) × (at < 2)
located [] at o e = let q : 0 ≡ at = cc in (ap word_of q, omega (arith, q))
located (a ∷ []) at o e =
    let q : 1 ≡ at = cc in
    let l = small-head a [] o in
    let z : a ≡ 0 = omega (arith, l) in
    (ap (λ z. z ∷ []) z ∙ ap word_of q, omega (arith, q))
located (a ∷ b ∷ h) at o e = absurd (none-some at e)

leads-to : (at : ℕ) → at < 2 → location_after playing (word_of at) ≡ Some at
leads-to zero l = refl
leads-to (suc at) l = let z : 1 ≡ suc at = omega (arith, l) in ap Some z

word-over : (at : ℕ) → IsHistory one_round (word_of at)
word-over zero = All-nil (λ a. a < 2 ^ 0)
word-over (suc at) = All-cons (λ a. a < 2 ^ 0) 0 [] (omega arith) (All-nil (λ a. a < 2 ^ 0))

word-order : (i j : ℕ) → i < j → j < 2 → comes_before (word_of i) (word_of j) ≡ true
word-order zero zero h k = absurd (omega (arith, h))
word-order zero (suc j) h k = before-shorter [] (0 ∷ []) (omega arith)
word-order (suc i) j h k = absurd (omega (arith, h, k))

move-wins : MoveWinsWithin (histories one_round) 1 [] 0 0
move-wins a r l = done a []

won : IsLeastNumber (λ k. WinsWithin (histories one_round) k []) 1
won = record { holds = inr (λ x d. (0, omega arith, λ a r l. done a [])); least = less }
  where
    less : (k : ℕ) → k < 1 → ¬ WinsWithin (histories one_round) k []
    less zero h w = not-done w
    less (suc k) h w = absurd (omega (arith, h))

decision-won : IsLeastNumber (λ k. DecisionWinsWithin (histories one_round) k [] 0) 1
decision-won = record { holds = (0, omega arith, move-wins); least = less }
  where
    less : (k : ℕ) → k < 1 → ¬ DecisionWinsWithin (histories one_round) k [] 0
    less zero h w = w.2
    less (suc k) h w = absurd (omega (arith, h))

least-move : IsLeastOutput one_round.parts (λ z. MoveWinsWithin (histories one_round) 1 [] 0 z) 0
least-move = record { output = omega arith; least = record { holds = move-wins; least = λ k h w. absurd (omega (arith, h)) } }

at-start : IsRightAt (histories one_round) playing [] 0
at-start = record {
  mark = (not-done, won);
  choice = λ c x e. (
    e,
    subst (λ z. IsLeastNumber (λ k. DecisionWinsWithin (histories one_round) k [] z) 1) (sym e) decision-won,
    subst (λ z. IsLeastOutput one_round.parts (λ y. MoveWinsWithin (histories one_round) 1 [] z y) 0) (sym e) least-move,
  );
  answers = λ c. refl;
}

at-goal : (a : ℕ) (w : Word) → IsRightAt (histories one_round) playing (a ∷ w) 1
at-goal a w = record { mark = done a w; choice = λ c. absurd (c (done a w)); answers = λ c. absurd (c (done a w)) }

right-at : (h : Word) (at : ℕ) → location_after playing h ≡ Some at → IsRightAt (histories one_round) playing h at
right-at [] at e = let q : 0 ≡ at = cc in subst (λ z. IsRightAt (histories one_round) playing [] z) q at-start
right-at (a ∷ []) at e = let q : 1 ≡ at = cc in subst (λ z. IsRightAt (histories one_round) playing (a ∷ []) z) q (at-goal a [])
right-at (a ∷ b ∷ h) at e = absurd (none-some at e)

-- its printed strategy
a_round_is_played : IsPrintedFor one_round playing
a_round_is_played = record {
  parts = refl;
  duty = refl;
  verdict = won;
  locations = record {
    live = live-located;
    within = λ h at o e. (located h at o e).1;
    same = same-located;
    word = word_of;
    least = λ at l. record {
      over = word-over at;
      leads = leads-to at l;
      least = λ u o e. ap (λ z. comes_before z (word_of at)) (located u at o e).0 ∙ before-not_itself (word_of at);
    };
    order = word-order;
  };
  right = λ h at o e. right-at h at e;
}

-- and what it keeps
promises_are_kept : KeepsPromises one_round playing
promises_are_kept = keeps_promises one_round playing a_round_is_played (λ n. keepable n [])
