-- How many ids are live.
use Rattle.std.proofs.Common.{◌≡◌, ℕ, zero, suc, ◌<◌, ◌+◌, cond, refl, arith, IsSome, Option, Some, None, List, [], ◌∷◌, length}
use Rattle.std.specs.Prelude.{slice_get, is_some}
use Rattle.std.specs.List.{count_by}
use Rattle.std.specs.Option.{option_flatten}
use Rattle.std.proofs.lemmas.List.Sums.{sum_by-cons, count_by-le-length}
use Rattle.diagrams.specs.declared.top.Id.{Id}
use Rattle.diagrams.specs.declared.top.Look.{Look}
use Rattle.diagrams.specs.Eval.{Diagrams, top_of}
use Rattle.diagrams.specs.Live.{IsLive, live_count}

-- each place of the list has a top
abbrev AllThere : List (Option Look) → Type 0
AllThere xs = (k : ℕ) → k < length xs → IsSome (option_flatten (slice_get xs k))

count_some : (x : Look) (xs : List (Option Look)) → count_by is_some (Some x ∷ xs) ≡ 1 + count_by is_some xs
count_some x xs = sum_by-cons (λ o. cond (is_some o) 1 0) (Some x) xs

count_none : (xs : List (Option Look)) → count_by is_some (None ∷ xs) ≡ 0 + count_by is_some xs
count_none xs = sum_by-cons (λ o. cond (is_some o) 1 0) None xs

all_counted : (xs : List (Option Look)) → AllThere xs → count_by is_some xs ≡ length xs
all_counted [] h = refl
all_counted (None ∷ xs) h = let z = h 0 (omega arith) in absurd (cc)
all_counted (Some x ∷ xs) h = let e = all_counted xs (λ k l. h (suc k) (omega arith)) in omega (arith, e, count_some x xs)

all_there : (xs : List (Option Look)) → count_by is_some xs ≡ length xs → AllThere xs
all_there [] e k h = absurd (omega arith)
all_there (None ∷ xs) e k h = absurd (omega (arith, e, count_none xs, count_by-le-length is_some xs))
all_there (Some x ∷ xs) e zero h = refl
all_there (Some x ∷ xs) e (suc k) h = all_there xs (omega (arith, e, count_some x xs)) k (omega arith)

-- where each id with a slot is live, as many ids are live as there are slots
pub live_count-all : (s : Diagrams) → ((i : Id) → i.0 < length s.tops → IsLive s i) → live_count s ≡ length s.tops
unfolding top_of
live_count-all s h = all_counted s.tops (λ k l. h (record { 0 = k }) l)

-- and only there
pub all_live-count : (s : Diagrams) → live_count s ≡ length s.tops → (i : Id) → i.0 < length s.tops → IsLive s i
unfolding top_of
all_live-count s e i h = all_there s.tops e i.0 h
