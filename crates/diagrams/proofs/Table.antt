-- The fields of a store as nodes are added.
use Rattle.std.proofs.Common.{◌≡◌, ℕ, zero, suc, ◌<◌, refl, sym, ◌∙◌, ap, arith, ◌⊎◌, inl, inr, Some, List, [], ◌∷◌, ◌++◌, length}
use Rattle.std.specs.Prelude.{slice_get}
use Rattle.std.proofs.lemmas.Option.{none-some, same_Some, slice_get_within}

-- what stands in the first of two lists stands there still with the other at its end
pub get-append : {A : Type 0} (xs ys : List A) (k : ℕ) → k < length xs → slice_get (xs ++ ys) k ≡ slice_get xs k
get-append [] ys k h = absurd (omega arith)
get-append (x ∷ xs) ys zero h = refl
get-append (x ∷ xs) ys (suc k) h = get-append xs ys k (omega arith)

-- and so does an item with one more
pub get-push_old : {A : Type 0} (xs : List A) (n m : A) (k : ℕ) → slice_get xs k ≡ Some m → slice_get (xs ++ n ∷ []) k ≡ Some m
get-push_old xs n m k e = get-append xs (n ∷ []) k (slice_get_within xs k m e) ∙ e

-- the head of the second of two lists stands after the first
pub get-append_next : {A : Type 0} (xs ys : List A) (n : A) → slice_get (xs ++ n ∷ ys) (length xs) ≡ Some n
get-append_next [] ys n = refl
get-append_next (x ∷ xs) ys n = get-append_next xs ys n

-- what stands in the list with one more stood there before, or is the one more
pub get-push_cases : {A : Type 0} (xs : List A) (n m : A) (k : ℕ) → slice_get (xs ++ n ∷ []) k ≡ Some m → (slice_get xs k ≡ Some m) ⊎ ((k ≡ length xs) × (m ≡ n))
get-push_cases [] n m zero e = inr (refl, sym (same_Some n m e))
get-push_cases [] n m (suc k) e = absurd (none-some m e)
get-push_cases (x ∷ xs) n m zero e = inl e
get-push_cases (x ∷ xs) n m (suc k) e =
    elim (get-push_cases xs n m k e) [ inl p ↦ inl p | inr p ↦ inr (ap suc p.0, p.1) ]
