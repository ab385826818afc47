-- Shortlex order, and a further letter.
use Rattle.std.proofs.Common.{◌≡◌, ◌<◌, ℕ, [], ◌∷◌, ◌++◌, refl, sym, ◌∙◌, ap, arith, length, inl, inr, true, false}
use Rattle.std.proofs.lemmas.Bool.{cases_Bool, true≢false, false_from_ne_true}
use Rattle.std.proofs.lemmas.List.{length_push}
use Rattle.forms.specs.Word.{Word}
use Rattle.forms.specs.Shortlex.{has_lesser_letters, comes_before}
use Rattle.forms.proofs.ShortlexLemmas.{before-shorter, before-lesser, before-cases, before-trans, before-neither, before-not_itself, before-letter, lesser-cases, lesser-less, lesser-more}

-- of two words one alone comes before the other
pub before-once : (u v : Word) → comes_before u v ≡ true → comes_before v u ≡ true → ⊥
before-once u v h k = true≢false (sym (before-trans u v u h k) ∙ before-not_itself u)

-- what a word comes before does not come before it
pub before-not_after : (u v : Word) → comes_before u v ≡ true → comes_before v u ≡ false
before-not_after u v h = false_from_ne_true (comes_before v u) (λ k. before-once u v h k)

-- v comes no later than u, and w no later than v
pub not_before-trans : (u v w : Word) → comes_before u v ≡ false → comes_before v w ≡ false → comes_before u w ≡ false
not_before-trans u v w h k =
    false_from_ne_true (comes_before u w) (λ q. elim (cases_Bool (comes_before v u)) [
      | inl x ↦ true≢false (sym (before-trans v u w x q) ∙ k)
      | inr x ↦ true≢false (sym q ∙ ap (λ z. comes_before z w) (before-neither u v h x) ∙ k)
    ])

lesser-append : (u v x y : Word) → length u ≡ length v → has_lesser_letters u v ≡ true → has_lesser_letters (u ++ x) (v ++ y) ≡ true
lesser-append [] v x y e h = absurd (true≢false (sym h))
lesser-append (a ∷ u) [] x y e h = absurd (true≢false (sym h))
lesser-append (a ∷ u) (b ∷ v) x y e h =
    elim (lesser-cases a b u v h) [
      | inl q ↦ lesser-less a b (u ++ x) (v ++ y) q
      | inr q ↦ rw (q.0) (lesser-more b (u ++ x) (v ++ y) (lesser-append u v x y (omega (arith, e)) q.1))
    ]

-- a further letter to each of two words keeps their order
pub before-more : (u v : Word) (a b : ℕ) → comes_before u v ≡ true → comes_before (u ++ a ∷ []) (v ++ b ∷ []) ≡ true
before-more u v a b h =
    elim (before-cases u v h) [
      | inl x ↦ before-shorter (u ++ a ∷ []) (v ++ b ∷ []) (omega (arith, x, length_push u a, length_push v b))
      | inr x ↦ before-lesser (u ++ a ∷ []) (v ++ b ∷ []) (omega (arith, x.0, length_push u a, length_push v b)) (lesser-append u v (a ∷ []) (b ∷ []) x.0 x.1)
    ]

-- a word comes before itself with a further letter
pub before-longer : (u : Word) (a : ℕ) → comes_before u (u ++ a ∷ []) ≡ true
before-longer u a = before-shorter u (u ++ a ∷ []) (omega (arith, length_push u a))

-- of two letters after one word the lesser comes first
pub before-last : (u : Word) (a b : ℕ) → a < b → comes_before (u ++ a ∷ []) (u ++ b ∷ []) ≡ true
before-last u a b h = before-letter u [] [] a b h refl

-- where a word does not come before another, nor does it with one more letter after both
pub not_before-more : (u v : Word) (a : ℕ) → comes_before u v ≡ false → comes_before (u ++ a ∷ []) (v ++ a ∷ []) ≡ false
not_before-more u v a h =
    elim (cases_Bool (comes_before v u)) [
      | inl x ↦ before-not_after (v ++ a ∷ []) (u ++ a ∷ []) (before-more v u a a x)
      | inr x ↦ ap (λ z. comes_before (u ++ a ∷ []) (z ++ a ∷ [])) (sym (before-neither u v h x)) ∙ before-not_itself (u ++ a ∷ [])
    ]
