-- Shortlex order is a strict total order.
use Rattle.std.proofs.Common.{◌≡◌, ℕ, ◌<◌, [], ◌∷◌, ◌++◌, refl, sym, ◌∙◌, arith, length, length-append, inl, inr, true, false, ◌⊎◌, nat_lt}
use Rattle.std.specs.Prelude.{◌&&◌, ◌==◌}
use Rattle.std.proofs.lemmas.Bool.{cases_Bool, eq-eqb, eqb-true, eqb-false, lt-ltb, ltb-true, ltb-false, or_left, or_right, or_cases, or_parts, and_from, and_parts, and_cases, true≢false, false_from_ne_true}
use Rattle.forms.specs.Word.{Word}
use Rattle.forms.specs.Shortlex.{has_lesser_letters, comes_before, ShorterComesFirst, LesserLetterComesFirst, NeverBeforeItself, BeforeIsTransitive, OneComesFirst}

-- of two words the shorter comes first
pub before-shorter : ShorterComesFirst
unfolding comes_before
before-shorter u v h = or_left _ _ (lt-ltb (length u) (length v) h)

-- of two words of one length the one with the lesser letters comes first
pub before-lesser : (u v : Word) → length u ≡ length v → has_lesser_letters u v ≡ true → comes_before u v ≡ true
unfolding comes_before
before-lesser u v e h = or_right (nat_lt (length u) (length v)) _ (and_from _ _ (eq-eqb (length u) (length v) e) h)

-- a word before another is shorter, or as long and of lesser letters
pub before-cases : (u v : Word) → comes_before u v ≡ true → (length u < length v) ⊎ ((length u ≡ length v) × (has_lesser_letters u v ≡ true))
unfolding comes_before
before-cases u v h =
    elim (or_cases _ _ h) [
      | inl q ↦ inl (ltb-true (length u) (length v) q)
      | inr q ↦ let x = and_parts _ _ q in inr (eqb-true (length u) (length v) x.0, x.1)
    ]

-- lesser letters begin with a lesser letter, or with the same one before lesser letters
pub lesser-cases : (a b : ℕ) (u v : Word) → has_lesser_letters (a ∷ u) (b ∷ v) ≡ true → (a < b) ⊎ ((a ≡ b) × (has_lesser_letters u v ≡ true))
lesser-cases a b u v h =
    elim (or_cases _ _ h) [
      | inl q ↦ inl (ltb-true a b q)
      | inr q ↦ let x = and_parts _ _ q in inr (eqb-true a b x.0, x.1)
    ]

-- a word that begins with a lesser letter has the lesser letters
pub lesser-less : (a b : ℕ) (u v : Word) → a < b → has_lesser_letters (a ∷ u) (b ∷ v) ≡ true
lesser-less a b u v h = or_left _ _ (lt-ltb a b h)

-- one letter before two words leaves the lesser letters with the same one
pub lesser-more : (a : ℕ) (u v : Word) → has_lesser_letters u v ≡ true → has_lesser_letters (a ∷ u) (a ∷ v) ≡ true
lesser-more a u v h = or_right (nat_lt a a) _ (and_from _ _ (eq-eqb a a refl) h)

lesser-after : (w u v : Word) (a b : ℕ) → a < b → has_lesser_letters (w ++ a ∷ u) (w ++ b ∷ v) ≡ true
lesser-after [] u v a b h = lesser-less a b u v h
lesser-after (c ∷ w) u v a b h = lesser-more c (w ++ a ∷ u) (w ++ b ∷ v) (lesser-after w u v a b h)

-- of two words of one length, the one with the lesser letter where they first differ comes first
pub before-letter : LesserLetterComesFirst
before-letter w u v a b h e =
    before-lesser (w ++ a ∷ u) (w ++ b ∷ v)
    (omega (arith, e, length-append w (a ∷ u), length-append w (b ∷ v)))
    (lesser-after w u v a b h)

lesser-trans : (u v w : Word) → has_lesser_letters u v ≡ true → has_lesser_letters v w ≡ true → has_lesser_letters u w ≡ true
lesser-trans [] v w h k = absurd (true≢false (sym h))
lesser-trans (a ∷ u) [] w h k = absurd (true≢false (sym h))
lesser-trans (a ∷ u) (b ∷ v) [] h k = absurd (true≢false (sym k))
lesser-trans (a ∷ u) (b ∷ v) (c ∷ w) h k =
    elim (lesser-cases a b u v h) [
      | inl x ↦ elim (lesser-cases b c v w k) [
        | inl y ↦ lesser-less a c u w (omega (arith, x, y))
        | inr y ↦ lesser-less a c u w (omega (arith, x, y.0))
      ]
      | inr x ↦ elim (lesser-cases b c v w k) [
        | inl y ↦ lesser-less a c u w (omega (arith, x.0, y))
        | inr y ↦ rw (x.0, y.0) (lesser-more c u w (lesser-trans u v w x.1 y.1))
      ]
    ]

-- what comes before a word comes before all that the word comes before
pub before-trans : BeforeIsTransitive
before-trans u v w h k =
    elim (before-cases u v h) [
      | inl x ↦ elim (before-cases v w k) [
        | inl y ↦ before-shorter u w (omega (arith, x, y))
        | inr y ↦ before-shorter u w (omega (arith, x, y.0))
      ]
      | inr x ↦ elim (before-cases v w k) [
        | inl y ↦ before-shorter u w (omega (arith, x.0, y))
        | inr y ↦ before-lesser u w (x.0 ∙ y.0) (lesser-trans u v w x.1 y.1)
      ]
    ]

-- words of one length of which none has the lesser letters are one word
lesser-neither : (u v : Word) → length u ≡ length v → has_lesser_letters u v ≡ false → has_lesser_letters v u ≡ false → u ≡ v
lesser-neither [] [] e h k = refl
lesser-neither [] (b ∷ v) e h k = absurd (omega (arith, e))
lesser-neither (a ∷ u) [] e h k = absurd (omega (arith, e))
lesser-neither (a ∷ u) (b ∷ v) e h k =
    let x : (nat_lt a b ≡ false) × ((a == b && has_lesser_letters u v) ≡ false) = or_parts _ _ h in
    let y : (nat_lt b a ≡ false) × ((b == a && has_lesser_letters v u) ≡ false) = or_parts _ _ k in
    let same : a ≡ b = omega (arith, ltb-false a b x.0, ltb-false b a y.0) in
    let low : has_lesser_letters u v ≡ false = elim (and_cases _ _ x.1) [ inl q ↦ absurd (eqb-false a b q same) | inr q ↦ q ] in
    let high : has_lesser_letters v u ≡ false = elim (and_cases _ _ y.1) [ inl q ↦ absurd (eqb-false b a q (sym same)) | inr q ↦ q ] in
    let rest : u ≡ v = lesser-neither u v (omega (arith, e)) low high in
    cc

-- words of which none comes before the other are one word
pub before-neither : (u v : Word) → comes_before u v ≡ false → comes_before v u ≡ false → u ≡ v
unfolding comes_before
before-neither u v h k =
    let x : (nat_lt (length u) (length v) ≡ false) × ((length u == length v && has_lesser_letters u v) ≡ false) = or_parts _ _ h in
    let y : (nat_lt (length v) (length u) ≡ false) × ((length v == length u && has_lesser_letters v u) ≡ false) = or_parts _ _ k in
    let same : length u ≡ length v = omega (arith, ltb-false (length u) (length v) x.0, ltb-false (length v) (length u) y.0) in
    let low : has_lesser_letters u v ≡ false = elim (and_cases _ _ x.1) [ inl q ↦ absurd (eqb-false (length u) (length v) q same) | inr q ↦ q ] in
    let high : has_lesser_letters v u ≡ false = elim (and_cases _ _ y.1) [ inl q ↦ absurd (eqb-false (length v) (length u) q (sym same)) | inr q ↦ q ] in
    lesser-neither u v same low high

lesser-not_itself : (u : Word) → has_lesser_letters u u ≡ true → ⊥
lesser-not_itself [] h = true≢false (sym h)
lesser-not_itself (a ∷ u) h = elim (lesser-cases a a u u h) [ inl x ↦ omega (arith, x) | inr x ↦ lesser-not_itself u x.1 ]

-- no word comes before itself
pub before-not_itself : NeverBeforeItself
before-not_itself u =
    false_from_ne_true (comes_before u u) (λ h. elim (before-cases u u h) [ inl x ↦ omega (arith, x) | inr x ↦ lesser-not_itself u x.1 ])

-- of two different words one comes first
pub before-total : OneComesFirst
before-total u v =
    elim (cases_Bool (comes_before u v)) [
      | inl h ↦ inr (inl h)
      | inr h ↦ elim (cases_Bool (comes_before v u)) [
        | inl k ↦ inr (inr k)
        | inr k ↦ inl (before-neither u v h k)
      ]
    ]
