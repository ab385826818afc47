-- A letter for each truth of the propositions.
use Rattle.std.proofs.Common.{◌≡◌, ◌≢◌, ℕ, zero, suc, ◌<◌, ◌^◌, ◌+◌, ◌-◌, ◌*◌, ◌/◌, ◌%◌, ◌==◌, refl, sym, ◌∙◌, ap, arith, inl, inr, ◌⊎◌, Bool, true, false, ◌&&◌}
use Rattle.std.specs.Int.{from_bool}
use Rattle.std.proofs.Math.Nat.{div-div-eq-div-mul}
use Rattle.std.proofs.lemmas.Bool.{lt-ltb, cases_eq}
use Rattle.diagrams.specs.Tree.{Assignment}
use Rattle.diagrams.specs.Eval.{Diagrams, eval, DependsOn, letter_truth}
use Rattle.diagrams.specs.Live.{IsLive, IsCanonical}
use Rattle.diagrams.specs.declared.top.Id.{Id}
use Rattle.diagrams.proofs.Meaning.{same_id_by_value}

-- the two differ at the letter, and at no lesser letter
pub record IsLeastDifference (f g : ℕ → ℕ) (a : ℕ) : Type 0 where
  pub differ : f a ≢ g a
  pub least : (b : ℕ) → b < a → f b ≡ g b

-- the number of a truth value is below 2
pub from_bool_small : (b : Bool) → from_bool b < 2
from_bool_small true = omega arith
from_bool_small false = omega arith

-- it is 1 where the value is true
pub from_bool_one : (b : Bool) → (from_bool b == 1) ≡ b
from_bool_one true = refl
from_bool_one false = refl

-- the number that the first n propositions spell
abbrev pub spelt : Assignment → ℕ → ℕ
spelt a zero = 0
spelt a (suc n) = 2 * spelt a n + from_bool (a n)

-- the number that the first n propositions spell is a letter over n propositions
pub spelt-less : (a : Assignment) (n : ℕ) → spelt a n < 2 ^ n
spelt-less a zero = omega arith
spelt-less a (suc n) = let h = spelt-less a n in let b = from_bool_small (a n) in omega (arith, h, b)

spelt-half : (a : Assignment) (n : ℕ) → spelt a (suc n) / 2 ≡ spelt a n
spelt-half a n = let b = from_bool_small (a n) in omega (arith, b)

spelt-last : (a : Assignment) (n : ℕ) → spelt a (suc n) % 2 ≡ from_bool (a n)
spelt-last a n = let b = from_bool_small (a n) in omega (arith, b)

spelt-shift : (a : Assignment) (n d : ℕ) → spelt a (n + d) / 2 ^ d ≡ spelt a n
spelt-shift a n zero = let e : n + 0 ≡ n = omega arith in rw (e) (omega arith)
spelt-shift a n (suc d) =
    let e : n + suc d ≡ suc (n + d) = omega arith in
    let f : 2 ^ suc d ≡ 2 * 2 ^ d = omega arith in
    ap (λ z. spelt a z / 2 ^ suc d) e
    ∙ ap (λ z. spelt a (suc (n + d)) / z) f
    ∙ sym (div-div-eq-div-mul (spelt a (suc (n + d))) 2 (2 ^ d))
    ∙ ap (λ z. z / 2 ^ d) (spelt-half a (n + d))
    ∙ spelt-shift a n d

-- the letter that an assignment spells has exactly the propositions that the assignment makes true
pub spelt-truth : (a : Assignment) (p i : ℕ) → i < p → letter_truth p (spelt a p) i ≡ a i
spelt-truth a p i h =
    let e : p ≡ suc i + (p - 1 - i) = omega (arith, h) in
    let s : spelt a p / 2 ^ (p - 1 - i) ≡ spelt a (suc i) = ap (λ z. spelt a z / 2 ^ (p - 1 - i)) e ∙ spelt-shift a (suc i) (p - 1 - i) in
    ap (λ z. z && (spelt a p / 2 ^ (p - 1 - i) % 2 == 1)) (lt-ltb i p h)
    ∙ ap (λ z. z % 2 == 1) s
    ∙ ap (λ z. z == 1) (spelt-last a i)
    ∙ from_bool_one (a i)

-- two functions agree below n, or there is a least place where they differ
pub agree_or_differ : (f g : ℕ → ℕ) (n : ℕ) → ((b : ℕ) → b < n → f b ≡ g b) ⊎ ((a : ℕ) × (a < n) × IsLeastDifference f g a)
agree_or_differ f g zero = inl (λ b h. absurd (omega (arith, h)))
agree_or_differ f g (suc n) =
    elim (agree_or_differ f g n) [
      | inl e ↦ elim (cases_eq (f n) (g n)) [
        | inl q ↦ inl (λ b h. elim (cases_eq b n) [
          | inl z ↦ rw (z) q
          | inr z ↦ e b (omega (arith, h, z))
        ])
        | inr q ↦ inr (n, omega arith, record { differ = q; least = e })
      ]
      | inr r ↦ inr (r.0, omega (arith, r.1), r.2)
    ]

-- live ids that depend on propositions alone are one, or have a least letter at which they differ
pub same_or_differ : (s : Diagrams) → IsCanonical s → (i j : Id) → IsLive s i → IsLive s j → DependsOn s i (λ v. v < s.props) → DependsOn s j (λ v. v < s.props)
    → (i ≡ j) ⊎ ((a : ℕ) × (a < 2 ^ s.props) × IsLeastDifference (λ b. eval s i (letter_truth s.props b)) (λ b. eval s j (letter_truth s.props b)) a)
same_or_differ s c i j h k x y =
    elim (agree_or_differ (λ b. eval s i (letter_truth s.props b)) (λ b. eval s j (letter_truth s.props b)) (2 ^ s.props)) [
      | inl e ↦ inl (same_id_by_value s c i j h k (λ a.
          x a (letter_truth s.props (spelt a s.props)) (λ v l. sym (spelt-truth a s.props v l))
          ∙ e (spelt a s.props) (spelt-less a s.props)
          ∙ y (letter_truth s.props (spelt a s.props)) a (λ v l. spelt-truth a s.props v l)))
      | inr r ↦ inr r
    ]
