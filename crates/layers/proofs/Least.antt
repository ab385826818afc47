-- Least numbers, and tests on them.
use Rattle.std.proofs.Common.{◌≡◌, ℕ, suc, ◌≤◌, inl, inr, arith, refl, ap, Bool, true, false, Option, Some, None}
use Rattle.std.specs.Prelude.{◌==◌}
use Rattle.std.proofs.lemmas.Bool.{cases_eq, eq-eqb, ne_eqb, cases_lt}
use Rattle.attractor.specs.Minimax.{IsWithin}
use Rattle.game.specs.Numbers.{IsLeastOrNone}
use Rattle.layers.proofs.Layers.{Lasts}

-- where a value is the least number, what holds at a number is that the value is within it
pub within_from : (P : ℕ → Type 0) (v : Option ℕ) → IsLeastOrNone P v → (n : ℕ) → P n → IsWithin n v
within_from P None f n p = f n p
within_from P (Some k) f n p = elim (cases_lt n k) [ inl h ↦ absurd (f.least n h p) | inr h ↦ h ]

pub holds_from : (P : ℕ → Type 0) → Lasts P → (v : Option ℕ) → IsLeastOrNone P v → (n : ℕ) → IsWithin n v → P n
holds_from P l None f n w = elim w [ ]
holds_from P l (Some k) f n w = l k n f.holds w

-- and the other way round
pub least_from : (P : ℕ → Type 0) (v : Option ℕ) → ((n : ℕ) → P n → IsWithin n v) → ((n : ℕ) → IsWithin n v → P n) → IsLeastOrNone P v
least_from P None to from = λ k p. to k p
least_from P (Some k) to from = record { holds = from k (omega arith); least = λ j h p. let w = to j p in absurd (omega arith) }

-- whether the value is this number
abbrev pub is_number : ℕ → Option ℕ → Bool
is_number n None = false
is_number n (Some k) = k == n

pub number_is : (n : ℕ) (v : Option ℕ) → is_number n v ≡ true → v ≡ Some n
number_is n None e = absurd (cc)
number_is n (Some k) e = elim (cases_eq k n) [
  | inl q ↦ ap (λ j. Some j) q
  | inr q ↦ let f = ne_eqb k n q in absurd (cc)
]

pub number_test : (n : ℕ) (v : Option ℕ) → v ≡ Some n → is_number n v ≡ true
number_test n None e = absurd (cc)
number_test n (Some k) e = let q : k ≡ n = cc in eq-eqb k n q

-- a value within n + 1 that isn't n + 1 is within n
pub within_less : (n : ℕ) (v : Option ℕ) → IsWithin (suc n) v → is_number (suc n) v ≡ false → IsWithin n v
within_less n None w e = elim w [ ]
within_less n (Some k) w e = elim (cases_eq k (suc n)) [
  | inl q ↦ let f = eq-eqb k (suc n) q in absurd (cc)
  | inr q ↦ omega arith
]

-- a value that is there is a number
pub some_number : (n : ℕ) (v : Option ℕ) → IsWithin n v → (k : ℕ) × (v ≡ Some k) × (k ≤ n)
some_number n None w = elim w [ ]
some_number n (Some k) w = (k, refl, w)

pub within_is : (n k : ℕ) (v : Option ℕ) → v ≡ Some k → k ≤ n → IsWithin n v
within_is n k v e h = rw e h

pub none_within : (n : ℕ) (v : Option ℕ) → v ≡ None → ¬ IsWithin n v
none_within n None e w = w
none_within n (Some k) e w = absurd (cc)
