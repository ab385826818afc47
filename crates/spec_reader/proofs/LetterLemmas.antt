-- Letters and their propositions.
use Rattle.std.proofs.Common.{◌≡◌, ◌≢◌, ℕ, ◌-◌, ◌^◌, ◌<◌, ◌||◌, inl, inr, true, false, max, arith}
use Rattle.std.specs.Prelude.{bit_or, ◌==◌}
use Rattle.std.proofs.lemmas.Bool.{cases_eq, eq-eqb, ne_eqb}
use Rattle.std.proofs.lemmas.Bool.Decides.{nat_tests}
use Rattle.std.proofs.lemmas.Nat.{or_lt, pow_below}
use Rattle.std.proofs.lemmas.Nat.Bits.{bit_at-lt, bit_at_or, bit_at-zero, bit_at-pow_same, bit_at-pow_other, same_from_bits_below}
use Rattle.bes_io.specs.Letter.{has}
use Rattle.bes_io.proofs.Bits.{same_bit}

-- a letter is known by its propositions
pub same_from_has : (p a b : ℕ) → a < 2 ^ p → b < 2 ^ p → ((i : ℕ) → i < p → has p i a ≡ has p i b) → a ≡ b
same_from_has p a b ha hb same =
    same_from_bits_below p a b ha hb
    (λ k h.
    let e : p - 1 - (p - 1 - k) ≡ k = omega arith in
    let has_same = same (p - 1 - k) (omega arith) in
    same_bit _ _ (bit_at-lt a k) (bit_at-lt b k) (rw e at has_same))

-- the empty letter has no proposition
pub has-zero : (p i : ℕ) → has p i 0 ≡ false
has-zero p i = rw (bit_at-zero (p - 1 - i))

bit_with : (x : ℕ) → x < 2 → (max x 1 == 1) ≡ true
bit_with x h = grind (arith, nat_tests)

bit_without : (x : ℕ) → x < 2 → (max x 0 == 1) ≡ (x == 1)
bit_without x h = let e : max x 0 ≡ x = omega arith in rw e

-- with proposition n too, a letter has that one and those that it had
pub has-with : (p n i letter : ℕ) → n < p → i < p → has p i (bit_or letter (2 ^ (p - 1 - n))) ≡ (n == i || has p i letter)
has-with p n i letter hn hi =
    let k = p - 1 - i in
    elim (cases_eq n i) [
      | inl same ↦
          let e : p - 1 - n ≡ k = omega arith in
          rw (eq-eqb n i same, e, bit_at_or letter (2 ^ k) k, bit_at-pow_same k) (bit_with _ (bit_at-lt letter k))
      | inr other ↦
          let ne : k ≢ p - 1 - n = λ e. other (omega arith) in
          rw (ne_eqb n i other, bit_at_or letter (2 ^ (p - 1 - n)) k, bit_at-pow_other (p - 1 - n) k ne) (bit_without _ (bit_at-lt letter k))
    ]

-- and is below the same power
pub with-below : (p n letter : ℕ) → n < p → letter < 2 ^ p → bit_or letter (2 ^ (p - 1 - n)) < 2 ^ p
with-below p n letter hn h = or_lt p letter (2 ^ (p - 1 - n)) h (pow_below (p - 1 - n) p (omega arith))
