-- Decimal digits one after the other.
use Rattle.std.proofs.Common.{◌≡◌, ℕ, zero, suc, ◌+◌, ◌-◌, ◌*◌, ◌<◌, ◌≤◌, List, [], ◌∷◌, length, get_or, take, Option, Some, None, Bool, true, false, cond, ◌&&◌, not, nat_le, arith, refl, inl, inr, slice_index, ap}
use Rattle.std.specs.Prelude.{◌==◌}
use Rattle.std.specs.Str.{all_ascii_digits}
use Rattle.std.specs.Str.Parse.{digits_value}
use Rattle.std.specs.Char.{is_ascii_digit, digit_value}
use Rattle.std.proofs.lemmas.Bool.{cases_Bool}
use Rattle.std.proofs.lemmas.Bool.Decides.{nat_tests}
use Rattle.std.proofs.lemmas.Int.Digits.{digits_value_more}
use Rattle.std.proofs.lemmas.Str.Parse.{digits_value-take-le}
use Rattle.spec_lines.specs.Values.{limit_of}

-- each of the bytes is a digit
all_ascii_digits-at : (v : List ℕ) (i : ℕ) → i < length v → all_ascii_digits v ≡ true → is_ascii_digit (get_or v i 0) ≡ true
all_ascii_digits-at [] i h e = absurd (omega arith)
all_ascii_digits-at (b ∷ v) zero h e = head (is_ascii_digit b) e
  where
    head : (c : Bool) → (c && all_ascii_digits v) ≡ true → c ≡ true
    head true e = refl
    head false e = cc
all_ascii_digits-at (b ∷ v) (suc i) h e = all_ascii_digits-at v i (omega arith) (tail (is_ascii_digit b) e)
  where
    tail : (c : Bool) → (c && all_ascii_digits v) ≡ true → all_ascii_digits v ≡ true
    tail true e = e
    tail false e = cc

both_more : (b c d : Bool) → (b ≡ true → c ≡ true) → (d && b) ≡ true → (d && c) ≡ true
both_more b c true step e = step e
both_more b c false step e = cc

-- digits and one more
pub all_ascii_digits-more : (v : List ℕ) (i : ℕ) → i < length v → is_ascii_digit (get_or v i 0) ≡ true → all_ascii_digits (take i v) ≡ true → all_ascii_digits (take (suc i) v) ≡ true
all_ascii_digits-more [] i h d e = absurd (omega arith)
all_ascii_digits-more (b ∷ v) zero h d e = rw d refl
all_ascii_digits-more (b ∷ v) (suc i) h d e = both_more _ _ (is_ascii_digit b) (all_ascii_digits-more v i (omega arith) d) e

-- the codes of digits
pub ascii_digit-bounds : (b : ℕ) → is_ascii_digit b ≡ true → (48 ≤ b) × (b ≤ 57)
ascii_digit-bounds b e = (grind (arith, nat_tests), grind (arith, nat_tests))

-- the value of a digit
pub digit_value-ascii : (b : ℕ) → 48 ≤ b → b ≤ 57 → digit_value b ≡ b - 48
digit_value-ascii b low high = grind (arith, nat_tests)

-- no digits make 0
pub digits_value-start : (v : List ℕ) (i : ℕ) → i ≡ 0 → digits_value 10 (take i v) ≡ 0
digits_value-start v i e = ap (λ k. digits_value 10 (take k v)) e

-- the number that one more digit makes
pub digits_value-push : (v : List ℕ) (i n d : ℕ) → i < length v → 48 ≤ get_or v i 0 → get_or v i 0 ≤ 57 → n ≡ digits_value 10 (take i v) → d ≡ get_or v i 0 - 48 → 10 * n + d ≡ digits_value 10 (take (i + 1) v)
digits_value-push v i n d h low high e f = omega (arith, digits_value_more 10 v i h, digit_value-ascii (get_or v i 0) low high)

-- bytes that aren't all digits give no limit
pub limit_of-other : (most : ℕ) (v : List ℕ) (i : ℕ) → i < length v → is_ascii_digit (get_or v i 0) ≡ false → limit_of most v ≡ None
limit_of-other most v i h e =
    elim (cases_Bool (all_ascii_digits v)) [
      | inl digits ↦ absurd (let d = all_ascii_digits-at v i h digits in cc)
      | inr other ↦ rw other refl
    ]

-- a leading 0 gives none
pub limit_of-zero : (most : ℕ) (v : List ℕ) → slice_index v 0 ≡ 48 → limit_of most v ≡ None
limit_of-zero most v e = rw e (go (all_ascii_digits v))
  where
    go : (b : Bool) → ◌≡◌ {A = Option ℕ} (cond (((b && false) && nat_le 1 (digits_value 10 v)) && nat_le (digits_value 10 v) most) (Some (digits_value 10 v)) None) None
    go true = refl
    go false = refl

-- too great a number gives none
pub limit_of-great : (most : ℕ) (v : List ℕ) → most < digits_value 10 v → limit_of most v ≡ None
limit_of-great most v h = go (all_ascii_digits v && not (slice_index v 0 == 48) && nat_le 1 (digits_value 10 v)) (nat_le (digits_value 10 v) most) (grind (arith, nat_tests))
  where
    go : (b c : Bool) → c ≡ false → ◌≡◌ {A = Option ℕ} (cond (b && c) (Some (digits_value 10 v)) None) None
    go true c e = rw e refl
    go false c e = refl

-- the digits so far make too great a number already
pub limit_of-front : (most : ℕ) (v : List ℕ) (i : ℕ) → most < digits_value 10 (take i v) → limit_of most v ≡ None
limit_of-front most v i h = limit_of-great most v (omega (arith, digits_value-take-le 10 v i (omega arith)))
