-- Decimal numbers read digit by digit.
use Rattle.std.proofs.Common.{◌≡◌, ◌≢◌, ◌<◌, ◌≤◌, ◌^◌, ◌+◌, ◌-◌, ◌*◌, ◌⊎◌, inl, inr, ℕ, zero, suc, List, take, length, get_or, decimal, refl, sym, ap, subst, ◌∙◌, arith, add-one}
use Rattle.std.specs.Str.Parse.{AllDigits, digits_value}
use Rattle.std.specs.Char.{digit_value}
use Rattle.std.proofs.lemmas.Int.Digits.{digits_more, digits_value_more}
use Rattle.std.proofs.lemmas.Str.Parse.{numerals_by_value, tells_digits, digit_at, IsNumeralModel}
use Rattle.std.proofs.lemmas.Fmt.{decimal-digits_value, digits_decimal, digits_value-decimal, decimal_nonempty, length-decimal-le, first_decimal, decimal_digit}
use Rattle.std.proofs.Math.Seq.{take-length}
use Rattle.std.proofs.Math.Nat.{pow-suc, mul-le-mul_left}
use Rattle.std.proofs.lemmas.Nat.{pow-add}
use Rattle.std.proofs.lemmas.Str.{digit_value_digit}
use Rattle.certificate_text.specs.Digits.{ReadSoFar}

own : IsNumeralModel (AllDigits 10) (digits_value 10)
own = numerals_by_value (AllDigits 10) tells_digits

pub read_none : (text : List ℕ) → ReadSoFar text 0 0
read_none text = record { digits = tt; value = refl; small = omega arith }

pub read_more : (text : List ℕ) (i n : ℕ) → i < length text → 48 ≤ get_or text i 0 → get_or text i 0 ≤ 57 → ReadSoFar text i n → ReadSoFar text (i + 1) (n * 10 + (get_or text i 0 - 48))
read_more text i n l low high r =
    let v : digit_value (get_or text i 0) ≡ get_or text i 0 - 48 = (let h = digit_value_digit (get_or text i 0) (low, high) in omega arith) in
    record {
      digits = digits_more 10 text i l r.digits (let b : get_or text i 0 - 48 < 10 = omega arith in omega (arith, v));
      value = let f = digits_value_more 10 text i l in ap (λ (z : ℕ). z * 10 + (get_or text i 0 - 48)) r.value ∙ ap (λ (z : ℕ). digits_value 10 (take i text) * 10 + z) (sym v) ∙ sym f;
      small = let p : 10 ^ (i + 1) ≡ 10 ^ i * 10 = rw add-one (pow-suc 10 i) in let s = r.small in omega (arith, p, s);
    }

-- the number that the digits are the decimal of
pub number_read : (text : List ℕ) (n : ℕ) → ReadSoFar text (length text) n → 0 < length text → (get_or text 0 0 ≡ 48 → length text ≡ 1) → n < 2 ^ 64 → text ≡ decimal n
number_read text n r some first small =
    let all : AllDigits 10 text = let P : List ℕ → Type 0 = λ z. AllDigits 10 z in subst P (take-length text) r.digits in
    let v : n ≡ digits_value 10 text = r.value ∙ ap (λ (z : List ℕ). digits_value 10 z) (take-length text) in
    let less : digits_value 10 text < 2 ^ 64 = omega (arith, v) in
    sym (ap decimal v ∙ decimal-digits_value own text all some first less)

-- what keeps a text from being the decimal of a number below 2^32
pub no_empty : (text : List ℕ) → length text ≡ 0 → (n : ℕ) → n < 2 ^ 32 → text ≢ decimal n
no_empty text l n small e = absurd (let h = decimal_nonempty n (omega arith) in let f : length text ≡ length (decimal n) = ap length e in omega arith)

pub no_long : (text : List ℕ) → 10 < length text → (n : ℕ) → n < 2 ^ 32 → text ≢ decimal n
no_long text l n small e = absurd (let h = length-decimal-le 10 n (omega arith) (omega arith) (omega arith) in let f : length text ≡ length (decimal n) = ap length e in omega arith)

pub no_leading_zero : (text : List ℕ) → get_or text 0 0 ≡ 48 → 1 < length text → (n : ℕ) → n < 2 ^ 32 → text ≢ decimal n
no_leading_zero text z l zero small e = absurd (let d = decimal_digit 0 (omega arith) in let f : length text ≡ length (decimal 0) = ap length e in let g : length (decimal 0) ≡ 1 = ap length d in omega arith)
no_leading_zero text z l (suc n) small e = absurd (let h = first_decimal (suc n) (omega arith) (omega arith) in let f : get_or text 0 0 ≡ get_or (decimal (suc n)) 0 0 = ap (λ (t : List ℕ). get_or t 0 0) e in omega arith)

pub no_other_byte : (text : List ℕ) (i : ℕ) → i < length text → (get_or text i 0 < 48) ⊎ (57 < get_or text i 0) → (n : ℕ) → n < 2 ^ 32 → text ≢ decimal n
no_other_byte text i l b n small e =
    let P : List ℕ → Type 0 = λ z. AllDigits 10 z in
    let all : AllDigits 10 text = subst P (sym e) (digits_decimal own n (omega arith)) in
    let r = digit_at text i all l in
    elim b [ inl low ↦ absurd (let f : 48 ≤ get_or text i 0 = r.0 in omega arith) | inr high ↦ absurd (let f : get_or text i 0 ≤ 57 = r.1 in omega arith) ]

pub no_great : (text : List ℕ) (k : ℕ) → ReadSoFar text (length text) k → 2 ^ 32 ≤ k → (n : ℕ) → n < 2 ^ 32 → text ≢ decimal n
no_great text k r big n small e =
    let v : k ≡ digits_value 10 text = r.value ∙ ap (λ (z : List ℕ). digits_value 10 z) (take-length text) in
    let w : digits_value 10 (decimal n) ≡ n = digits_value-decimal own n (omega arith) in
    let x : digits_value 10 text ≡ digits_value 10 (decimal n) = ap (λ (z : List ℕ). digits_value 10 z) e in
    absurd (omega arith)

ten_positive : (i : ℕ) → 0 < 10 ^ i
ten_positive zero = omega arith
ten_positive (suc i) = let h = ten_positive i in let p = pow-suc 10 i in omega (arith, h, p)

at_least : (a b n : ℕ) → n ≡ a * b → 0 < b → a ≤ n
at_least a b n e h = let le = mul-le-mul_left a h in omega (arith, le, e)

power_ten : (i : ℕ) → i ≤ 9 → 10 ^ i ≤ 10 ^ 9
power_ten i h = let e : 9 ≡ i + (9 - i) = omega arith in let p : 10 ^ 9 ≡ 10 ^ i * 10 ^ (9 - i) = ap (λ (z : ℕ). 10 ^ z) e ∙ pow-add 10 i (9 - i) in let q : 0 < 10 ^ (9 - i) = ten_positive (9 - i) in at_least (10 ^ i) (10 ^ (9 - i)) (10 ^ 9) p q

-- the next digit still fits
pub next_fits : (text : List ℕ) (i n b : ℕ) → i ≤ 9 → b ≤ 9 → ReadSoFar text i n → n * 10 + b < 2 ^ 64
next_fits text i n b h l r = let p = power_ten i h in let s = r.small in omega (arith, p, s)
