-- What questions by levels mean.
use Rattle.std.proofs.Common.{◌≡◌, ◌<◌, ◌≤◌, ◌^◌, ◌+◌, ◌-◌, ◌*◌, ◌/◌, ◌==◌, ◌||◌, ◌↔◌, inl, inr, ℕ, zero, suc, List, [], ◌∷◌, ◌++◌, length, Bool, true, false, refl, sym, ap, ◌∙◌, arith, pow_pos, length-append}
use Rattle.std.specs.Int.{bit_at}
use Rattle.std.proofs.lemmas.Bool.{cases_lt, and_parts, and_from, or_cases}
use Rattle.std.proofs.lemmas.Nat.{pow-add}
use Rattle.std.proofs.Math.Nat.{pow-suc, div-eq_of_lt, mul-add-div_right, mul-add-mod_self_right}
use Rattle.certificate_text.specs.Asked.{Level, Each, Any, False, True, joined_by, asked, levels, level_of, levels_at}

pub length-levels : (l : Level) (n : ℕ) → length (levels l n) ≡ n
length-levels l zero = refl
length-levels l (suc n) = ap suc (length-levels l n)

pub length-levels_at : (n b : ℕ) → length (levels_at n b) ≡ n
length-levels_at zero b = refl
length-levels_at (suc n) b = ap suc (length-levels_at n b)

pub double : (n : ℕ) → 2 ^ suc n ≡ 2 ^ n + 2 ^ n
double n = pow-suc 2 n ∙ (omega arith)

-- only assignments of so many propositions matter
pub asked_alike : (ls : List Level) (p r : ℕ → Bool) → ((a : ℕ) → a < 2 ^ length ls → p a ≡ r a) → asked ls p ≡ asked ls r
asked_alike [] p r h = h 0 (omega arith)
asked_alike (l ∷ ls) p r h =
    let e = double (length ls) in
    let lo = asked_alike ls p r (λ a lt. h a (omega (arith, e))) in
    let hi = asked_alike ls (λ a. p (2 ^ length ls + a)) (λ a. r (2 ^ length ls + a)) (λ a lt. h (2 ^ length ls + a) (omega (arith, e))) in
    ap (λ (z : Bool). joined_by l z (asked ls (λ a. p (2 ^ length ls + a)))) lo ∙ ap (λ (z : Bool). joined_by l (asked ls r) z) hi

-- two halves that are equal give what each gives
pub joined_same : (l : Level) (b : Bool) → joined_by l b b ≡ b
joined_same Each true = refl
joined_same Each false = refl
joined_same Any true = refl
joined_same Any false = refl
joined_same False b = refl
joined_same True b = refl

-- one question after another
pub asked-append : (ls ms : List Level) (p : ℕ → Bool) → asked (ls ++ ms) p ≡ asked ls (λ a. asked ms (λ b. p (a * 2 ^ length ms + b)))
asked-append [] ms p = asked_alike ms p (λ b. p (0 * 2 ^ length ms + b)) (λ b lt. let e : b ≡ 0 * 2 ^ length ms + b = omega arith in ap p e)
asked-append (l ∷ ls) ms p =
    let n = length ls in
    let m = length ms in
    let size : length (ls ++ ms) ≡ n + m = length-append ls ms in
    let power : 2 ^ length (ls ++ ms) ≡ 2 ^ n * 2 ^ m = ap (λ (z : ℕ). 2 ^ z) size ∙ pow-add 2 n m in
    let lo = asked-append ls ms p in
    let hi = asked-append ls ms (λ a. p (2 ^ length (ls ++ ms) + a)) in
    let shift : asked ls (λ a. asked ms (λ b. p (2 ^ length (ls ++ ms) + (a * 2 ^ m + b)))) ≡ asked ls (λ a. asked ms (λ b. p ((2 ^ n + a) * 2 ^ m + b))) =
    asked_alike ls (λ a. asked ms (λ b. p (2 ^ length (ls ++ ms) + (a * 2 ^ m + b)))) (λ a. asked ms (λ b. p ((2 ^ n + a) * 2 ^ m + b)))
    (λ a lt. asked_alike ms (λ b. p (2 ^ length (ls ++ ms) + (a * 2 ^ m + b))) (λ b. p ((2 ^ n + a) * 2 ^ m + b))
    (λ b lb. let e : 2 ^ length (ls ++ ms) + (a * 2 ^ m + b) ≡ (2 ^ n + a) * 2 ^ m + b = rw power (omega arith) in ap p e)) in
    ap (λ (z : Bool). joined_by l z (asked (ls ++ ms) (λ a. p (2 ^ length (ls ++ ms) + a)))) lo
    ∙ ap (λ (z : Bool). joined_by l (asked ls (λ a. asked ms (λ b. p (a * 2 ^ m + b)))) z) (hi ∙ shift)

-- each assignment
pub asked_each : (n : ℕ) (p : ℕ → Bool) → (asked (levels Each n) p ≡ true) ↔ ((a : ℕ) → a < 2 ^ n → p a ≡ true)
asked_each zero p = (λ h a lt. let e : 0 ≡ a = omega arith in ap p (sym e) ∙ h, λ h. h 0 (omega arith))
asked_each (suc n) p =
    let e = double n in
    let s = length-levels Each n in
    let high : asked (levels Each n) (λ a. p (2 ^ length (levels Each n) + a)) ≡ asked (levels Each n) (λ a. p (2 ^ n + a)) = ap (λ (z : ℕ). asked (levels Each n) (λ a. p (2 ^ z + a))) s in (
      λ h a lt.
          let parts = and_parts (asked (levels Each n) p) (asked (levels Each n) (λ a. p (2 ^ length (levels Each n) + a))) h in
          elim (cases_lt a (2 ^ n)) [
            | inl l ↦ (asked_each n p).0 parts.0 a l
            | inr g ↦
                let t = (asked_each n (λ b. p (2 ^ n + b))).0 (sym high ∙ parts.1) (a - 2 ^ n) (omega (arith, e)) in
                let f : a ≡ 2 ^ n + (a - 2 ^ n) = omega arith in
                ap p f ∙ t
          ],
      λ h. and_from (asked (levels Each n) p) (asked (levels Each n) (λ a. p (2 ^ length (levels Each n) + a)))
          ((asked_each n p).1 (λ a lt. h a (omega (arith, e))))
          (high ∙ (asked_each n (λ b. p (2 ^ n + b))).1 (λ a lt. h (2 ^ n + a) (omega (arith, e)))),
    )

or_left : (x y : Bool) → x ≡ true → (x || y) ≡ true
or_left true y h = refl
or_left false y h = cc

or_right : (x y : Bool) → y ≡ true → (x || y) ≡ true
or_right true y h = refl
or_right false y h = h

-- some assignment
pub asked_any : (n : ℕ) (p : ℕ → Bool) → (asked (levels Any n) p ≡ true) ↔ ((a : ℕ) × (a < 2 ^ n) × (p a ≡ true))
asked_any zero p = (λ h. (0, omega arith, h), λ h. let e : h.0 ≡ 0 = let l : h.0 < 2 ^ 0 = h.1 in omega arith in ap p (sym e) ∙ h.2)
asked_any (suc n) p =
    let e = double n in
    let s = length-levels Any n in
    let high : asked (levels Any n) (λ a. p (2 ^ length (levels Any n) + a)) ≡ asked (levels Any n) (λ a. p (2 ^ n + a)) = ap (λ (z : ℕ). asked (levels Any n) (λ a. p (2 ^ z + a))) s in (
      λ h. elim (or_cases (asked (levels Any n) p) (asked (levels Any n) (λ a. p (2 ^ length (levels Any n) + a))) h) [
        | inl l ↦ let t = (asked_any n p).0 l in (t.0, (let b : t.0 < 2 ^ n = t.1 in omega (arith, e)), t.2)
        | inr g ↦ let t = (asked_any n (λ b. p (2 ^ n + b))).0 (sym high ∙ g) in (2 ^ n + t.0, (let b : t.0 < 2 ^ n = t.1 in omega (arith, e)), t.2)
      ],
      λ h. elim (cases_lt h.0 (2 ^ n)) [
        | inl l ↦ or_left (asked (levels Any n) p) (asked (levels Any n) (λ a. p (2 ^ length (levels Any n) + a))) ((asked_any n p).1 (h.0, l, h.2))
        | inr g ↦
            let b : h.0 < 2 ^ suc n = h.1 in
            let f : h.0 ≡ 2 ^ n + (h.0 - 2 ^ n) = omega arith in
            or_right (asked (levels Any n) p) (asked (levels Any n) (λ a. p (2 ^ length (levels Any n) + a)))
            (high ∙ (asked_any n (λ b. p (2 ^ n + b))).1 (h.0 - 2 ^ n, omega (arith, e), ap p (sym f) ∙ h.2))
      ],
    )

pub bit_low : (n a : ℕ) → a < 2 ^ n → bit_at a n ≡ 0
bit_low n a h = rw (div-eq_of_lt {n = a} {m = 2 ^ n} h) refl

pub bit_high : (n a : ℕ) → a < 2 ^ n → bit_at (2 ^ n + a) n ≡ 1
bit_high n a h =
    let one : 2 ^ n + a ≡ 1 * 2 ^ n + a = omega arith in
    rw (one, mul-add-div_right {m = 2 ^ n} (pow_pos n) 1 a, div-eq_of_lt {n = a} {m = 2 ^ n} h) refl

pub bit_rest : (n a j : ℕ) → j < n → bit_at (2 ^ n + a) j ≡ bit_at a j
bit_rest n a j h =
    let k = n - 1 - j in
    let e : n ≡ suc k + j = omega arith in
    let power : 2 ^ n ≡ 2 ^ k * 2 * 2 ^ j = ap (λ m. 2 ^ m) e ∙ pow-add 2 (suc k) j ∙ ap (λ m. m * 2 ^ j) (pow-suc 2 k) in
    rw (power, mul-add-div_right {m = 2 ^ j} (pow_pos j) (2 ^ k * 2) a) (mul-add-mod_self_right (2 ^ k) 2 (a / 2 ^ j))

-- the levels of an assignment read its low bits alone
levels_at-high : (n k a : ℕ) → n ≤ k → levels_at n (2 ^ k + a) ≡ levels_at n a
levels_at-high zero k a h = refl
levels_at-high (suc n) k a h =
    ap (λ (z : List Level). level_of (bit_at (2 ^ k + a) n == 1) ∷ z) (levels_at-high n k a (omega arith))
    ∙ ap (λ (z : ℕ). level_of (z == 1) ∷ levels_at n a) (bit_rest k a n h)

-- one assignment
pub asked_at : (n b : ℕ) (p : ℕ → Bool) → b < 2 ^ n → asked (levels_at n b) p ≡ p b
asked_at zero b p h = let e : 0 ≡ b = omega arith in ap p e
asked_at (suc n) b p h =
    let s = length-levels_at n b in
    let e = double n in
    elim (cases_lt b (2 ^ n)) [
      | inl l ↦ rw (bit_low n b l) (asked_at n b p l)
      | inr g ↦
          let c = b - 2 ^ n in
          let f : b ≡ 2 ^ n + c = omega arith in
          let l : c < 2 ^ n = omega (arith, e) in
          let one : bit_at b n ≡ 1 = ap (λ (z : ℕ). bit_at z n) f ∙ bit_high n c l in
          let low : levels_at n b ≡ levels_at n c = ap (λ (z : ℕ). levels_at n z) f ∙ levels_at-high n n c (omega arith) in
          rw (one, s) (ap (λ (z : List Level). asked z (λ a. p (2 ^ n + a))) low ∙ asked_at n c (λ a. p (2 ^ n + a)) l ∙ ap p (sym f))
    ]

within_append : (n : ℕ) (l : Level) (ls : List Level) (p : ℕ → Bool) → asked (ls ++ levels l n) p ≡ asked ls (λ y. asked (levels l n) (λ x. p (y * 2 ^ n + x)))
within_append n l ls p =
    let s = length-levels l n in
    asked-append ls (levels l n) p ∙ ap (λ (z : ℕ). asked ls (λ y. asked (levels l n) (λ x. p (y * 2 ^ z + x)))) s

-- for some front, each rest
pub asked_any_each : (m n : ℕ) (p : ℕ → Bool) → (asked (levels Any m ++ levels Each n) p ≡ true) ↔ ((y : ℕ) × (y < 2 ^ m) × ((x : ℕ) → x < 2 ^ n → p (y * 2 ^ n + x) ≡ true))
asked_any_each m n p =
    let e = within_append n Each (levels Any m) p in
    let any = asked_any m (λ y. asked (levels Each n) (λ x. p (y * 2 ^ n + x))) in (
      λ h. let s = any.0 (sym e ∙ h) in (s.0, s.1, (asked_each n (λ x. p (s.0 * 2 ^ n + x))).0 s.2),
      λ h. e ∙ any.1 (h.0, h.1, (asked_each n (λ x. p (h.0 * 2 ^ n + x))).1 h.2),
    )

-- for each front, some rest
pub asked_each_any : (m n : ℕ) (p : ℕ → Bool) → (asked (levels Each m ++ levels Any n) p ≡ true) ↔ ((y : ℕ) → y < 2 ^ m → (x : ℕ) × (x < 2 ^ n) × (p (y * 2 ^ n + x) ≡ true))
asked_each_any m n p =
    let e = within_append n Any (levels Each m) p in
    let each = asked_each m (λ y. asked (levels Any n) (λ x. p (y * 2 ^ n + x))) in (
      λ h y l. (asked_any n (λ x. p (y * 2 ^ n + x))).0 (each.0 (sym e ∙ h) y l),
      λ h. e ∙ each.1 (λ y l. (asked_any n (λ x. p (y * 2 ^ n + x))).1 (h y l)),
    )

-- at one front, each rest
pub asked_at_each : (m n y : ℕ) (p : ℕ → Bool) → y < 2 ^ m → (asked (levels_at m y ++ levels Each n) p ≡ true) ↔ ((x : ℕ) → x < 2 ^ n → p (y * 2 ^ n + x) ≡ true)
asked_at_each m n y p l =
    let e = within_append n Each (levels_at m y) p ∙ asked_at m y (λ z. asked (levels Each n) (λ x. p (z * 2 ^ n + x))) l in
    let each = asked_each n (λ x. p (y * 2 ^ n + x)) in
    (λ h. each.0 (sym e ∙ h), λ h. e ∙ each.1 h)

-- at one front, some rest
pub asked_at_any : (m n y : ℕ) (p : ℕ → Bool) → y < 2 ^ m → (asked (levels_at m y ++ levels Any n) p ≡ true) ↔ ((x : ℕ) × (x < 2 ^ n) × (p (y * 2 ^ n + x) ≡ true))
asked_at_any m n y p l =
    let e = within_append n Any (levels_at m y) p ∙ asked_at m y (λ z. asked (levels Any n) (λ x. p (z * 2 ^ n + x))) l in
    let any = asked_any n (λ x. p (y * 2 ^ n + x)) in
    (λ h. any.0 (sym e ∙ h), λ h. e ∙ any.1 h)
