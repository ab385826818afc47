-- Different fields have different texts.
use Rattle.std.proofs.Common.{◌≡◌, ◌<◌, ◌≤◌, ◌+◌, ◌-◌, ◌^◌, ◌++◌, ℕ, zero, suc, List, [], ◌∷◌, length, length-append, append_assoc, take, drop, refl, sym, ◌∙◌, ap, arith, inl, inr, Option, Some, None, if◌then◌else◌}
use Rattle.std.specs.Prelude.{codes, decimal, nat_lt, slice_index}
use Rattle.std.proofs.lemmas.Bool.{cases_Bool, cases_lt, lt-ltb, le-ltb}
use Rattle.std.proofs.lemmas.Fmt.{decimal_is_IsNumeral}
use Rattle.std.specs.Str.Parse.{digits_value}
use Rattle.std.proofs.lemmas.List.{append_cancel_left, append_cancel_right}
use Rattle.std.proofs.Math.Seq.{take-append_seam, drop-append_seam}
use Rattle.game.specs.Marks.{Mark, Goal, Win, Pending, Lost, Held, LostIn}
use Rattle.printed_strategy.specs.Strategy.{Choice}
use Rattle.printed_strategy.specs.StrategyText.{bits_of, bits_text, mark_text, choice_text}

-- a number is told by its decimal text
pub decimal-once : (m n : ℕ) → m < 2 ^ 64 → n < 2 ^ 64 → decimal m ≡ decimal n → m ≡ n
decimal-once m n h k e = sym (decimal_is_IsNumeral m h).1 ∙ ap (λ z. digits_value 10 z) e ∙ (decimal_is_IsNumeral n k).1

bits-length : (k n : ℕ) → length (bits_of k n) ≡ k
bits-length zero n = refl
bits-length (suc k) n =
    elim (cases_Bool (nat_lt n (2 ^ k))) [
      | inl e ↦ let h = bits-length k n in ap (λ z. length (if z then 48 ∷ bits_of k n else 49 ∷ bits_of k (n - 2 ^ k))) e ∙ omega (arith, h)
      | inr e ↦ let h = bits-length k (n - 2 ^ k) in ap (λ z. length (if z then 48 ∷ bits_of k n else 49 ∷ bits_of k (n - 2 ^ k))) e ∙ omega (arith, h)
    ]

tails : (a b : ℕ) (xs ys : List ℕ) → a ∷ xs ≡ b ∷ ys → xs ≡ ys
tails a b xs ys e = cc

heads : (a b : ℕ) (xs ys : List ℕ) → a ∷ xs ≡ b ∷ ys → a ≡ b
heads a b xs ys e = cc

bits-low : (k n : ℕ) → n < 2 ^ k → bits_of (suc k) n ≡ 48 ∷ bits_of k n
bits-low k n h = ap (λ z. if z then 48 ∷ bits_of k n else 49 ∷ bits_of k (n - 2 ^ k)) (lt-ltb n (2 ^ k) h)

bits-high : (k n : ℕ) → 2 ^ k ≤ n → bits_of (suc k) n ≡ 49 ∷ bits_of k (n - 2 ^ k)
bits-high k n h = ap (λ z. if z then 48 ∷ bits_of k n else 49 ∷ bits_of k (n - 2 ^ k)) (le-ltb n (2 ^ k) h)

-- a number is told by its bits
pub bits-once : (k m n : ℕ) → m < 2 ^ k → n < 2 ^ k → bits_of k m ≡ bits_of k n → m ≡ n
bits-once zero m n h l e = omega (arith, h, l)
bits-once (suc k) m n h l e =
    elim (cases_lt m (2 ^ k)) [
      | inl p ↦ elim (cases_lt n (2 ^ k)) [
        | inl q ↦ bits-once k m n p q (tails 48 48 (bits_of k m) (bits_of k n) (sym (bits-low k m p) ∙ e ∙ bits-low k n q))
        | inr q ↦ absurd (omega (arith, heads 48 49 (bits_of k m) (bits_of k (n - 2 ^ k)) (sym (bits-low k m p) ∙ e ∙ bits-high k n q)))
      ]
      | inr p ↦ elim (cases_lt n (2 ^ k)) [
        | inl q ↦ absurd (omega (arith, heads 49 48 (bits_of k (m - 2 ^ k)) (bits_of k n) (sym (bits-high k m p) ∙ e ∙ bits-low k n q)))
        | inr q ↦
            let r = bits-once k (m - 2 ^ k) (n - 2 ^ k) (omega (arith, h, p)) (omega (arith, l, q)) (tails 49 49 (bits_of k (m - 2 ^ k)) (bits_of k (n - 2 ^ k)) (sym (bits-high k m p) ∙ e ∙ bits-high k n q)) in
            omega (arith, r, p, q)
      ]
    ]

pub bits_text-once : (k m n : ℕ) → m < 2 ^ k → n < 2 ^ k → bits_text k m ≡ bits_text k n → m ≡ n
bits_text-once zero m n h l e = omega (arith, h, l)
bits_text-once (suc k) m n h l e = bits-once (suc k) m n h l e

bits_text-length : (k m n : ℕ) → length (bits_text k m) ≡ length (bits_text k n)
bits_text-length zero m n = refl
bits_text-length (suc k) m n = bits-length (suc k) m ∙ sym (bits-length (suc k) n)

-- lists whose ends are as long are split alike
same-suffix : (xs ys us vs : List ℕ) → xs ++ ys ≡ us ++ vs → length ys ≡ length vs → (xs ≡ us) × (ys ≡ vs)
same-suffix xs ys us vs e l =
    let whole : length xs + length ys ≡ length us + length vs = sym (length-append xs ys) ∙ ap length e ∙ length-append us vs in
    let same : length xs ≡ length us = omega (arith, whole, l) in (
      sym (take-append_seam xs ys) ∙ ap (λ z. take (length xs) z) e ∙ ap (λ n. take n (us ++ vs)) same ∙ take-append_seam us vs,
      sym (drop-append_seam xs ys) ∙ ap (λ z. drop (length xs) z) e ∙ ap (λ n. drop n (us ++ vs)) same ∙ drop-append_seam us vs,
    )

-- a mark whose number has 64 bits at most
abbrev pub IsSmallMark : Mark → Type 0
IsSmallMark Goal = Unit {0}
IsSmallMark (Win n) = n < 2 ^ 64
IsSmallMark (Pending n) = n < 2 ^ 64
IsSmallMark Lost = Unit {0}
IsSmallMark Held = Unit {0}
IsSmallMark (LostIn n) = n < 2 ^ 64

-- the first character of a mark, with 2 for a loss without a number
abbrev letter : Mark → ℕ
letter Goal = 103
letter (Win n) = 119
letter (Pending n) = 111
letter Lost = 108
letter Held = 104
letter (LostIn n) = 108

first-letter : (m : Mark) (rest : List ℕ) → slice_index (mark_text m ++ rest) 0 ≡ letter m
first-letter Goal rest = refl
first-letter (Win n) rest = refl
first-letter (Pending n) rest = refl
first-letter Lost rest = refl
first-letter Held rest = refl
first-letter (LostIn n) rest = refl

same-letter : (m k : Mark) → mark_text m ++ [] ≡ mark_text k ++ [] → letter m ≡ letter k
same-letter m k e = sym (first-letter m []) ∙ ap (λ z. slice_index z 0) e ∙ first-letter k []

lost-apart : (n : ℕ) → codes "lost" ≡ codes "lost " ++ decimal n → ⊥
lost-apart n e = let q : 4 ≡ 5 + length (decimal n) = ap length e ∙ length-append (codes "lost ") (decimal n) in omega (arith, q)

prefix-once : (xs : List ℕ) (m n : ℕ) → m < 2 ^ 64 → n < 2 ^ 64 → xs ++ decimal m ≡ xs ++ decimal n → m ≡ n
prefix-once xs m n h k e = decimal-once m n h k (append_cancel_left xs (decimal m) (decimal n) e)

mark-once-by : (m k : Mark) → IsSmallMark m → IsSmallMark k → letter m ≡ letter k → mark_text m ≡ mark_text k → m ≡ k
mark-once-by Goal Goal a b l e = refl
mark-once-by Goal (Win n) a b l e = absurd (omega (arith, l))
mark-once-by Goal (Pending n) a b l e = absurd (omega (arith, l))
mark-once-by Goal Lost a b l e = absurd (omega (arith, l))
mark-once-by Goal Held a b l e = absurd (omega (arith, l))
mark-once-by Goal (LostIn n) a b l e = absurd (omega (arith, l))
mark-once-by (Win n) Goal a b l e = absurd (omega (arith, l))
mark-once-by (Win n) (Win k) a b l e = ap Win (prefix-once (codes "win ") n k a b e)
mark-once-by (Win n) (Pending k) a b l e = absurd (omega (arith, l))
mark-once-by (Win n) Lost a b l e = absurd (omega (arith, l))
mark-once-by (Win n) Held a b l e = absurd (omega (arith, l))
mark-once-by (Win n) (LostIn k) a b l e = absurd (omega (arith, l))
mark-once-by (Pending n) Goal a b l e = absurd (omega (arith, l))
mark-once-by (Pending n) (Win k) a b l e = absurd (omega (arith, l))
mark-once-by (Pending n) (Pending k) a b l e = ap Pending (prefix-once (codes "open ") n k a b e)
mark-once-by (Pending n) Lost a b l e = absurd (omega (arith, l))
mark-once-by (Pending n) Held a b l e = absurd (omega (arith, l))
mark-once-by (Pending n) (LostIn k) a b l e = absurd (omega (arith, l))
mark-once-by Lost Goal a b l e = absurd (omega (arith, l))
mark-once-by Lost (Win n) a b l e = absurd (omega (arith, l))
mark-once-by Lost (Pending n) a b l e = absurd (omega (arith, l))
mark-once-by Lost Lost a b l e = refl
mark-once-by Lost Held a b l e = absurd (omega (arith, l))
mark-once-by Lost (LostIn n) a b l e = absurd (lost-apart n e)
mark-once-by Held Goal a b l e = absurd (omega (arith, l))
mark-once-by Held (Win n) a b l e = absurd (omega (arith, l))
mark-once-by Held (Pending n) a b l e = absurd (omega (arith, l))
mark-once-by Held Lost a b l e = absurd (omega (arith, l))
mark-once-by Held Held a b l e = refl
mark-once-by Held (LostIn n) a b l e = absurd (omega (arith, l))
mark-once-by (LostIn n) Goal a b l e = absurd (omega (arith, l))
mark-once-by (LostIn n) (Win k) a b l e = absurd (omega (arith, l))
mark-once-by (LostIn n) (Pending k) a b l e = absurd (omega (arith, l))
mark-once-by (LostIn n) Lost a b l e = absurd (lost-apart n (sym e))
mark-once-by (LostIn n) Held a b l e = absurd (omega (arith, l))
mark-once-by (LostIn n) (LostIn k) a b l e = ap LostIn (prefix-once (codes "lost ") n k a b e)

-- a mark is told by its text
pub mark-once : (m k : Mark) → IsSmallMark m → IsSmallMark k → mark_text m ≡ mark_text k → m ≡ k
mark-once m k a b e = mark-once-by m k a b (same-letter m k (ap (λ z. z ++ []) e)) e

-- a choice whose numbers fit
abbrev pub IsSmallChoice : ℕ → Option Choice → Type 0
IsSmallChoice outputs None = Unit {0}
IsSmallChoice outputs (Some c) = IsSmallMark c.mark × (c.output < 2 ^ outputs)

illegal-apart : (m : Mark) → 105 ≡ letter m → ⊥
illegal-apart Goal e = omega (arith, e)
illegal-apart (Win n) e = omega (arith, e)
illegal-apart (Pending n) e = omega (arith, e)
illegal-apart Lost e = omega (arith, e)
illegal-apart Held e = omega (arith, e)
illegal-apart (LostIn n) e = omega (arith, e)

illegal-choice : (outputs : ℕ) (c : Choice) → choice_text outputs None ≡ choice_text outputs (Some c) → ⊥
illegal-choice outputs c e =
    illegal-apart c.mark (ap (λ z. slice_index z 0) e ∙ ap (λ z. slice_index z 0) (append_assoc (mark_text c.mark) (codes " ") (bits_text outputs c.output)) ∙ first-letter c.mark (codes " " ++ bits_text outputs c.output))

-- a choice is told by its text
pub choice-once : (outputs : ℕ) (o q : Option Choice) → IsSmallChoice outputs o → IsSmallChoice outputs q → choice_text outputs o ≡ choice_text outputs q → o ≡ q
choice-once outputs None None a b e = refl
choice-once outputs None (Some d) a b e = absurd (illegal-choice outputs d e)
choice-once outputs (Some c) None a b e = absurd (illegal-choice outputs c (sym e))
choice-once outputs (Some c) (Some d) a b e =
    let split = same-suffix (mark_text c.mark ++ codes " ") (bits_text outputs c.output) (mark_text d.mark ++ codes " ") (bits_text outputs d.output) e (bits_text-length outputs c.output d.output) in
    let mark : c.mark ≡ d.mark = mark-once c.mark d.mark a.0 b.0 (append_cancel_right (mark_text c.mark) (mark_text d.mark) (codes " ") split.0) in
    let output : c.output ≡ d.output = bits_text-once outputs c.output d.output a.1 b.1 split.1 in
    ap (λ m. Some (record { mark = m; output = c.output })) mark ∙ ap (λ y. Some (record { mark = d.mark; output = y })) output
