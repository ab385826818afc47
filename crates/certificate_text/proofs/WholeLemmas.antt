-- When lines are whole, by their characters.
use Rattle.std.proofs.Common.{◌≡◌, ◌≢◌, ◌<◌, ◌≤◌, ◌+◌, ◌-◌, ◌*◌, inl, inr, ℕ, zero, suc, List, [], ◌∷◌, ◌++◌, map, take, drop, length, Option, refl, sym, ap, subst, ◌∙◌, arith, get_or-take, get_or-drop, length-drop, length-take, length-take-le, ◌↔◌, add-one, IsTrue, Bool, true, false, eqb}
use Rattle.std.specs.Prelude.{slice_index, slice_get}
use Rattle.std.proofs.Math.Seq.{drop-cons}
use Rattle.certificate_rules.specs.Cubes.{Entry, led, IsWhole}
use Rattle.certificate_text.specs.Lines.{rows}
use Rattle.certificate_text.specs.Halves.{HasAll}
use Rattle.std.proofs.Math.ListN.{drop_of_length-le}
use Rattle.std.proofs.lemmas.Bool.{cases_order, eqb-true, eq-eqb}
use Rattle.certificate_text.proofs.LineLemmas.{peel, free_at, splits_at, whole_long, append-nil, rows-none, no_zero_is_dash, first_zero, one_and_zero}

pub more_rows : (w i j : ℕ) → i ≤ j → i * w ≤ j * w
more_rows w i j h = let e : j ≡ i + (j - i) = omega arith in let f : j * w ≡ i * w + (j - i) * w = ap (λ (z : ℕ). z * w) e ∙ (omega arith) in omega (arith, f)

-- a cube behind its first d characters
cube_at : (w d : ℕ) (cubes : List ℕ) (i : ℕ) → d < w → (i + 1) * w ≤ length cubes
    → drop d (take w (drop (i * w) cubes)) ≡ slice_index cubes (i * w + d) ∷ drop (suc d) (take w (drop (i * w) cubes))
cube_at w d cubes i dw long =
    let rest : w ≤ length (drop (i * w) cubes) = let l = length-drop (i * w) cubes in let m : (i + 1) * w ≡ i * w + w = omega arith in omega (arith, l, m) in
    let size : length (take w (drop (i * w) cubes)) ≡ w = length-take-le w (drop (i * w) cubes) rest in
    let inside : d < length (take w (drop (i * w) cubes)) = omega (arith, size) in
    let one = get_or-take w (drop (i * w) cubes) d 0 dw in
    let two = get_or-drop (i * w) cubes d 0 in
    drop-cons (take w (drop (i * w) cubes)) d 0 inside ∙ ap (λ (z : ℕ). z ∷ drop (suc d) (take w (drop (i * w) cubes))) (one ∙ two)

-- lines that have one character at a place are those without it, led by it
pub rows_led : (w d : ℕ) (cubes : List ℕ) (c from n : ℕ) → d < w → (from + n) * w ≤ length cubes
    → ((i : ℕ) → from ≤ i → i < from + n → slice_index cubes (i * w + d) ≡ c) → rows w d cubes from n ≡ map (led c) (rows w (suc d) cubes from n)
rows_led w d cubes c from zero dw long all = refl
rows_led w d cubes c from (suc n) dw long all =
    let first : (from + 1) * w ≤ length cubes = let a : (from + 1) * w ≤ (from + suc n) * w = more_rows w (from + 1) (from + suc n) (omega arith) in omega arith in
    let here = cube_at w d cubes from dw first ∙ ap (λ (z : ℕ). z ∷ drop (suc d) (take w (drop (from * w) cubes))) (all from (omega arith) (omega arith)) in
    let same : from + suc n ≡ suc from + n = omega arith in
    let L : ℕ → Type 0 = λ z. z * w ≤ length cubes in
    ap (λ (z : List ℕ). record { cube = z; value = from } ∷ rows w d cubes (suc from) n) here
    ∙ ap (λ (z : List (Entry ℕ)). record { cube = c ∷ drop (suc d) (take w (drop (from * w) cubes)); value = from } ∷ z)
    (rows_led w d cubes c (suc from) n dw (subst L same long) (λ i a b. all i (omega arith) (omega arith)))

-- lines one part after another
pub rows-append : (w d : ℕ) (cubes : List ℕ) (from m n : ℕ) → rows w d cubes from (m + n) ≡ rows w d cubes from m ++ rows w d cubes (from + m) n
rows-append w d cubes from zero n = let a : 0 + n ≡ n = omega arith in let b : from + 0 ≡ from = omega arith in rw (a, b) refl
rows-append w d cubes from (suc m) n =
    let a : suc m + n ≡ suc (m + n) = omega arith in
    let b : from + suc m ≡ suc from + m = omega arith in
    rw (a, b) (ap (λ (z : List (Entry ℕ)). record { cube = drop d (take w (drop (from * w) cubes)); value = from } ∷ z) (rows-append w d cubes (suc from) m n))

-- lines of which each has `-` are whole where the rests are
pub whole_from_free : (w d : ℕ) (cubes : List ℕ) (from n : ℕ) → d < w → (from + n) * w ≤ length cubes
    → ((i : ℕ) → from ≤ i → i < from + n → slice_index cubes (i * w + d) ≡ 45) → IsWhole (w - suc d) (rows w (suc d) cubes from n) → IsWhole (w - d) (rows w d cubes from n)
whole_from_free w d cubes from n dw long all h =
    let e : w - d ≡ suc (w - suc d) = omega arith in
    let W : ℕ → Type 0 = λ z. IsWhole z (rows w d cubes from n) in
    subst W (sym e) (inl (rows w (suc d) cubes from n, rows_led w d cubes 45 from n dw long all, h))

-- lines with `0` and then lines with `1` are whole where the rests of both are
pub whole_from_halves : (w d : ℕ) (cubes : List ℕ) (from m n : ℕ) → d < w → (from + (m + n)) * w ≤ length cubes
    → ((i : ℕ) → from ≤ i → i < from + m → slice_index cubes (i * w + d) ≡ 48) → ((i : ℕ) → from + m ≤ i → i < (from + m) + n → slice_index cubes (i * w + d) ≡ 49)
    → IsWhole (w - suc d) (rows w (suc d) cubes from m) → IsWhole (w - suc d) (rows w (suc d) cubes (from + m) n) → IsWhole (w - d) (rows w d cubes from (m + n))
whole_from_halves w d cubes from m n dw long zeros ones g h =
    let e : w - d ≡ suc (w - suc d) = omega arith in
    let W : ℕ → Type 0 = λ z. IsWhole z (rows w d cubes from (m + n)) in
    let front : (from + m) * w ≤ length cubes = let a = more_rows w (from + m) (from + (m + n)) (omega arith) in omega (arith, a) in
    let back : ((from + m) + n) * w ≤ length cubes = let L : ℕ → Type 0 = λ z. z * w ≤ length cubes in let s : from + (m + n) ≡ (from + m) + n = omega arith in subst L s long in
    let lo = rows_led w d cubes 48 from m dw front zeros in
    let hi = rows_led w d cubes 49 (from + m) n dw back ones in
    subst W (sym e) (inr (
      rows w (suc d) cubes from m,
      rows w (suc d) cubes (from + m) n,
      rows-append w d cubes from m n
          ∙ ap (λ (z : List (Entry ℕ)). z ++ rows w d cubes (from + m) n) lo
          ∙ ap (λ (z : List (Entry ℕ)). map (led 48) (rows w (suc d) cubes from m) ++ z) hi,
      g,
      h,
    ))

pub length-rows : (w d : ℕ) (cubes : List ℕ) (from n : ℕ) → length (rows w d cubes from n) ≡ n
length-rows w d cubes from zero = refl
length-rows w d cubes from (suc n) = ap suc (length-rows w d cubes (suc from) n)

nothing_left : (w : ℕ) (xs : List ℕ) → drop w (take w xs) ≡ []
nothing_left w xs = drop_of_length-le (take w xs) {i = w} (let l = length-take w xs in omega arith)

-- at the end of the cubes one line is whole, and no other number of lines
pub one_whole : (w : ℕ) (cubes : List ℕ) (from n : ℕ) → IsWhole 0 (rows w w cubes from n) ↔ (n ≡ 1)
one_whole w cubes from n = (
  λ h. sym (length-rows w w cubes from n) ∙ ap length h.1,
  λ e. let P : ℕ → Type 0 = λ z. IsWhole 0 (rows w w cubes from z) in subst P (sym e) (
    from,
    ap (λ (z : List ℕ). record { cube = z; value = from } ∷ []) (nothing_left w (drop (from * w) cubes)),
  ),
)

-- no lines are not whole
pub none_whole : (k w d : ℕ) (cubes : List ℕ) (from n : ℕ) → n ≡ 0 → ¬ IsWhole k (rows w d cubes from n)
none_whole k w d cubes from n e h = let l = whole_long k (rows w d cubes from n) h in let s = length-rows w d cubes from n in omega arith

-- lines that have `-` are whole exactly where the rests are
pub free_whole : (w d : ℕ) (cubes : List ℕ) (from to : ℕ) → d < w → from < to → to * w ≤ length cubes → HasAll cubes w d from to 45
    → IsWhole (w - (d + 1)) (rows w (d + 1) cubes from (to - from)) ↔ IsWhole (w - d) (rows w d cubes from (to - from))
free_whole w d cubes from to dw ft long all =
    let more : d + 1 ≡ suc d = add-one d in
    let P : ℕ → Type 0 = λ z. IsWhole (w - z) (rows w z cubes from (to - from)) in
    let end : from + (to - from) ≡ to = omega arith in
    let L : ℕ → Type 0 = λ z. z * w ≤ length cubes in (
      λ h. whole_from_free w d cubes from (to - from) dw (subst L (sym end) long) (λ i a b. all i a (omega arith)) (subst P more h),
      λ h. subst P (sym more) (free_at w d cubes from to dw ft h (all from (omega arith) ft)).rest,
    )

-- lines that are whole, of which the first has `-`, all have it
pub free_all : (w d : ℕ) (cubes : List ℕ) (from to : ℕ) → d < w → IsWhole (suc (w - suc d)) (rows w d cubes from (to - from))
    → slice_index cubes (from * w + d) ≡ 45 → HasAll cubes w d from to 45
free_all w d cubes from to dw (inl h) c = λ i a b.
    let p = peel w d cubes 45 dw h.0 [] from (to - from) (h.1 ∙ append-nil (map (led 45) h.0)) in
    let all : (to - from) - length h.0 ≡ 0 = rows-none w d cubes (from + length h.0) ((to - from) - length h.0) p.others in
    p.characters i a (omega arith)
free_all w d cubes from to dw (inr h) c =
    absurd (no_zero_is_dash (slice_index cubes (from * w + d)) (first_zero w d cubes from to dw h.0 h.1 h.2 (whole_long (w - suc d) h.0 h.3)) c)

-- where the zeros end, lines that are whole and don't all have `-` split
pub split_whole : (w d : ℕ) (cubes : List ℕ) (from to m : ℕ) → d < w → from < to → ¬ HasAll cubes w d from to 45 → from ≤ m → m ≤ to
    → HasAll cubes w d from m 48 → (m < to → slice_index cubes (m * w + d) ≢ 48) → IsWhole (w - d) (rows w d cubes from (to - from))
    → HasAll cubes w d m to 49 × IsWhole (w - (d + 1)) (rows w (d + 1) cubes from (m - from)) × IsWhole (w - (d + 1)) (rows w (d + 1) cubes m (to - m))
split_whole w d cubes from to m dw ft some fm mt zeros end h =
    let e : w - d ≡ suc (w - suc d) = omega arith in
    let W : ℕ → Type 0 = λ z. IsWhole z (rows w d cubes from (to - from)) in
    let s = splits_at w d cubes from to dw ft h (λ c. some (free_all w d cubes from to dw (subst W e h) c)) in
    let above : from < s.0 = s.1.above in
    let below : s.0 < to = s.1.below in
    let same : s.0 ≡ m = elim (cases_order s.0 m) [
      | inl f ↦ f
      | inr (inl less) ↦ absurd (one_and_zero (slice_index cubes (s.0 * w + d)) (s.3 s.0 (omega arith) below) (zeros s.0 (omega arith) less))
      | inr (inr more) ↦ absurd (end (omega arith) (s.2 m fm more))
    ] in
    let more : d + 1 ≡ suc d = add-one d in
    let P : ℕ → Type 0 = λ z. HasAll cubes w d z to 49 × IsWhole (w - suc d) (rows w (suc d) cubes from (z - from)) × IsWhole (w - suc d) (rows w (suc d) cubes z (to - z)) in
    let Q : ℕ → Type 0 = λ z. HasAll cubes w d m to 49 × IsWhole (w - z) (rows w z cubes from (m - from)) × IsWhole (w - z) (rows w z cubes m (to - m)) in
    subst Q (sym more) (subst P same (s.3, s.1.low, s.1.high))

-- and the halves suffice
pub halves_whole : (w d : ℕ) (cubes : List ℕ) (from to m : ℕ) → d < w → to * w ≤ length cubes → from ≤ m → m ≤ to
    → HasAll cubes w d from m 48 → HasAll cubes w d m to 49
    → IsWhole (w - (d + 1)) (rows w (d + 1) cubes from (m - from)) → IsWhole (w - (d + 1)) (rows w (d + 1) cubes m (to - m)) → IsWhole (w - d) (rows w d cubes from (to - from))
halves_whole w d cubes from to m dw long fm mt zeros ones g h =
    let more : d + 1 ≡ suc d = add-one d in
    let middle : from + (m - from) ≡ m = omega arith in
    let sum : (m - from) + (to - m) ≡ to - from = omega arith in
    let end : from + ((m - from) + (to - m)) ≡ to = omega arith in
    let G : ℕ → Type 0 = λ z. IsWhole (w - z) (rows w z cubes from (m - from)) in
    let H : ℕ → Type 0 = λ z. IsWhole (w - z) (rows w z cubes m (to - m)) in
    let J : ℕ → Type 0 = λ z. IsWhole (w - suc d) (rows w (suc d) cubes z (to - m)) in
    let L : ℕ → Type 0 = λ z. z * w ≤ length cubes in
    let S : ℕ → Type 0 = λ z. IsWhole (w - d) (rows w d cubes from z) in
    subst S sum (whole_from_halves w d cubes from (m - from) (to - m) dw (subst L (sym end) long)
    (λ i a b. zeros i a (omega arith)) (λ i a b. ones i (omega arith) (omega arith)) (subst G more g) (subst J (sym middle) (subst H more h)))

pub end_whole : (w d : ℕ) (cubes : List ℕ) (from to : ℕ) → d ≡ w → IsTrue (eqb (to - from) 1) ↔ IsWhole (w - d) (rows w d cubes from (to - from))
end_whole w d cubes from to e =
    let P : ℕ → Type 0 = λ z. IsTrue (eqb (to - from) 1) ↔ IsWhole (w - z) (rows w z cubes from (to - from)) in
    let none : w - w ≡ 0 = omega arith in
    let Q : ℕ → Type 0 = λ z. IsTrue (eqb (to - from) 1) ↔ IsWhole z (rows w w cubes from (to - from)) in
    let o = one_whole w cubes from (to - from) in
    subst P (sym e) (subst Q (sym none) (λ h. o.1 (eqb-true (to - from) 1 h), λ h. eq-eqb (to - from) 1 (o.0 h)))

pub long_enough : (w to n : ℕ) (cubes : List ℕ) → to ≤ n → length cubes ≡ n * w → to * w ≤ length cubes
long_enough w to n cubes h e = let a = more_rows w to n h in omega (arith, a, e)

pub from_true : {b : Bool} → b ≡ true → IsTrue b
from_true h = h

pub from_false : ¬ IsTrue false
from_false h = cc

pub not_from_false : {b : Bool} {P : Type 0} → IsTrue b ↔ P → b ≡ false → ¬ P
not_from_false h f p = let t = h.1 p in cc
