-- Lines whose cubes stand one after another, and where they split.
use Rattle.std.proofs.Common.{◌≡◌, ◌≢◌, ◌<◌, ◌≤◌, ◌+◌, ◌-◌, ◌*◌, inl, inr, ℕ, zero, suc, List, [], ◌∷◌, ◌++◌, map, take, drop, length, get_or, Option, IsSome, pow_pos, refl, sym, ap, subst, ◌∙◌, arith, get_or-take, get_or-drop, length-drop}
use Rattle.std.specs.Prelude.{slice_index, slice_get}
use Rattle.std.proofs.lemmas.Bool.{cases_lt, cases_eq, cases_order}
use Rattle.std.proofs.Math.Seq.{drop-cons}
use Rattle.certificate_rules.specs.Cubes.{Entry, field_at, led, IsWhole}
use Rattle.certificate_text.specs.Asked.{asked, joined_by}
use Rattle.certificate_text.specs.Lines.{rows, IsFreeAt, SplitsAt}
use Rattle.certificate_text.proofs.CubeLemmas.{asked_free, asked_split, whole_some}

-- one more character dropped
drop-suc : (d : ℕ) (xs : List ℕ) (c : ℕ) (cs : List ℕ) → drop d xs ≡ c ∷ cs → drop (suc d) xs ≡ cs
drop-suc d xs c cs e =
    elim (cases_lt d (length xs)) [
      | inl l ↦ let f : drop d xs ≡ get_or xs d 0 ∷ drop (suc d) xs = drop-cons xs d 0 l in cc
      | inr g ↦ absurd (let k : length (drop d xs) ≡ suc (length cs) = ap length e in omega (arith, k, length-drop d xs))
    ]

-- the character of a cube behind its first d
first_of : (w d : ℕ) (cubes : List ℕ) (c : ℕ) (cs : List ℕ) (i : ℕ) → d < w → drop d (take w (drop (i * w) cubes)) ≡ c ∷ cs → slice_index cubes (i * w + d) ≡ c
first_of w d cubes c cs i dw e =
    let a : get_or (drop d (take w (drop (i * w) cubes))) 0 0 ≡ c = ap (λ (z : List ℕ). get_or z 0 0) e in
    let b : get_or (drop d (take w (drop (i * w) cubes))) 0 0 ≡ get_or (take w (drop (i * w) cubes)) (d + 0) 0 = get_or-drop d (take w (drop (i * w) cubes)) 0 0 in
    let f : d + 0 < w = omega arith in
    let g : get_or (take w (drop (i * w) cubes)) (d + 0) 0 ≡ get_or (drop (i * w) cubes) (d + 0) 0 = get_or-take w (drop (i * w) cubes) (d + 0) 0 f in
    let j : get_or (drop (i * w) cubes) (d + 0) 0 ≡ get_or cubes (i * w + (d + 0)) 0 = get_or-drop (i * w) cubes (d + 0) 0 in
    let l : i * w + (d + 0) ≡ i * w + d = omega arith in
    sym (ap (λ (z : ℕ). get_or cubes z 0) l) ∙ sym j ∙ sym g ∙ sym b ∙ a

-- lines that begin with one character, in front of others
pub record Peeled (w d : ℕ) (cubes : List ℕ) (c from n : ℕ) (front : List (Entry ℕ)) (back : List (Entry ℕ)) : Type 0 where
  pub size : length front ≤ n
  pub rests : rows w (suc d) cubes from (length front) ≡ front
  pub others : rows w d cubes (from + length front) (n - length front) ≡ back
  pub characters : (i : ℕ) → from ≤ i → i < from + length front → slice_index cubes (i * w + d) ≡ c

pub peel : (w d : ℕ) (cubes : List ℕ) (c : ℕ) → d < w → (front back : List (Entry ℕ)) (from n : ℕ)
    → rows w d cubes from n ≡ map (led c) front ++ back → Peeled w d cubes c from n front back
peel w d cubes c dw [] back from n e = record {
  size = omega arith;
  rests = refl;
  others = (let f : from + 0 ≡ from = omega arith in let g : n - 0 ≡ n = omega arith in rw (f, g) e);
  characters = λ i a b. absurd (omega arith);
}
peel w d cubes c dw (x ∷ front) back from zero e = absurd cc
peel w d cubes c dw (x ∷ front) back from (suc n) e =
    let h : record { cube = drop d (take w (drop (from * w) cubes)); value = from } ≡ led c x = cc in
    let here : drop d (take w (drop (from * w) cubes)) ≡ c ∷ x.cube = ap (λ (z : Entry ℕ). z.cube) h in
    let value : from ≡ x.value = ap (λ (z : Entry ℕ). z.value) h in
    let others : rows w d cubes (suc from) n ≡ map (led c) front ++ back = cc in
    let p = peel w d cubes c dw front back (suc from) n others in
    let shorter : drop (suc d) (take w (drop (from * w) cubes)) ≡ x.cube = drop-suc d (take w (drop (from * w) cubes)) c x.cube here in
    let first : slice_index cubes (from * w + d) ≡ c = first_of w d cubes c x.cube from dw here in
    record {
      size = (let l : length front ≤ n = p.size in omega arith);
      rests = ap (λ (z : List ℕ). record { cube = z; value = from } ∷ rows w (suc d) cubes (suc from) (length front)) shorter
          ∙ ap (λ (z : ℕ). record { cube = x.cube; value = z } ∷ rows w (suc d) cubes (suc from) (length front)) value
          ∙ ap (λ (z : List (Entry ℕ)). x ∷ z) p.rests;
      others = (let f : from + suc (length front) ≡ suc from + length front = omega arith in let g : suc n - suc (length front) ≡ n - length front = omega arith in rw (f, g) p.others);
      characters = λ i a b. elim (cases_eq i from) [
        | inl same ↦ rw same first
        | inr other ↦ p.characters i (omega arith) (omega arith)
      ];
    }

-- a whole list has a line
whole_line : (k : ℕ) (es : List (Entry ℕ)) → IsWhole k es → (e : Entry ℕ) × (fs : List (Entry ℕ)) × (es ≡ e ∷ fs)
whole_line k [] h = absurd (let s : IsSome (field_at {A = ℕ} [] 0) = whole_some k [] 0 h (pow_pos k) in cc)
whole_line k (e ∷ es) h = (e, es, refl)

pub append-nil : (es : List (Entry ℕ)) → es ≡ es ++ []
append-nil [] = refl
append-nil (e ∷ es) = ap (λ (z : List (Entry ℕ)). e ∷ z) (append-nil es)

pub rows-none : (w d : ℕ) (cubes : List ℕ) (from n : ℕ) → rows w d cubes from n ≡ [] → n ≡ 0
rows-none w d cubes from zero e = refl
rows-none w d cubes from (suc n) e = cc

free_rest : (w d : ℕ) (cubes : List ℕ) (from to : ℕ) → d < w → (rest : List (Entry ℕ))
    → rows w d cubes from (to - from) ≡ map (led 45) rest → rows w (suc d) cubes from (to - from) ≡ rest
free_rest w d cubes from to dw rest h =
    let n = to - from in
    let p = peel w d cubes 45 dw rest [] from n (h ∙ append-nil (map (led 45) rest)) in
    let all : n - length rest ≡ 0 = rows-none w d cubes (from + length rest) (n - length rest) p.others in
    let size : length rest ≡ n = let l : length rest ≤ n = p.size in omega arith in
    ap (λ (z : ℕ). rows w (suc d) cubes from z) (sym size) ∙ p.rests

free_by : (w d : ℕ) (cubes : List ℕ) (from to : ℕ) → (rest : List (Entry ℕ)) → rows w d cubes from (to - from) ≡ map (led 45) rest
    → rows w (suc d) cubes from (to - from) ≡ rest → IsWhole (w - suc d) rest → IsFreeAt w d cubes from to
free_by w d cubes from to rest h same g =
    let W : List (Entry ℕ) → Type 0 = λ z. IsWhole (w - suc d) z in
    record {
      rest = subst W (sym same) g;
      asks = λ leaf l ls len.
          ap (λ (z : List (Entry ℕ)). asked (l ∷ ls) (λ a. leaf (field_at z a))) h
          ∙ asked_free leaf l ls (w - suc d) rest len g
          ∙ ap (λ (z : List (Entry ℕ)). asked ls (λ a. leaf (field_at z a))) (sym same);
    }

pub first_zero : (w d : ℕ) (cubes : List ℕ) (from to : ℕ) → d < w → (lo hi : List (Entry ℕ))
    → rows w d cubes from (to - from) ≡ map (led 48) lo ++ map (led 49) hi → 0 < length lo → slice_index cubes (from * w + d) ≡ 48
first_zero w d cubes from to dw lo hi h some =
    (peel w d cubes 48 dw lo (map (led 49) hi) from (to - from) h).characters from (omega arith) (omega arith)

pub whole_long : (k : ℕ) (es : List (Entry ℕ)) → IsWhole k es → 0 < length es
whole_long k es h = let some = whole_line k es h in let long : length es ≡ suc (length some.1) = ap length some.2 in omega arith

pub no_zero_is_dash : (x : ℕ) → x ≡ 48 → x ≡ 45 → ⊥
no_zero_is_dash x a b = omega arith

free_from : (w d : ℕ) (cubes : List ℕ) (from to : ℕ) → d < w → from < to → IsWhole (suc (w - suc d)) (rows w d cubes from (to - from))
    → slice_index cubes (from * w + d) ≡ 45 → IsFreeAt w d cubes from to
free_from w d cubes from to dw ft (inl h) c = free_by w d cubes from to h.0 h.1 (free_rest w d cubes from to dw h.0 h.1) h.2
free_from w d cubes from to dw ft (inr h) c =
    absurd (no_zero_is_dash (slice_index cubes (from * w + d)) (first_zero w d cubes from to dw h.0 h.1 h.2 (whole_long (w - suc d) h.0 h.3)) c)

split_from : (w d : ℕ) (cubes : List ℕ) (from to : ℕ) → d < w → from < to → IsWhole (suc (w - suc d)) (rows w d cubes from (to - from))
    → slice_index cubes (from * w + d) ≢ 45 → (m : ℕ) × SplitsAt w d cubes from to m
    × ((i : ℕ) → from ≤ i → i < m → slice_index cubes (i * w + d) ≡ 48) × ((i : ℕ) → m ≤ i → i < to → slice_index cubes (i * w + d) ≡ 49)
split_from w d cubes from to dw ft (inl h) c =
    let p = peel w d cubes 45 dw h.0 [] from (to - from) (h.1 ∙ append-nil (map (led 45) h.0)) in
    let some = whole_line (w - suc d) h.0 h.2 in
    let long : length h.0 ≡ suc (length some.1) = ap length some.2 in
    absurd (c (p.characters from (omega arith) (omega arith)))
split_from w d cubes from to dw ft (inr h) c =
    let k = w - suc d in
    let n = to - from in
    let p = peel w d cubes 48 dw h.0 (map (led 49) h.1) from n h.2 in
    let m = from + length h.0 in
    let r = peel w d cubes 49 dw h.1 [] m (n - length h.0) (p.others ∙ append-nil (map (led 49) h.1)) in
    let all : (n - length h.0) - length h.1 ≡ 0 = rows-none w d cubes (m + length h.1) ((n - length h.0) - length h.1) r.others in
    let first = whole_line k h.0 h.3 in
    let second = whole_line k h.1 h.4 in
    let long : length h.0 ≡ suc (length first.1) = ap length first.2 in
    let longer : length h.1 ≡ suc (length second.1) = ap length second.2 in
    let fits : length h.0 ≤ n = p.size in
    let fits2 : length h.1 ≤ n - length h.0 = r.size in
    let left : m - from ≡ length h.0 = omega arith in
    let right : to - m ≡ length h.1 = omega arith in
    let low : rows w (suc d) cubes from (m - from) ≡ h.0 = ap (λ (z : ℕ). rows w (suc d) cubes from z) left ∙ p.rests in
    let high : rows w (suc d) cubes m (to - m) ≡ h.1 = ap (λ (z : ℕ). rows w (suc d) cubes m z) right ∙ r.rests in
    let W : List (Entry ℕ) → Type 0 = λ z. IsWhole k z in (
      m,
      record {
        above = omega arith;
        below = omega arith;
        low = subst W (sym low) h.3;
        high = subst W (sym high) h.4;
        asks = λ leaf l ls len.
            ap (λ (z : List (Entry ℕ)). asked (l ∷ ls) (λ a. leaf (field_at z a))) h.2
            ∙ asked_split leaf l ls k h.0 h.1 len h.3 h.4
            ∙ ap (λ (z : List (Entry ℕ)). joined_by l (asked ls (λ a. leaf (field_at z a))) (asked ls (λ a. leaf (field_at h.1 a)))) (sym low)
            ∙ ap (λ (z : List (Entry ℕ)). joined_by l (asked ls (λ a. leaf (field_at (rows w (suc d) cubes from (m - from)) a))) (asked ls (λ a. leaf (field_at z a)))) (sym high);
      },
      p.characters,
      λ i a b. r.characters i a (omega arith),
    )

-- the lines of a list that is whole behind its first d characters, where the next is `-`
pub free_at : (w d : ℕ) (cubes : List ℕ) (from to : ℕ) → d < w → from < to → IsWhole (w - d) (rows w d cubes from (to - from))
    → slice_index cubes (from * w + d) ≡ 45 → IsFreeAt w d cubes from to
free_at w d cubes from to dw ft h c =
    let k = w - suc d in
    let e : w - d ≡ suc k = omega arith in
    let W : ℕ → Type 0 = λ z. IsWhole z (rows w d cubes from (to - from)) in
    free_from w d cubes from to dw ft (subst W e h) c

-- and where it is not
pub splits_at : (w d : ℕ) (cubes : List ℕ) (from to : ℕ) → d < w → from < to → IsWhole (w - d) (rows w d cubes from (to - from))
    → slice_index cubes (from * w + d) ≢ 45 → (m : ℕ) × SplitsAt w d cubes from to m
    × ((i : ℕ) → from ≤ i → i < m → slice_index cubes (i * w + d) ≡ 48) × ((i : ℕ) → m ≤ i → i < to → slice_index cubes (i * w + d) ≡ 49)
splits_at w d cubes from to dw ft h c =
    let k = w - suc d in
    let e : w - d ≡ suc k = omega arith in
    let W : ℕ → Type 0 = λ z. IsWhole z (rows w d cubes from (to - from)) in
    split_from w d cubes from to dw ft (subst W e h) c

pub one_and_zero : (x : ℕ) → x ≡ 49 → x ≡ 48 → ⊥
one_and_zero x a b = omega arith

-- where zeros end is where the lines split
pub splits_here : (w d : ℕ) (cubes : List ℕ) (from to r : ℕ) → d < w → from < to → IsWhole (w - d) (rows w d cubes from (to - from))
    → slice_index cubes (from * w + d) ≢ 45 → from ≤ r → r ≤ to
    → ((i : ℕ) → from ≤ i → i < r → slice_index cubes (i * w + d) ≡ 48) → ((i : ℕ) → r ≤ i → i < to → slice_index cubes (i * w + d) ≡ 49)
    → SplitsAt w d cubes from to r
splits_here w d cubes from to r dw ft h c fr rt zeros ones =
    let s = splits_at w d cubes from to dw ft h c in
    let m = s.0 in
    let low : from < m = s.1.above in
    let high : m < to = s.1.below in
    let P : ℕ → Type 0 = λ z. SplitsAt w d cubes from to z in
    elim (cases_order r m) [
      | inl same ↦ subst P (sym same) s.1
      | inr (inl less) ↦ absurd (one_and_zero (slice_index cubes (r * w + d)) (ones r (omega arith) (omega arith)) (s.2 r fr less))
      | inr (inr more) ↦ absurd (one_and_zero (slice_index cubes (m * w + d)) (s.3 m (omega arith) high) (zeros m (omega arith) more))
    ]
