-- What a whole list of cubes gives to assignments.
use Rattle.std.proofs.Common.{◌≡◌, ◌<◌, ◌≤◌, ◌^◌, ◌+◌, ◌-◌, ◌==◌, ◌&&◌, inl, inr, ℕ, zero, suc, List, [], ◌∷◌, ◌++◌, map, length, Bool, true, false, Option, Some, IsSome, refl, sym, ap, subst, ◌∙◌, arith}
use Rattle.std.specs.Prelude.{if◌then◌else◌}
use Rattle.std.specs.Int.{bit_at}
use Rattle.std.proofs.lemmas.Bool.{cases_lt}
use Rattle.certificate_rules.specs.Cubes.{Entry, character_agrees, agrees, field_at, led, IsWhole}
use Rattle.certificate_text.specs.Asked.{Level, joined_by, asked}
use Rattle.certificate_text.proofs.AskedLemmas.{bit_low, bit_high, bit_rest, asked_alike, joined_same, double}

-- each cube has so many characters
pub data AreWide {A : Type 0} : ℕ → List (Entry A) → Type 0 where
  none : {k : ℕ} → AreWide k []
  more : {k : ℕ} {e : Entry A} {es : List (Entry A)} → length e.cube ≡ k → AreWide k es → AreWide k (e ∷ es)

wide-led : {A : Type 0} (c k : ℕ) (es : List (Entry A)) → AreWide k es → AreWide (suc k) (map (led c) es)
wide-led c k [] none = none
wide-led c k (e ∷ es) (more h w) = more (ap suc h) (wide-led c k es w)

wide-append : {A : Type 0} (k : ℕ) (es fs : List (Entry A)) → AreWide k es → AreWide k fs → AreWide k (es ++ fs)
wide-append k [] fs none w = w
wide-append k (e ∷ es) fs (more h v) w = more h (wide-append k es fs v w)

-- the cubes of a whole list have its width
pub whole_wide : {A : Type 0} (k : ℕ) (es : List (Entry A)) → IsWhole k es → AreWide k es
whole_wide {A} zero es h = let P : List (Entry A) → Type 0 = λ z. AreWide 0 z in subst P (sym h.1) (more refl none)
whole_wide {A} (suc k) es (inl h) = let P : List (Entry A) → Type 0 = λ z. AreWide (suc k) z in subst P (sym h.1) (wide-led 45 k h.0 (whole_wide k h.0 h.2))
whole_wide {A} (suc k) es (inr h) =
    let P : List (Entry A) → Type 0 = λ z. AreWide (suc k) z in
    subst P (sym h.2) (wide-append (suc k) (map (led 48) h.0) (map (led 49) h.1) (wide-led 48 k h.0 (whole_wide k h.0 h.3)) (wide-led 49 k h.1 (whole_wide k h.1 h.4)))

-- a cube reads the bits below its width alone
pub agrees-high : (cs : List ℕ) (k a : ℕ) → length cs ≤ k → agrees cs (2 ^ k + a) ≡ agrees cs a
agrees-high [] k a h = refl
agrees-high (c ∷ cs) k a h =
    ap (λ (z : Bool). character_agrees c (bit_at (2 ^ k + a) (length cs) == 1) && z) (agrees-high cs k a (omega arith))
    ∙ ap (λ (z : ℕ). character_agrees c (z == 1) && agrees cs a) (bit_rest k a (length cs) (omega arith))

-- lines with one more character in front, at an assignment that agrees with it or not
pub field-led_low : {A : Type 0} (c k : ℕ) (es : List (Entry A)) (a : ℕ) → AreWide k es → a < 2 ^ k → character_agrees c false ≡ true → field_at (map (led c) es) a ≡ field_at es a
field-led_low {A} c k [] a none h t = refl
field-led_low {A} c k (e ∷ es) a (more w ws) h t =
    let low : bit_at a (length e.cube) ≡ 0 = ap (λ (z : ℕ). bit_at a z) w ∙ bit_low k a h in
    rw (low, t) (ap (λ (z : Option A). if agrees e.cube a then Some e.value else z) (field-led_low c k es a ws h t))

pub field-led_high : {A : Type 0} (c k : ℕ) (es : List (Entry A)) (a : ℕ) → AreWide k es → a < 2 ^ k → character_agrees c true ≡ true → field_at (map (led c) es) (2 ^ k + a) ≡ field_at es a
field-led_high {A} c k [] a none h t = refl
field-led_high {A} c k (e ∷ es) a (more w ws) h t =
    let high : bit_at (2 ^ k + a) (length e.cube) ≡ 1 = ap (λ (z : ℕ). bit_at (2 ^ k + a) z) w ∙ bit_high k a h in
    let same : agrees e.cube (2 ^ k + a) ≡ agrees e.cube a = agrees-high e.cube k a (omega arith) in
    rw (high, t, same) (ap (λ (z : Option A). if agrees e.cube a then Some e.value else z) (field-led_high c k es a ws h t))

-- lines whose first character disagrees are passed over
pub field-led_not_low : {A : Type 0} (c k : ℕ) (es fs : List (Entry A)) (a : ℕ) → AreWide k es → a < 2 ^ k → character_agrees c false ≡ false → field_at (map (led c) es ++ fs) a ≡ field_at fs a
field-led_not_low c k [] fs a none h t = refl
field-led_not_low c k (e ∷ es) fs a (more w ws) h t =
    let low : bit_at a (length e.cube) ≡ 0 = ap (λ (z : ℕ). bit_at a z) w ∙ bit_low k a h in
    rw (low, t) (field-led_not_low c k es fs a ws h t)

pub field-led_not_high : {A : Type 0} (c k : ℕ) (es fs : List (Entry A)) (a : ℕ) → AreWide k es → a < 2 ^ k → character_agrees c true ≡ false → field_at (map (led c) es ++ fs) (2 ^ k + a) ≡ field_at fs (2 ^ k + a)
field-led_not_high c k [] fs a none h t = refl
field-led_not_high c k (e ∷ es) fs a (more w ws) h t =
    let high : bit_at (2 ^ k + a) (length e.cube) ≡ 1 = ap (λ (z : ℕ). bit_at (2 ^ k + a) z) w ∙ bit_high k a h in
    rw (high, t) (field-led_not_high c k es fs a ws h t)

front : {A : Type 0} (b : Bool) (x : A) (o r : Option A) → (IsSome o → r ≡ o) → IsSome (if b then Some x else o) → (if b then Some x else r) ≡ (if b then Some x else o)
front true x o r h s = refl
front false x o r h s = h s

-- a field that is found in front is the field of the whole
pub field-append : {A : Type 0} (es fs : List (Entry A)) (a : ℕ) → IsSome (field_at es a) → field_at (es ++ fs) a ≡ field_at es a
field-append [] fs a h = cc
field-append (e ∷ es) fs a h = front (agrees e.cube a) e.value (field_at es a) (field_at (es ++ fs) a) (field-append es fs a) h

-- A whole list gives a field to each assignment.
pub whole_some : {A : Type 0} (k : ℕ) (es : List (Entry A)) (a : ℕ) → IsWhole k es → a < 2 ^ k → IsSome (field_at es a)
whole_some {A} zero es a h lt = let P : List (Entry A) → Type 0 = λ z. IsSome (field_at z a) in subst P (sym h.1) refl
whole_some {A} (suc k) es a (inl h) lt =
    let P : List (Entry A) → Type 0 = λ z. IsSome (field_at z a) in
    let Q : Option A → Type 0 = λ z. IsSome z in
    let w = whole_wide k h.0 h.2 in
    subst P (sym h.1) (elim (cases_lt a (2 ^ k)) [
      | inl l ↦ subst Q (sym (field-led_low 45 k h.0 a w l refl)) (whole_some k h.0 a h.2 l)
      | inr g ↦
          let b = a - 2 ^ k in
          let f : 2 ^ k + b ≡ a = omega arith in
          let l : b < 2 ^ k = omega (arith, double k) in
          let R : ℕ → Type 0 = λ z. IsSome (field_at (map (led 45) h.0) z) in
          subst R f (subst Q (sym (field-led_high 45 k h.0 b w l refl)) (whole_some k h.0 b h.2 l))
    ])
whole_some {A} (suc k) es a (inr h) lt =
    let P : List (Entry A) → Type 0 = λ z. IsSome (field_at z a) in
    let Q : Option A → Type 0 = λ z. IsSome z in
    let v = whole_wide k h.0 h.3 in
    let w = whole_wide k h.1 h.4 in
    subst P (sym h.2) (elim (cases_lt a (2 ^ k)) [
      | inl l ↦
          let e = field-led_low 48 k h.0 a v l refl in
          let s : IsSome (field_at (map (led 48) h.0) a) = subst Q (sym e) (whole_some k h.0 a h.3 l) in
          subst Q (sym (field-append (map (led 48) h.0) (map (led 49) h.1) a s)) s
      | inr g ↦
          let b = a - 2 ^ k in
          let f : 2 ^ k + b ≡ a = omega arith in
          let l : b < 2 ^ k = omega (arith, double k) in
          let R : ℕ → Type 0 = λ z. IsSome (field_at (map (led 48) h.0 ++ map (led 49) h.1) z) in
          subst R f (subst Q (sym (field-led_not_high 48 k h.0 (map (led 49) h.1) b v l refl ∙ field-led_high 49 k h.1 b w l refl)) (whole_some k h.1 b h.4 l))
    ])

-- the fields of a split list
pub field-split_low : {A : Type 0} (k : ℕ) (lo hi : List (Entry A)) (a : ℕ) → IsWhole k lo → a < 2 ^ k → field_at (map (led 48) lo ++ map (led 49) hi) a ≡ field_at lo a
field-split_low {A} k lo hi a h l =
    let Q : Option A → Type 0 = λ z. IsSome z in
    let e = field-led_low 48 k lo a (whole_wide k lo h) l refl in
    field-append (map (led 48) lo) (map (led 49) hi) a (subst Q (sym e) (whole_some k lo a h l)) ∙ e

pub field-split_high : {A : Type 0} (k : ℕ) (lo hi : List (Entry A)) (a : ℕ) → IsWhole k lo → IsWhole k hi → a < 2 ^ k → field_at (map (led 48) lo ++ map (led 49) hi) (2 ^ k + a) ≡ field_at hi a
field-split_high k lo hi a h g l = field-led_not_high 48 k lo (map (led 49) hi) a (whole_wide k lo h) l refl ∙ field-led_high 49 k hi a (whole_wide k hi g) l refl

-- asking a list whose cubes begin with `-` is asking the rests
pub asked_free : {A : Type 0} (leaf : Option A → Bool) (l : Level) (ls : List Level) (k : ℕ) (rest : List (Entry A)) → length ls ≡ k → IsWhole k rest
    → asked (l ∷ ls) (λ a. leaf (field_at (map (led 45) rest) a)) ≡ asked ls (λ a. leaf (field_at rest a))
asked_free {A} leaf l ls k rest e h =
    let w = whole_wide k rest h in
    let lo = asked_alike ls (λ a. leaf (field_at (map (led 45) rest) a)) (λ a. leaf (field_at rest a))
    (λ a lt. ap leaf (field-led_low 45 k rest a w (subst (λ (n : ℕ). a < 2 ^ n) e lt) refl)) in
    let hi = asked_alike ls (λ a. leaf (field_at (map (led 45) rest) (2 ^ length ls + a))) (λ a. leaf (field_at rest a))
    (λ a lt. ap (λ (n : ℕ). leaf (field_at (map (led 45) rest) (2 ^ n + a))) e ∙ ap leaf (field-led_high 45 k rest a w (subst (λ (n : ℕ). a < 2 ^ n) e lt) refl)) in
    ap (λ (z : Bool). joined_by l z (asked ls (λ a. leaf (field_at (map (led 45) rest) (2 ^ length ls + a))))) lo
    ∙ ap (λ (z : Bool). joined_by l (asked ls (λ a. leaf (field_at rest a))) z) hi
    ∙ joined_same l (asked ls (λ a. leaf (field_at rest a)))

-- asking a list that is split is asking both parts
pub asked_split : {A : Type 0} (leaf : Option A → Bool) (l : Level) (ls : List Level) (k : ℕ) (lo hi : List (Entry A)) → length ls ≡ k → IsWhole k lo → IsWhole k hi
    → asked (l ∷ ls) (λ a. leaf (field_at (map (led 48) lo ++ map (led 49) hi) a)) ≡ joined_by l (asked ls (λ a. leaf (field_at lo a))) (asked ls (λ a. leaf (field_at hi a)))
asked_split {A} leaf l ls k lo hi e g h =
    let both = map (led 48) lo ++ map (led 49) hi in
    let low = asked_alike ls (λ a. leaf (field_at both a)) (λ a. leaf (field_at lo a))
    (λ a lt. ap leaf (field-split_low k lo hi a g (subst (λ (n : ℕ). a < 2 ^ n) e lt))) in
    let high = asked_alike ls (λ a. leaf (field_at both (2 ^ length ls + a))) (λ a. leaf (field_at hi a))
    (λ a lt. ap (λ (n : ℕ). leaf (field_at both (2 ^ n + a))) e ∙ ap leaf (field-split_high k lo hi a g h (subst (λ (n : ℕ). a < 2 ^ n) e lt))) in
    ap (λ (z : Bool). joined_by l z (asked ls (λ a. leaf (field_at both (2 ^ length ls + a))))) low
    ∙ ap (λ (z : Bool). joined_by l (asked ls (λ a. leaf (field_at lo a))) z) high
