-- The lines of a whole list: each stands for some assignment, and alone for those that it stands for.
use Rattle.std.proofs.Common.{◌≡◌, ◌<◌, ◌≤◌, ◌^◌, ◌+◌, ◌-◌, ◌*◌, ◌==◌, ◌&&◌, ◌⊎◌, inl, inr, ℕ, zero, suc, List, [], ◌∷◌, ◌++◌, map, take, drop, length, Bool, true, false, Option, Some, None, refl, sym, ap, subst, ◌∙◌, arith}
use Rattle.std.specs.Prelude.{if◌then◌else◌}
use Rattle.std.specs.Int.{bit_at}
use Rattle.std.proofs.lemmas.Bool.{cases_lt, cases_eq}
use Rattle.certificate_rules.specs.Cubes.{Entry, character_agrees, agrees, field_at, led, IsWhole}
use Rattle.certificate_text.specs.Lines.{rows}
use Rattle.certificate_text.specs.Exact.{IsLine, AreCharacters, IsExact}
use Rattle.certificate_text.proofs.AskedLemmas.{bit_low, bit_high, double}
use Rattle.certificate_text.proofs.CubeLemmas.{whole_wide, agrees-high, field-led_low, field-led_high, field-split_low, field-split_high}

-- a line of lines that begin with one character
line_led : {A : Type 0} (c : ℕ) (es : List (Entry A)) (e : Entry A) → IsLine e (map (led c) es) → (r : Entry A) × IsLine r es × (led c r ≡ e)
line_led c [] e h = absurd h
line_led c (x ∷ xs) e (inl s) = (x, inl refl, s)
line_led c (x ∷ xs) e (inr g) = let t = line_led c xs e g in (t.0, inr t.1, t.2)

-- a line of one list before another
line_append : {A : Type 0} (xs ys : List (Entry A)) (e : Entry A) → IsLine e (xs ++ ys) → IsLine e xs ⊎ IsLine e ys
line_append [] ys e h = inr h
line_append (x ∷ xs) ys e (inl s) = inl (inl s)
line_append (x ∷ xs) ys e (inr g) = elim (line_append xs ys e g) [ inl h ↦ inl (inr h) | inr h ↦ inr h ]

one_exact : {A : Type 0} (v : A) (e : Entry A) → IsLine e (record { cube = []; value = v } ∷ []) → IsExact 0 (record { cube = []; value = v } ∷ []) e
one_exact {A} v e (inl s) =
    let P : Entry A → Type 0 = λ z. IsExact 0 (record { cube = []; value = v } ∷ []) z in
    subst P s (record { characters = tt; wide = refl; some = (0, omega arith, refl); field = λ a l h. refl })
one_exact v e (inr b) = absurd b

free_exact : {A : Type 0} (k : ℕ) (rest : List (Entry A)) (r : Entry A) → IsWhole k rest → IsExact k rest r → IsExact (suc k) (map (led 45) rest) (led 45 r)
free_exact {A} k rest r whole x =
    let w = whole_wide k rest whole in
    record {
      characters = (inl refl, x.characters);
      wide = ap suc x.wide;
      some = (x.some.0, (let l : x.some.0 < 2 ^ k = x.some.1 in omega (arith, double k)), x.some.2);
      field = λ a l h. elim (cases_lt a (2 ^ k)) [
        | inl low ↦ field-led_low 45 k rest a w low refl ∙ x.field a low h
        | inr high ↦
            let b = a - 2 ^ k in
            let f : 2 ^ k + b ≡ a = omega arith in
            let lt : b < 2 ^ k = omega (arith, double k) in
            let same : agrees r.cube (2 ^ k + b) ≡ agrees r.cube b = agrees-high r.cube k b (let s = x.wide in omega arith) in
            let g : agrees r.cube b ≡ true = sym same ∙ ap (λ (z : ℕ). agrees r.cube z) f ∙ h in
            ap (λ (z : ℕ). field_at (map (led 45) rest) z) (sym f) ∙ field-led_high 45 k rest b w lt refl ∙ x.field b lt g
      ];
    }

-- a cube that begins with `0` or with `1`, at an assignment of either half
pub zero_low : (k a : ℕ) (cube : List ℕ) → length cube ≡ k → a < 2 ^ k → agrees (48 ∷ cube) a ≡ agrees cube a
zero_low k a cube w l = let low : bit_at a (length cube) ≡ 0 = ap (λ (z : ℕ). bit_at a z) w ∙ bit_low k a l in ap (λ (z : ℕ). character_agrees 48 (z == 1) && agrees cube a) low

pub zero_high : (k a : ℕ) (cube : List ℕ) → length cube ≡ k → a < 2 ^ k → agrees (48 ∷ cube) (2 ^ k + a) ≡ false
zero_high k a cube w l =
    let high : bit_at (2 ^ k + a) (length cube) ≡ 1 = ap (λ (z : ℕ). bit_at (2 ^ k + a) z) w ∙ bit_high k a l in
    ap (λ (z : ℕ). character_agrees 48 (z == 1) && agrees cube (2 ^ k + a)) high

pub one_low : (k a : ℕ) (cube : List ℕ) → length cube ≡ k → a < 2 ^ k → agrees (49 ∷ cube) a ≡ false
one_low k a cube w l = let low : bit_at a (length cube) ≡ 0 = ap (λ (z : ℕ). bit_at a z) w ∙ bit_low k a l in ap (λ (z : ℕ). character_agrees 49 (z == 1) && agrees cube a) low

pub one_high : (k a : ℕ) (cube : List ℕ) → length cube ≡ k → a < 2 ^ k → agrees (49 ∷ cube) (2 ^ k + a) ≡ agrees cube a
one_high k a cube w l =
    let high : bit_at (2 ^ k + a) (length cube) ≡ 1 = ap (λ (z : ℕ). bit_at (2 ^ k + a) z) w ∙ bit_high k a l in
    ap (λ (z : ℕ). character_agrees 49 (z == 1) && agrees cube (2 ^ k + a)) high ∙ agrees-high cube k a (omega arith)

low_exact : {A : Type 0} (k : ℕ) (lo hi : List (Entry A)) (r : Entry A) → IsWhole k lo → IsExact k lo r → IsExact (suc k) (map (led 48) lo ++ map (led 49) hi) (led 48 r)
low_exact k lo hi r whole x = record {
  characters = (inr (inl refl), x.characters);
  wide = ap suc x.wide;
  some = (x.some.0, (let l : x.some.0 < 2 ^ k = x.some.1 in omega (arith, double k)), zero_low k x.some.0 r.cube x.wide x.some.1 ∙ x.some.2);
  field = λ a l h. elim (cases_lt a (2 ^ k)) [
    | inl low ↦ field-split_low k lo hi a whole low ∙ x.field a low (sym (zero_low k a r.cube x.wide low) ∙ h)
    | inr high ↦
        let b = a - 2 ^ k in
        let f : 2 ^ k + b ≡ a = omega arith in
        let lt : b < 2 ^ k = omega (arith, double k) in
        let not : false ≡ true = sym (zero_high k b r.cube x.wide lt) ∙ ap (λ (z : ℕ). agrees (48 ∷ r.cube) z) f ∙ h in
        cc
  ];
}

high_exact : {A : Type 0} (k : ℕ) (lo hi : List (Entry A)) (r : Entry A) → IsWhole k lo → IsWhole k hi → IsExact k hi r → IsExact (suc k) (map (led 48) lo ++ map (led 49) hi) (led 49 r)
high_exact k lo hi r below whole x = record {
  characters = (inr (inr refl), x.characters);
  wide = ap suc x.wide;
  some = (2 ^ k + x.some.0, (let l : x.some.0 < 2 ^ k = x.some.1 in omega (arith, double k)), one_high k x.some.0 r.cube x.wide x.some.1 ∙ x.some.2);
  field = λ a l h. elim (cases_lt a (2 ^ k)) [
    | inl low ↦ let not : false ≡ true = sym (one_low k a r.cube x.wide low) ∙ h in cc
    | inr high ↦
        let b = a - 2 ^ k in
        let f : 2 ^ k + b ≡ a = omega arith in
        let lt : b < 2 ^ k = omega (arith, double k) in
        let g : agrees r.cube b ≡ true = sym (one_high k b r.cube x.wide lt) ∙ ap (λ (z : ℕ). agrees (49 ∷ r.cube) z) f ∙ h in
        ap (λ (z : ℕ). field_at (map (led 48) lo ++ map (led 49) hi) z) (sym f) ∙ field-split_high k lo hi b below whole lt ∙ x.field b lt g
  ];
}

-- Each line of a whole list is exact.
pub whole_exact : {A : Type 0} (k : ℕ) (es : List (Entry A)) (e : Entry A) → IsWhole k es → IsLine e es → IsExact k es e
whole_exact {A} zero es e h l =
    let P : List (Entry A) → Type 0 = λ z. IsLine e z → IsExact 0 z e in
    let one : P (record { cube = []; value = h.0 } ∷ []) = λ g. one_exact h.0 e g in
    (subst P (sym h.1) one) l
whole_exact {A} (suc k) es e (inl h) l =
    let P : List (Entry A) → Type 0 = λ z. IsLine e z → IsExact (suc k) z e in
    let Q : Entry A → Type 0 = λ z. IsExact (suc k) (map (led 45) h.0) z in
    let free : P (map (led 45) h.0) = λ g. let r = line_led 45 h.0 e g in subst Q r.2 (free_exact k h.0 r.0 h.2 (whole_exact k h.0 r.0 h.2 r.1)) in
    (subst P (sym h.1) free) l
whole_exact {A} (suc k) es e (inr h) l =
    let P : List (Entry A) → Type 0 = λ z. IsLine e z → IsExact (suc k) z e in
    let Q : Entry A → Type 0 = λ z. IsExact (suc k) (map (led 48) h.0 ++ map (led 49) h.1) z in
    let both : P (map (led 48) h.0 ++ map (led 49) h.1) = λ g. elim (line_append (map (led 48) h.0) (map (led 49) h.1) e g) [
      | inl low ↦ let r = line_led 48 h.0 e low in subst Q r.2 (low_exact k h.0 h.1 r.0 h.3 (whole_exact k h.0 r.0 h.3 r.1))
      | inr high ↦ let r = line_led 49 h.1 e high in subst Q r.2 (high_exact k h.0 h.1 r.0 h.3 h.4 (whole_exact k h.1 r.0 h.4 r.1))
    ] in
    (subst P (sym h.2) both) l

-- a line of rows
pub line_of_rows : (w d : ℕ) (cubes : List ℕ) (from n i : ℕ) → from ≤ i → i < from + n → IsLine (record { cube = drop d (take w (drop (i * w) cubes)); value = i }) (rows w d cubes from n)
line_of_rows w d cubes from zero i a b = absurd (omega arith)
line_of_rows w d cubes from (suc n) i a b = elim (cases_eq i from) [
  | inl same ↦ inl (ap (λ (z : ℕ). record { cube = drop d (take w (drop (z * w) cubes)); value = z }) (sym same))
  | inr other ↦ inr (line_of_rows w d cubes (suc from) n i (omega arith) (omega arith))
]

field_by : (b : Bool) (w d : ℕ) (cubes : List ℕ) (from n a i : ℕ) → agrees (drop d (take w (drop (from * w) cubes))) a ≡ b
    → (field_at (rows w d cubes (suc from) n) a ≡ Some i → (suc from ≤ i) × (i < suc from + n) × (agrees (drop d (take w (drop (i * w) cubes))) a ≡ true))
    → (if b then Some from else field_at (rows w d cubes (suc from) n) a) ≡ Some i
    → (from ≤ i) × (i < from + suc n) × (agrees (drop d (take w (drop (i * w) cubes))) a ≡ true)
field_by true w d cubes from n a i e later h =
    let same : from ≡ i = cc in
    let P : ℕ → Type 0 = λ z. agrees (drop d (take w (drop (z * w) cubes))) a ≡ true in
    (omega arith, omega arith, subst P same e)
field_by false w d cubes from n a i e later h =
    let r = later h in
    let low : suc from ≤ i = r.0 in
    let high : i < suc from + n = r.1 in
    (omega arith, omega arith, r.2)

-- the line that gives an assignment its field stands for it
pub field_of_rows : (w d : ℕ) (cubes : List ℕ) (from n a i : ℕ) → field_at (rows w d cubes from n) a ≡ Some i
    → (from ≤ i) × (i < from + n) × (agrees (drop d (take w (drop (i * w) cubes))) a ≡ true)
field_of_rows w d cubes from zero a i h = cc
field_of_rows w d cubes from (suc n) a i h = field_by (agrees (drop d (take w (drop (from * w) cubes))) a) w d cubes from n a i refl (field_of_rows w d cubes (suc from) n a i) h
