-- One level of a question over lines.
use Rattle.std.proofs.Common.{◌≡◌, ◌<◌, ◌≤◌, ◌+◌, ◌-◌, ◌*◌, ℕ, zero, suc, List, [], ◌∷◌, take, drop, length, get_or, Bool, true, false, Option, Some, refl, sym, ap, subst, ◌∙◌, arith, length-drop, add-one}
use Rattle.std.specs.Prelude.{slice_get}
use Rattle.std.proofs.lemmas.Option.{slice_get-get_or}
use Rattle.std.proofs.Math.Seq.{drop-length, drop-cons}
use Rattle.certificate_rules.specs.Cubes.{Entry, field_at, IsWhole}
use Rattle.certificate_rules.specs.Certificate.{joined}
use Rattle.certificate_text.specs.Asked as kinds
use Rattle.certificate_text.specs.Asked.{asked, joined_by}
use Rattle.certificate_text.specs.Lines.{rows, IsFreeAt, SplitsAt, level_as, passes_of, aimed, targeted, settles, is_true_level}
use Rattle.certificate_text.specs.declared.marks.Question.{Question}
use Rattle.certificate_text.specs.declared.marks.Level.{Level}
use Rattle.certificate_text.specs.declared.marks.Level.TheVariants as levels

-- the answer to a question from one depth on, over lines without so many characters
abbrev pub answer : Question → List (Option ℕ) → List kinds.Level → ℕ → List ℕ → ℕ → ℕ → Bool
answer q targets ls d cubes from to = asked (drop d ls) (targeted q targets (rows (length ls) d cubes from (to - from)))

-- the answer of lines that begin with `-` is that of the rests
asked_below : (q : Question) (targets : List (Option ℕ)) (ls : List kinds.Level) (d : ℕ) (cubes : List ℕ) (from to : ℕ)
    → d < length ls → IsFreeAt (length ls) d cubes from to → answer q targets ls (d + 1) cubes from to ≡ answer q targets ls d cubes from to
asked_below q targets ls d cubes from to h f =
    let more : d + 1 ≡ suc d = add-one d in
    ap (λ (z : ℕ). answer q targets ls z cubes from to) more
    ∙ sym (ap (λ (z : List kinds.Level). asked z (targeted q targets (rows (length ls) d cubes from (to - from)))) (drop-cons ls d kinds.Each h)
    ∙ f.asks (λ o. passes_of q (aimed targets o)) (get_or ls d kinds.Each) (drop (suc d) ls) (length-drop (suc d) ls))

-- the answer of lines that split is that of both halves
asked_both : (q : Question) (targets : List (Option ℕ)) (ls : List kinds.Level) (d : ℕ) (cubes : List ℕ) (from to m : ℕ)
    → d < length ls → SplitsAt (length ls) d cubes from to m
    → joined_by (get_or ls d kinds.Each) (answer q targets ls (d + 1) cubes from m) (answer q targets ls (d + 1) cubes m to) ≡ answer q targets ls d cubes from to
asked_both q targets ls d cubes from to m h s =
    let more : d + 1 ≡ suc d = add-one d in
    ap (λ (z : ℕ). joined_by (get_or ls d kinds.Each) (answer q targets ls z cubes from m) (answer q targets ls z cubes m to)) more
    ∙ sym (ap (λ (z : List kinds.Level). asked z (targeted q targets (rows (length ls) d cubes from (to - from)))) (drop-cons ls d kinds.Each h)
    ∙ s.asks (λ o. passes_of q (aimed targets o)) (get_or ls d kinds.Each) (drop (suc d) ls) (length-drop (suc d) ls))

-- the lines below are whole
pub whole_below : (w v d : ℕ) (cubes : List ℕ) (from to : ℕ) → v ≡ w → IsWhole (v - suc d) (rows v (suc d) cubes from (to - from)) → IsWhole (w - (d + 1)) (rows w (d + 1) cubes from (to - from))
whole_below w v d cubes from to e h =
    let more : d + 1 ≡ suc d = add-one d in
    let P : ℕ → Type 0 = λ z. IsWhole (w - z) (rows w z cubes from (to - from)) in
    let V : ℕ → Type 0 = λ z. IsWhole (z - suc d) (rows z (suc d) cubes from (to - from)) in
    subst P (sym more) (subst V e h)

-- what halves give by the level
joined_true : (l : Level) (lo hi : Bool) → is_true_level l ≡ true → joined_by (level_as l) lo hi ≡ hi
joined_true levels.True lo hi h = refl
joined_true levels.Each lo hi h = cc
joined_true levels.Any lo hi h = cc
joined_true levels.False lo hi h = cc

joined_settled : (l : Level) (lo hi : Bool) → settles l lo ≡ true → joined_by (level_as l) lo hi ≡ lo
joined_settled levels.Each false hi h = refl
joined_settled levels.Each true hi h = cc
joined_settled levels.Any true hi h = refl
joined_settled levels.Any false hi h = cc
joined_settled levels.False lo hi h = refl
joined_settled levels.True lo hi h = cc

joined_open : (l : Level) (lo hi : Bool) → settles l lo ≡ false → joined_by (level_as l) lo hi ≡ hi
joined_open levels.Each true hi h = refl
joined_open levels.Each false hi h = cc
joined_open levels.Any false hi h = refl
joined_open levels.Any true hi h = cc
joined_open levels.False lo hi h = cc
joined_open levels.True lo hi h = refl

-- where lines begin with `-`, what the rests answer
pub answer_free : (q : Question) (targets : List (Option ℕ)) (ls : List kinds.Level) (d : ℕ) (cubes : List ℕ) (from to w : ℕ) (r : Bool)
    → w ≡ length ls → d < length ls → IsFreeAt w d cubes from to → r ≡ answer q targets ls (d + 1) cubes from to → r ≡ answer q targets ls d cubes from to
answer_free q targets ls d cubes from to w r e h f g =
    let F : ℕ → Type 0 = λ z. IsFreeAt z d cubes from to in
    g ∙ asked_below q targets ls d cubes from to h (subst F e f)

-- where lines split, what both halves answer by the level
answer_by : (q : Question) (targets : List (Option ℕ)) (ls : List kinds.Level) (d : ℕ) (cubes : List ℕ) (from to m w : ℕ) (l : Level)
    → w ≡ length ls → d < length ls → SplitsAt w d cubes from to m → level_as l ≡ get_or ls d kinds.Each
    → joined_by (level_as l) (answer q targets ls (d + 1) cubes from m) (answer q targets ls (d + 1) cubes m to) ≡ answer q targets ls d cubes from to
answer_by q targets ls d cubes from to m w l e h s k =
    let S : ℕ → Type 0 = λ z. SplitsAt z d cubes from to m in
    ap (λ (z : kinds.Level). joined_by z (answer q targets ls (d + 1) cubes from m) (answer q targets ls (d + 1) cubes m to)) k
    ∙ asked_both q targets ls d cubes from to m h (subst S e s)

pub answer_true : (q : Question) (targets : List (Option ℕ)) (ls : List kinds.Level) (d : ℕ) (cubes : List ℕ) (from to m w : ℕ) (l : Level) (b r : Bool)
    → w ≡ length ls → d < length ls → SplitsAt w d cubes from to m → level_as l ≡ get_or ls d kinds.Each
    → b ≡ is_true_level l → b ≡ true → r ≡ answer q targets ls (d + 1) cubes m to → r ≡ answer q targets ls d cubes from to
answer_true q targets ls d cubes from to m w l b r e h s k is on high =
    high
    ∙ sym (joined_true l (answer q targets ls (d + 1) cubes from m) (answer q targets ls (d + 1) cubes m to) (sym is ∙ on))
    ∙ answer_by q targets ls d cubes from to m w l e h s k

pub answer_settled : (q : Question) (targets : List (Option ℕ)) (ls : List kinds.Level) (d : ℕ) (cubes : List ℕ) (from to m w : ℕ) (l : Level) (b r : Bool)
    → w ≡ length ls → d < length ls → SplitsAt w d cubes from to m → level_as l ≡ get_or ls d kinds.Each
    → b ≡ settles l r → b ≡ true → r ≡ answer q targets ls (d + 1) cubes from m → r ≡ answer q targets ls d cubes from to
answer_settled q targets ls d cubes from to m w l b r e h s k is on low =
    sym (joined_settled l r (answer q targets ls (d + 1) cubes m to) (sym is ∙ on))
    ∙ ap (λ (z : Bool). joined_by (level_as l) z (answer q targets ls (d + 1) cubes m to)) low
    ∙ answer_by q targets ls d cubes from to m w l e h s k

pub answer_open : (q : Question) (targets : List (Option ℕ)) (ls : List kinds.Level) (d : ℕ) (cubes : List ℕ) (from to m w : ℕ) (l : Level) (b lo r : Bool)
    → w ≡ length ls → d < length ls → SplitsAt w d cubes from to m → level_as l ≡ get_or ls d kinds.Each
    → b ≡ settles l lo → b ≡ false → lo ≡ answer q targets ls (d + 1) cubes from m → r ≡ answer q targets ls (d + 1) cubes m to → r ≡ answer q targets ls d cubes from to
answer_open q targets ls d cubes from to m w l b lo r e h s k is off low high =
    high
    ∙ sym (joined_open l lo (answer q targets ls (d + 1) cubes m to) (sym is ∙ off))
    ∙ ap (λ (z : Bool). joined_by (level_as l) z (answer q targets ls (d + 1) cubes m to)) low
    ∙ answer_by q targets ls d cubes from to m w l e h s k

line_of : (w : ℕ) (cubes : List ℕ) (from n : ℕ) → 0 < n → IsWhole 0 (rows w w cubes from n) → field_at (rows w w cubes from n) 0 ≡ Some from
line_of w cubes from zero h whole = absurd (omega arith)
line_of w cubes from (suc n) h whole =
    let e : record { cube = drop w (take w (drop (from * w) cubes)); value = from } ≡ record { cube = []; value = whole.0 } = cc in
    let v : from ≡ whole.0 = ap (λ (z : Entry ℕ). z.value) e in
    ap (λ (z : List (Entry ℕ)). field_at z 0) whole.1 ∙ ap (λ (z : ℕ). Some z) (sym v)

-- at the end of the cubes the answer is that of the one line
pub answer_end : (q : Question) (targets : List (Option ℕ)) (ls : List kinds.Level) (d : ℕ) (cubes : List ℕ) (from to : ℕ) (e : Option ℕ)
    → d ≡ length ls → from < to → to ≤ length targets → IsWhole (length ls - d) (rows (length ls) d cubes from (to - from))
    → passes_of q (get_or targets from e) ≡ answer q targets ls d cubes from to
answer_end q targets ls d cubes from to e h ft within whole =
    let W : ℕ → Type 0 = λ z. IsWhole (length ls - z) (rows (length ls) z cubes from (to - from)) in
    let none : length ls - length ls ≡ 0 = omega arith in
    let V : ℕ → Type 0 = λ z. IsWhole z (rows (length ls) (length ls) cubes from (to - from)) in
    let one = line_of (length ls) cubes from (to - from) (omega arith) (subst V none (subst W h whole)) in
    let there : slice_get targets from ≡ Some (get_or targets from e) = slice_get-get_or targets from e (omega arith) in
    ap (λ (z : Option (Option ℕ)). passes_of q (joined z)) (sym there)
    ∙ ap (λ (z : Option ℕ). passes_of q (aimed targets z)) (sym one)
    ∙ sym (ap (λ (z : List kinds.Level). asked z (targeted q targets (rows (length ls) (length ls) cubes from (to - from)))) (drop-length ls))
    ∙ ap (λ (z : ℕ). answer q targets ls z cubes from to) (sym h)
