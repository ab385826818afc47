-- Where strategies lead along histories.
use Rattle.std.proofs.Common.{◌≡◌, ◌<◌, ◌≤◌, ℕ, zero, suc, [], ◌∷◌, ◌++◌, refl, sym, ◌∙◌, ap, arith, inl, inr, true, Option, Some, None}
use Rattle.std.specs.Prelude.{IsSome}
use Rattle.std.proofs.lemmas.Bool.{cases_order, true≢false, false≢true}
use Rattle.std.proofs.lemmas.Option.{none-some, same_Some}
use Rattle.forms.specs.Word.{Word}
use Rattle.forms.specs.Shortlex.{comes_before}
use Rattle.forms.proofs.ShortlexLemmas.{before-neither, before-trans, before-not_itself}
use Rattle.game.specs.Histories.{Aims, IsHistory}
use Rattle.printed_strategy.specs.Strategy.{Strategy, step, location_from, location_after}
use Rattle.printed_strategy.specs.Printed.{HasLocations}

-- the location of an option, 0 where there is none
abbrev pub place : Option ℕ → ℕ
place None = 0
place (Some at) = at

pub place-some : (o : Option ℕ) → IsSome o → o ≡ Some (place o)
place-some None h = absurd (false≢true h)
place-some (Some at) h = refl

pub is_some-by : (o : Option ℕ) (at : ℕ) → o ≡ Some at → IsSome o
is_some-by None at e = absurd (none-some at e)
is_some-by (Some k) at e = refl

pub location_from-nil : (t : Strategy) (o : Option ℕ) → location_from t o [] ≡ o
location_from-nil t None = refl
location_from-nil t (Some at) = refl

-- one more round leads on by a step
pub location_from-push : (t : Strategy) (o : Option ℕ) (h : Word) (a at : ℕ) → location_from t o h ≡ Some at → location_from t o (h ++ a ∷ []) ≡ step t at a
location_from-push t None h a at e = absurd (none-some at e)
location_from-push t (Some k) [] a at e = location_from-nil t (step t k a) ∙ ap (λ z. step t z a) (same_Some k at e)
location_from-push t (Some k) (c ∷ h) a at e = location_from-push t (step t k c) h a at e

pub location_after-push : (t : Strategy) (h : Word) (a at : ℕ) → location_after t h ≡ Some at → location_after t (h ++ a ∷ []) ≡ step t at a
location_after-push t h a at e = location_from-push t (Some 0) h a at e

pub before-once : (u v : Word) → comes_before u v ≡ true → comes_before v u ≡ true → ⊥
before-once u v h k = true≢false (sym (before-trans u v u h k) ∙ before-not_itself u)

-- a rising function is nowhere below its argument
pub no_less : (f : ℕ → ℕ) (n : ℕ) → ((i j : ℕ) → i < j → j < n → f i < f j) → (i : ℕ) → i < n → i ≤ f i
no_less f n r zero h = omega arith
no_less f n r (suc i) h =
    let below = no_less f n r i (omega (arith, h)) in
    let up = r i (suc i) (omega arith) h in
    omega (arith, below, up)

pub same_size : (x y : ℕ) → ((i : ℕ) → i < x → i < y) → ((i : ℕ) → i < y → i < x) → x ≡ y
same_size x y f g =
    elim (cases_order x y) [
      | inl e ↦ e
      | inr r ↦ elim r [
        | inl h ↦ absurd (omega (arith, g x h))
        | inr h ↦ absurd (omega (arith, f y h))
      ]
    ]

-- histories with one location in one strategy have one in the other
pub carry : (s : Aims) (t u : Strategy) → HasLocations s t → HasLocations s u → (v w : Word) → IsHistory s v → IsHistory s w
    → IsSome (location_after t v) → IsSome (location_after t w) → location_after t v ≡ location_after t w → location_after u v ≡ location_after u w
carry s t u a b v w o p i j e =
    let lv = (a.live v o).0 i in
    let lw = (a.live w p).0 j in
    (b.same v w o p lv lw).1 ((a.same v w o p lv lw).0 e)

-- the location in u of the least history of a location in t
abbrev across : (s : Aims) (t u : Strategy) → HasLocations s t → ℕ → ℕ
across s t u a i = place (location_after u (a.word i))

across-leads : (s : Aims) (t u : Strategy) (a : HasLocations s t) → HasLocations s u → (i : ℕ) → i < t.size
    → location_after u (a.word i) ≡ Some (across s t u a i)
across-leads s t u a b i h =
    let x = a.least i h in
    let live = (a.live (a.word i) x.over).0 (is_some-by _ i x.leads) in
    place-some (location_after u (a.word i)) ((b.live (a.word i) x.over).1 live)

across-within : (s : Aims) (t u : Strategy) (a : HasLocations s t) → HasLocations s u → (i : ℕ) → i < t.size → across s t u a i < u.size
across-within s t u a b i h = b.within (a.word i) _ (a.least i h).over (across-leads s t u a b i h)

-- the least histories are the same
same_word : (s : Aims) (t u : Strategy) (a : HasLocations s t) (b : HasLocations s u) (i : ℕ) → i < t.size → a.word i ≡ b.word (across s t u a i)
same_word s t u a b i h =
    let x = a.least i h in
    let j = across s t u a i in
    let leads = across-leads s t u a b i h in
    let y = b.least j (across-within s t u a b i h) in
    let back : location_after t (b.word j) ≡ Some i =
    carry s u t b a (b.word j) (a.word i) y.over x.over (is_some-by _ j y.leads) (is_some-by _ j leads) (y.leads ∙ sym leads) ∙ x.leads in
    before-neither (a.word i) (b.word j) (y.least (a.word i) x.over leads) (x.least (b.word j) y.over back)

rises : (s : Aims) (t u : Strategy) (a : HasLocations s t) (b : HasLocations s u) (i j : ℕ) → i < j → j < t.size → across s t u a i < across s t u a j
rises s t u a b i j h k =
    let i2 : i < t.size = omega (arith, h, k) in
    let before = a.order i j h k in
    let x = same_word s t u a b i i2 in
    let y = same_word s t u a b j k in
    let within = across-within s t u a b i i2 in
    elim (cases_order (across s t u a i) (across s t u a j)) [
      | inl e ↦ absurd (before-once (a.word i) (a.word j) before (rw (x ∙ ap b.word e ∙ sym y) (rw (x ∙ ap b.word e ∙ sym y) at before)))
      | inr r ↦ elim r [
        | inl q ↦ q
        | inr q ↦ absurd (before-once (a.word i) (a.word j) before (rw (x, y) (b.order _ _ q within)))
      ]
    ]

pub across-same : (s : Aims) (t u : Strategy) (a : HasLocations s t) (b : HasLocations s u) (i : ℕ) → i < t.size → across s t u a i ≡ i
across-same s t u a b i h =
    let x = a.least i h in
    let j = across s t u a i in
    let within = across-within s t u a b i h in
    let up = no_less (across s t u a) t.size (rises s t u a b) i h in
    let down = no_less (across s u t b) u.size (rises s u t b a) j within in
    let back : across s u t b j ≡ i = ap (λ w. place (location_after t w)) (sym (same_word s t u a b i h)) ∙ ap place x.leads in
    omega (arith, up, rw back at down)

-- each location of one is one of the other
pub no_more : (s : Aims) (t u : Strategy) → HasLocations s t → HasLocations s u → (i : ℕ) → i < t.size → i < u.size
no_more s t u a b i h = rw (across-same s t u a b i h) at (across-within s t u a b i h)

-- the least history of a location leads there in both
pub both_lead : (s : Aims) (t u : Strategy) (a : HasLocations s t) → HasLocations s u → (i : ℕ) → i < t.size → location_after u (a.word i) ≡ Some i
both_lead s t u a b i h = across-leads s t u a b i h ∙ ap Some (across-same s t u a b i h)

one_place-by : (s : Aims) (t u : Strategy) → HasLocations s t → HasLocations s u → (h : Word) → IsHistory s h → (o q : Option ℕ) → location_after t h ≡ o → location_after u h ≡ q
    → location_after t h ≡ location_after u h
one_place-by s t u a b h over None None e f = e ∙ sym f
one_place-by s t u a b h over None (Some k) e f =
    let live = (b.live h over).0 (is_some-by _ k f) in
    let at = place-some (location_after t h) ((a.live h over).1 live) in
    absurd (none-some _ (sym e ∙ at))
one_place-by s t u a b h over (Some i) q e f =
    let l = a.within h i over e in
    let x = a.least i l in
    e ∙ sym (carry s t u a b h (a.word i) over x.over (is_some-by _ i e) (is_some-by _ i x.leads) (e ∙ sym x.leads) ∙ both_lead s t u a b i l)

-- a history has one location in both
pub one_place : (s : Aims) (t u : Strategy) → HasLocations s t → HasLocations s u → (h : Word) → IsHistory s h → location_after t h ≡ location_after u h
one_place s t u a b h over = one_place-by s t u a b h over (location_after t h) (location_after u h) refl refl
