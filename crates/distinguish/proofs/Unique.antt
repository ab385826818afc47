-- Ordered lists with the same words are one list.
use Rattle.std.proofs.Common.{◌≡◌, ◌≢◌, ◌<◌, ℕ, suc, List, [], ◌∷◌, refl, sym, ◌∙◌, ap, subst, arith, inl, inr, true, All}
use Rattle.std.specs.Prelude.{AllPairs, Any, Contains}
use Rattle.std.proofs.lemmas.Bool.{true≢false}
use Rattle.std.proofs.lemmas.List.Elements.{All-contains}
use Rattle.forms.specs.Word.{Word}
use Rattle.forms.specs.Shortlex.{comes_before}
use Rattle.forms.proofs.ShortlexLemmas.{before-not_itself, before-total}
use Rattle.diagrams.proofs.Firsts.{Contains-head, Contains-tail, Contains-cons_cases}
use Rattle.automata.proofs.Order.{before-once}
use Rattle.automata.specs.Moves.{Moves, mark_after}
use Rattle.distinguish.specs.Telling.{IsLeastDistinguishing, IsLeastForSome, TellingListIsUnique}
use Rattle.distinguish.proofs.Transport.{list_same}

abbrev IsOrdered : List Word → Type 0
IsOrdered = AllPairs (λ u v. comes_before u v ≡ true)

order-tail : (u : Word) (us : List Word) → IsOrdered (u ∷ us) → IsOrdered us
order-tail u us o i j d h k = o (suc i) (suc j) d (omega (arith, h)) (omega (arith, k))

-- the first word comes before each other one
order-head : (u : Word) (us : List Word) → IsOrdered (u ∷ us) → (w : Word) → Contains us w → comes_before u w ≡ true
order-head u us o w c = ap (comes_before u) (sym c.2) ∙ o 0 (suc c.0) w (omega arith) (omega (arith, c.1))

abbrev AreAmong : List Word → List Word → Type 0
AreAmong us vs = (w : Word) → Contains us w → Contains vs w

same_heads : (u v : Word) (us vs : List Word) → IsOrdered (u ∷ us) → IsOrdered (v ∷ vs) → AreAmong (u ∷ us) (v ∷ vs) → AreAmong (v ∷ vs) (u ∷ us) → u ≡ v
same_heads u v us vs o q f g =
    elim (Contains-cons_cases v u vs (f u (Contains-head u us))) [
      | inl e ↦ sym e
      | inr c ↦ elim (Contains-cons_cases u v us (g v (Contains-head v vs))) [
        | inl e ↦ e
        | inr d ↦ absurd (before-once u v (order-head u us o v d) (order-head v vs q u c))
      ]
    ]

-- a word of the rest is in the other rest
among-rest : (u v : Word) (us vs : List Word) → IsOrdered (u ∷ us) → u ≡ v → AreAmong (u ∷ us) (v ∷ vs) → AreAmong us vs
among-rest u v us vs o e f w c =
    elim (Contains-cons_cases v w vs (f w (Contains-tail u w us c))) [
      | inl q ↦ absurd (true≢false (sym (order-head u us o w c) ∙ ap (λ z. comes_before z w) (e ∙ q) ∙ before-not_itself w))
      | inr d ↦ d
    ]

-- ordered lists with the same words are one
pub one_list : (us vs : List Word) → IsOrdered us → IsOrdered vs → AreAmong us vs → AreAmong vs us → us ≡ vs
one_list [] [] o q f g = refl
one_list [] (v ∷ vs) o q f g = let c = g v (Contains-head v vs) in absurd (omega (arith, c.1))
one_list (u ∷ us) [] o q f g = let c = f u (Contains-head u us) in absurd (omega (arith, c.1))
one_list (u ∷ us) (v ∷ vs) o q f g =
    let e = same_heads u v us vs o q f g in
    let r : us ≡ vs = one_list us vs (order-tail u us o) (order-tail v vs q) (among-rest u v us vs o e f) (among-rest v u vs us q (sym e) g) in
    λ d. e d ∷ r d

-- two locations have one least word that tells them apart
pub one_least : (p : ℕ) (m : Moves) (i j : ℕ) (u v : Word) → IsLeastDistinguishing p m i j u → IsLeastDistinguishing p m i j v → u ≡ v
one_least p m i j u v a b =
    elim (before-total u v) [
      | inl e ↦ e
      | inr (inl h) ↦ absurd (a.differ (b.least u a.over h))
      | inr (inr h) ↦ absurd (b.differ (a.least v b.over h))
    ]

among : (p : ℕ) (m : Moves) (us vs : List Word) → All (IsLeastForSome p m) us
    → ((i j : ℕ) → i < m.size → j < m.size → i ≢ j → Any (IsLeastDistinguishing p m i j) vs) → AreAmong us vs
among p m us vs needed whole w c =
    let n = All-contains (IsLeastForSome p m) us w needed c in
    let a = whole n.one n.other n.one_within n.other_within (λ e. n.least.differ (ap (λ z. mark_after m z w) e)) in
    let e : a.1 ≡ w = one_least p m n.one n.other a.1 w a.4 n.least in
    subst (Contains vs) e (a.0, a.2, a.3)

-- telling lists have the same words
pub telling_list_is_unique : TellingListIsUnique
telling_list_is_unique p m n words others c e a b =
    let t = list_same p m n c e words a in
    one_list words others t.order b.order (among p n words others t.needed b.whole) (among p n others words b.needed t.whole)
