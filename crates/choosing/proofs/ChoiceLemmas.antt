-- Choices that are numbered, and the step from cut rows to choices.
use Rattle.std.proofs.Common.{◌≡◌, ◌<◌, ◌≤◌, ◌+◌, ◌++◌, ℕ, zero, suc, List, [], ◌∷◌, Bool, true, Option, Some, None, refl, sym, ◌∙◌, ap, subst, arith, inl, inr, length, length-append, true≢false, eqb, if◌then◌else◌}
use Rattle.std.specs.Prelude.{slice_get, slice_index}
use Rattle.std.specs.Option.{option_eq}
use Rattle.std.specs.List.{list_any}
use Rattle.std.proofs.lemmas.List.{get_or_append_left, get_or_at}
use Rattle.std.proofs.lemmas.Option.{none-some}
use Rattle.std.proofs.lemmas.Bool.{cases_Bool, cases_lt, and_parts, and_from, eqb-true, eq-eqb, or_left, or_right}
use Rattle.indexmap.specs.IndexSet.{insert_key}
use Rattle.diagrams.proofs.Table.{get-push_old, get-push_cases}
use Rattle.choosing.specs.declared.choice.Mark.{Mark}
use Rattle.choosing.specs.declared.choice.Mark.TheVariants.{Goal, Win, Pending, Lost, Held, LostIn}
use Rattle.choosing.specs.declared.choice.Chosen.{Chosen}
use Rattle.choosing.specs.contracts.choice.MarkPartialEq.TheImpl as mark_eq
use Rattle.choosing.specs.contracts.choice.ChosenPartialEq.TheImpl as chosen_eq
use Rattle.choosing.specs.Choices.{AreDistinct, AreNumbered}

abbrev same_mark : Mark → Mark → Bool
same_mark = (mark_eq.ghosts).eq

abbrev same_chosen : Chosen → Chosen → Bool
same_chosen = (chosen_eq.ghosts).eq

-- whether two choices are the same
abbrev pub same_choice : Option Chosen → Option Chosen → Bool
same_choice = option_eq same_chosen

-- marks that are the same are equal
mark_true : (x y : Mark) → same_mark x y ≡ true → x ≡ y
mark_true Goal Goal e = refl
mark_true (Win m) (Win n) e = ap Win (eqb-true m n e)
mark_true (Pending m) (Pending n) e = ap Pending (eqb-true m n e)
mark_true Lost Lost e = refl
mark_true Held Held e = refl
mark_true (LostIn m) (LostIn n) e = ap LostIn (eqb-true m n e)
mark_true x y e = absurd (cc)

mark_same : (x : Mark) → same_mark x x ≡ true
mark_same Goal = refl
mark_same (Win n) = eq-eqb n n refl
mark_same (Pending n) = eq-eqb n n refl
mark_same Lost = refl
mark_same Held = refl
mark_same (LostIn n) = eq-eqb n n refl

-- choices that are the same are equal
pub choice_true : (x y : Option Chosen) → same_choice x y ≡ true → x ≡ y
choice_true None None e = refl
choice_true (Some x) (Some y) e =
    let p = and_parts (same_mark x.mark y.mark) (eqb x.output y.output) e in
    let mark : x.mark ≡ y.mark = mark_true x.mark y.mark p.0 in
    let output : x.output ≡ y.output = eqb-true x.output y.output p.1 in
    ap Some (λ d. record { mark = mark d; output = output d })
choice_true None (Some y) e = absurd (cc)
choice_true (Some x) None e = absurd (cc)

choice_same : (x : Option Chosen) → same_choice x x ≡ true
choice_same None = refl
choice_same (Some x) = and_from (same_mark x.mark x.mark) (eqb x.output x.output) (mark_same x.mark) (eq-eqb x.output x.output refl)

any-at : (p : Option Chosen → Bool) (ks : List (Option Chosen)) (j : ℕ) (k : Option Chosen) → slice_get ks j ≡ Some k → p k ≡ true → list_any p ks ≡ true
any-at p [] j k e h = absurd (cc)
any-at p (x ∷ ks) zero k e h = let q : x ≡ k = cc in or_left _ _ (ap p q ∙ h)
any-at p (x ∷ ks) (suc j) k e h = or_right (p x) _ (any-at p ks j k e h)

-- what an insertion leaves: different choices, each where it was
pub record IsInserted (old new : List (Option Chosen)) : Type 0 where
  pub distinct : AreDistinct new
  pub stays : (j : ℕ) (c : Option Chosen) → slice_get old j ≡ Some c → slice_get new j ≡ Some c
  pub more : length new ≤ length old + 1

pub inserted : (old new : List (Option Chosen)) (key : Option Chosen) → AreDistinct old → new ≡ insert_key same_choice old key → IsInserted old new
inserted old new key once e =
    elim (cases_Bool (list_any (same_choice key) old)) [
      | inl t ↦
          let same : new ≡ old = e ∙ ap (λ b. if b then old else old ++ key ∷ []) t in
          subst (λ z. IsInserted old z) (sym same) (record { distinct = once; stays = λ j c q. q; more = omega arith })
      | inr f ↦
          let more : new ≡ old ++ key ∷ [] = e ∙ ap (λ b. if b then old else old ++ key ∷ []) f in
          let absent : (j : ℕ) → slice_get old j ≡ Some key → ⊥ = λ j q. true≢false (sym (any-at (same_choice key) old j key q (choice_same key)) ∙ f) in
          subst (λ z. IsInserted old z) (sym more) (record {
            distinct = λ i j c p q. elim (get-push_cases old key c i p) [
              | inl h ↦ elim (get-push_cases old key c j q) [
                | inl l ↦ once i j c h l
                | inr l ↦ absurd (absent i (h ∙ ap Some l.1))
              ]
              | inr h ↦ elim (get-push_cases old key c j q) [
                | inl l ↦ absurd (absent j (l ∙ ap Some h.1))
                | inr l ↦ h.0 ∙ sym l.0
              ]
            ];
            stays = λ j c q. get-push_old old key c j q;
            more = rw (length-append old (key ∷ [])) (omega arith);
          })
    ]

-- no choice is numbered
pub numbered_none : (choices distinct : List (Option Chosen)) → distinct ≡ [] → AreNumbered choices [] distinct 0
numbered_none choices distinct e = record {
  size = refl;
  choice = λ k h. absurd (omega (arith, h));
  once = subst AreDistinct (sym e) (λ i j c p q. absurd (none-some c p));
}

some-at : (xs : List (Option Chosen)) (k : ℕ) → k < length xs → (c : Option Chosen) × (slice_get xs k ≡ Some c)
some-at [] k h = absurd (omega (arith, h))
some-at (x ∷ xs) zero h = (x, refl)
some-at (x ∷ xs) (suc k) h = some-at xs k (omega (arith, h))

-- one more is
pub numbered_more : (choices : List (Option Chosen)) (numbers : List ℕ) (old new : List (Option Chosen)) (count number : ℕ) (c : Option Chosen)
    → count < length choices → slice_get choices count ≡ Some c → slice_get new number ≡ Some c → IsInserted old new
    → AreNumbered choices numbers old count → AreNumbered choices (numbers ++ number ∷ []) new (count + 1)
numbered_more choices numbers old new count number c within at here ins are = record {
  size = let e = are.size in length-append numbers (number ∷ []) ∙ omega (arith, e);
  choice = λ k h. elim (cases_lt k count) [
    | inl l ↦
        let e = are.size in
        let some = some-at choices k (omega (arith, l, within)) in
        ap (slice_get new) (get_or_append_left numbers (number ∷ []) 0 k (omega (arith, l, e))) ∙ ins.stays (slice_index numbers k) some.0 (are.choice k l ∙ some.1) ∙ sym some.1
    | inr l ↦
        let same : k ≡ count = omega (arith, h, l) in
        let e = are.size in
        ap (slice_get new) (ap (slice_index (numbers ++ number ∷ [])) same ∙ get_or_at numbers number [] 0 count e) ∙ here ∙ sym (ap (slice_get choices) same ∙ at)
  ];
  once = ins.distinct;
}
