-- Looking at locations again.
use Rattle.std.proofs.Common.{◌≡◌, ◌≢◌, ◌<◌, ◌++◌, ℕ, true, false, List, [], ◌∷◌, refl, sym, ◌∙◌, ap, subst, inl, inr, length}
use Rattle.std.specs.Prelude.{slice_index, slice_set}
use Rattle.std.proofs.lemmas.Bool.{cases_eq, cases_Bool, false≢true}
use Rattle.std.proofs.lemmas.List.{get_or-set_same, get_or-set_other, length-set}
use Rattle.diagrams.specs.declared.top.Id.{Id}
use Rattle.diagrams.specs.Eval.{Diagrams, eval, id_at}
use Rattle.diagrams.specs.Live.{Keeps, Means}
use Rattle.diagrams.specs.Transformed.{item_value}
use Rattle.diagrams.proofs.Meaning.{means_lasts, same_id_by_value}
use Rattle.automata.specs.Table.{Table, size_of, row_of, Fits}
use Rattle.linked_blocks.specs.Lists.{holds, block_in, IsThere, IsOnce, HoldEach}
use Rattle.linked_blocks.proofs.LinkLemmas.{holds-cases, lacks-cons, lacks-append, holds-append, holds-left, holds-right, held-apart}
use Rattle.linked_blocks.proofs.ListLemmas.{once-push}
use Rattle.class_laws.specs.Current.{AreRowsBy, AreCurrent, AreChanges}
use Rattle.class_laws.proofs.Splitting.{look_changes}

-- these locations have been looked at, and those that changed are noted
pub record IsLooking (s n : Diagrams) (t : Table) (numbers : List ℕ) (old rows : List Id) (seen changed : List ℕ) : Type 0 where
  pub long : length rows ≡ length old
  pub right : (x : ℕ) → holds seen x ≡ true → Means n (id_at rows x) (item_value s numbers (row_of t x))
  pub same : (x : ℕ) → holds changed x ≡ false → id_at rows x ≡ id_at old x
  pub differ : (x : ℕ) → holds changed x ≡ true → id_at rows x ≢ id_at old x
  pub known : (x : ℕ) → holds changed x ≡ true → holds seen x ≡ true
  pub once : IsOnce changed

pub looking_none : (s : Diagrams) (t : Table) (numbers : List ℕ) (old : List Id) → IsLooking s s t numbers old old [] []
looking_none s t numbers old = record {
  long = refl;
  right = λ x h. absurd (false≢true h);
  same = λ x h. refl;
  differ = λ x h. absurd (false≢true h);
  known = λ x h. h;
  once = tt;
}

-- one more, with the row that it had
pub looking_same : (s n m : Diagrams) (t : Table) (numbers : List ℕ) (old rows : List Id) (seen changed : List ℕ) (at : ℕ) (id : Id) → Keeps n m → IsLooking s n t numbers old rows seen changed
    → Means m id (item_value s numbers (row_of t at)) → id ≡ id_at rows at → IsLooking s m t numbers old rows (seen ++ at ∷ []) changed
looking_same s n m t numbers old rows seen changed at id k v r e = record {
  long = v.long;
  right = λ x h. elim (holds-append seen (at ∷ []) x h) [
    | inl i ↦ means_lasts n m k (id_at rows x) _ (v.right x i)
    | inr i ↦ elim (holds-cases at x [] i) [
      | inl q ↦ subst (λ z. Means m (id_at rows z) (item_value s numbers (row_of t z))) q (subst (λ z. Means m z (item_value s numbers (row_of t at))) e r)
      | inr q ↦ absurd (false≢true q)
    ]
  ];
  same = v.same;
  differ = v.differ;
  known = λ x h. holds-left seen (at ∷ []) x (v.known x h);
  once = v.once;
}

-- one more, with another row
pub looking_changed : (s n m : Diagrams) (t : Table) (numbers : List ℕ) (old rows : List Id) (seen changed : List ℕ) (at : ℕ) (id : Id) → Keeps n m → IsLooking s n t numbers old rows seen changed
    → at < length rows → Means m id (item_value s numbers (row_of t at)) → id ≢ id_at rows at
    → IsLooking s m t numbers old (slice_set rows at id) (seen ++ at ∷ []) (changed ++ at ∷ [])
looking_changed s n m t numbers old rows seen changed at id k v l r e = record {
  long = length-set rows at id ∙ v.long;
  right = λ x h. elim (cases_eq x at) [
    | inl q ↦ subst (λ z. Means m (id_at (slice_set rows at id) z) (item_value s numbers (row_of t z))) (sym q)
        (subst (λ z. Means m z (item_value s numbers (row_of t at))) (sym (get_or-set_same rows at id (record { 0 = 0 }) l)) r)
    | inr d ↦ subst (λ z. Means m z (item_value s numbers (row_of t x))) (sym (get_or-set_other rows at x id (record { 0 = 0 }) d))
        (means_lasts n m k (id_at rows x) _ (v.right x (elim (holds-append seen (at ∷ []) x h) [
          | inl i ↦ i
          | inr i ↦ elim (holds-cases at x [] i) [ inl q ↦ absurd (d (sym q)) | inr q ↦ absurd (false≢true q) ]
        ])))
  ];
  same = λ x h.
      let p = lacks-append changed (at ∷ []) x h in
      get_or-set_other rows at x id (record { 0 = 0 }) (λ z. (lacks-cons at x [] p.1).0 (sym z)) ∙ v.same x p.0;
  differ = λ x h. elim (holds-append changed (at ∷ []) x h) [
    | inl i ↦ λ z. v.differ x i (sym (get_or-set_other rows at x id (record { 0 = 0 }) (held-apart changed x at i new)) ∙ z)
    | inr i ↦ elim (holds-cases at x [] i) [
      | inl q ↦ λ z. e (sym (get_or-set_same rows at id (record { 0 = 0 }) l) ∙ ap (id_at (slice_set rows at id)) q ∙ z ∙ ap (id_at old) (sym q) ∙ sym (v.same at new))
      | inr q ↦ absurd (false≢true q)
    ]
  ];
  known = λ x h. elim (holds-append changed (at ∷ []) x h) [
    | inl i ↦ holds-left seen (at ∷ []) x (v.known x i)
    | inr i ↦ holds-right seen (at ∷ []) x i
  ];
  once = once-push changed at v.once new;
}
  where
    new : holds changed at ≡ false
    new = elim (cases_Bool (holds changed at)) [
      | inr f ↦ f
      | inl i ↦
          let w = means_lasts n m k (id_at rows at) _ (v.right at (v.known at i)) in
          absurd (e (same_id_by_value m k.now id (id_at rows at) r.live w.live (λ a. r.value a ∙ sym (w.value a))))
    ]

-- at the end all rows are those by the blocks now, and the noted ones are changes
module _ (s n : Diagrams) (t : Table) (numbers : List ℕ) (lists : List (List ℕ)) (old rows : List Id) (touched changed : List ℕ) (k : Keeps s n) (f : Fits s t)
    (e : HoldEach (size_of t) lists) (b : (x : ℕ) → IsThere lists x → slice_index numbers x ≡ block_in lists x)
    (c : AreCurrent s t lists old touched) (v : IsLooking s n t numbers old rows touched changed) where
  pub looked_rows : AreRowsBy s n t (block_in lists) (id_at rows)
  looked_rows at h = elim (cases_Bool (holds touched at)) [
    | inl i ↦ record {
      live = (v.right at i).live;
      value = λ a. (v.right at i).value a ∙ b (eval s (row_of t at) a) (e.there (eval s (row_of t at) a) ((f at h).targets a)).0;
    }
    | inr i ↦
        let g : holds changed at ≡ false = elim (cases_Bool (holds changed at)) [ inr z ↦ z | inl z ↦ absurd (false≢true (sym i ∙ v.known at z)) ] in
        subst (λ z. Means n z (λ a. block_in lists (eval s (row_of t at) a))) (sym (v.same at g)) (means_lasts s n k (id_at old at) _ (c.right at h i))
  ]

  pub looked_changes : AreChanges (size_of t) (block_in lists) (id_at rows) changed
  looked_changes = look_changes (size_of t) (block_in lists) (id_at old) (id_at rows) changed c.one (record {
    once = v.once;
    within = λ x h. c.within x (v.known x h);
    differ = v.differ;
    same = λ x l h. v.same x h;
  })
