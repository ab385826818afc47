-- Lists of predecessors.
use Rattle.std.proofs.Common.{◌≡◌, ◌<◌, ◌+◌, ◌++◌, ◌⊎◌, ℕ, zero, suc, Bool, true, false, List, [], ◌∷◌, refl, sym, ◌∙◌, ap, subst, arith, inl, inr, length, replicate, map}
use Rattle.std.specs.Prelude.{Contains, slice_index, slice_index_or, slice_set}
use Rattle.std.proofs.lemmas.Bool.{cases_eq, cases_lt, false≢true}
use Rattle.std.proofs.lemmas.List.{get_or-set_same, get_or-set_other, length-set, length-map, length-replicate, map-set, get_or-map}
use Rattle.diagrams.specs.Tree.{Assignment}
use Rattle.diagrams.specs.declared.top.Id.{Id}
use Rattle.diagrams.specs.Eval.{Diagrams, eval, letter_truth}
use Rattle.diagrams.specs.Terminals.{AreTerminals}
use Rattle.automata.specs.Table.{Table, size_of, row_of, IsRow}
use Rattle.automata.proofs.FoundLists.{contains_place}
use Rattle.automata.proofs.Letters.{spelt, spelt-less, spelt-truth}
use Rattle.linked_blocks.specs.Lists.{holds, list_of}
use Rattle.linked_blocks.proofs.LinkLemmas.{holds-head, holds-cases, holds-append, holds-left, holds-right}
use Rattle.class_laws.proofs.ShiftAll.{holds-place}
use Rattle.looking.specs.Predecessors.{HavePredecessors, IsAdded}

-- a list that contains a number holds it
pub contained-held : (xs : List ℕ) (x : ℕ) → Contains xs x → holds xs x ≡ true
contained-held xs x c = let p = contains_place xs x c in subst (λ z. holds xs z ≡ true) p.2 (holds-place xs p.0 p.1)

-- what a list holds stands at some place of it
pub held-place : (xs : List ℕ) (x : ℕ) → holds xs x ≡ true → (k : ℕ) × (k < length xs) × (slice_index xs k ≡ x)
held-place [] x h = absurd (false≢true h)
held-place (y ∷ xs) x h = elim (holds-cases y x xs h) [
  | inl q ↦ (0, omega arith, q)
  | inr t ↦ let p = held-place xs x t in (suc p.0, omega (arith, p.1), p.2)
]

-- the terminals of a row are the locations to which it leads, by letters
pub terminals-held : (s : Diagrams) (size : ℕ) (f : Id) (xs : List ℕ) → IsRow s size f → AreTerminals s f xs → (a : Assignment) → holds xs (eval s f a) ≡ true
terminals-held s size f xs r t a =
    let letter = spelt a s.props in
    let same : eval s f a ≡ eval s f (letter_truth s.props letter) = r.letters a (letter_truth s.props letter) (λ v l. sym (spelt-truth a s.props v l)) in
    ap (holds xs) same ∙ contained-held xs (eval s f (letter_truth s.props letter)) (t.all letter (spelt-less a s.props))

-- and they are before the size
pub terminals-within : (s : Diagrams) (size : ℕ) (f : Id) (xs : List ℕ) → IsRow s size f → AreTerminals s f xs → (k : ℕ) → k < length xs → slice_index xs k < size
terminals-within s size f xs r t k h = let l = t.each k h in rw (← l.1.value) (r.targets (letter_truth s.props l.0))

-- one location at the end of one list
pub added_at : (lists : List (List ℕ)) (target at : ℕ) → target < length lists → IsAdded lists (slice_set lists target (list_of lists target ++ at ∷ [])) (target ∷ []) at
added_at lists target at h = record { long = length-set lists target grown; kept = kept; added = added; only = only }
  where
    grown : List ℕ
    grown = list_of lists target ++ at ∷ []

    new : List (List ℕ)
    new = slice_set lists target grown

    same : list_of new target ≡ grown
    same = get_or-set_same lists target grown [] h

    kept : (x y : ℕ) → holds (list_of lists x) y ≡ true → holds (list_of new x) y ≡ true
    kept x y i = elim (cases_eq x target) [
      | inl q ↦ subst (λ z. holds (list_of new z) y ≡ true) (sym q)
          (ap (λ l. holds l y) same ∙ holds-left (list_of lists target) (at ∷ []) y (subst (λ z. holds (list_of lists z) y ≡ true) q i))
      | inr d ↦ ap (λ l. holds l y) (get_or-set_other lists target x grown [] d) ∙ i
    ]

    added : (x : ℕ) → holds (target ∷ []) x ≡ true → holds (list_of new x) at ≡ true
    added x i = elim (holds-cases target x [] i) [
      | inl q ↦ subst (λ z. holds (list_of new z) at ≡ true) q (ap (λ l. holds l at) same ∙ holds-right (list_of lists target) (at ∷ []) at (holds-head at []))
      | inr q ↦ absurd (false≢true q)
    ]

    only : (x y : ℕ) → holds (list_of new x) y ≡ true → (holds (list_of lists x) y ≡ true) ⊎ ((y ≡ at) × (holds (target ∷ []) x ≡ true))
    only x y i = elim (cases_eq x target) [
      | inr d ↦ inl (sym (ap (λ l. holds l y) (get_or-set_other lists target x grown [] d)) ∙ i)
      | inl q ↦
          let g : holds grown y ≡ true = sym (ap (λ l. holds l y) same) ∙ subst (λ z. holds (list_of new z) y ≡ true) q i in
          elim (holds-append (list_of lists target) (at ∷ []) y g) [
            | inl u ↦ inl (subst (λ z. holds (list_of lists z) y ≡ true) (sym q) u)
            | inr u ↦ elim (holds-cases at y [] u) [
              | inl e ↦ inr (sym e, subst (λ z. holds (target ∷ []) z ≡ true) (sym q) (holds-head target []))
              | inr e ↦ absurd (false≢true e)
            ]
          ]
    ]

-- the same where the lists are seen through their items
pub added_to : {X : Type 0} (view : X → List ℕ) (lists : List X) (target at : ℕ) (old new : X) → target < length lists → old ≡ slice_index_or lists target old → view new ≡ view old ++ at ∷ []
    → IsAdded (map view lists) (map view (slice_set lists target new)) (target ∷ []) at
added_to view lists target at old new h e m =
    let was : list_of (map view lists) target ≡ view old = get_or-map view lists target old [] h ∙ ap view (sym e) in
    let now : map view (slice_set lists target new) ≡ slice_set (map view lists) target (list_of (map view lists) target ++ at ∷ []) =
    map-set view lists target new ∙ ap (slice_set (map view lists) target) (m ∙ ap (λ l. l ++ at ∷ []) (sym was)) in
    rw (now) (added_at (map view lists) target at (rw (length-map lists view) h))

-- at no target
pub added_none : (lists : List (List ℕ)) (at : ℕ) → IsAdded lists lists [] at
added_none lists at = record {
  long = refl;
  kept = λ x y i. i;
  added = λ x i. absurd (false≢true i);
  only = λ x y i. inl i;
}

-- at one target more
pub added_more : (old cur new : List (List ℕ)) (done : List ℕ) (target at : ℕ) → IsAdded old cur done at → IsAdded cur new (target ∷ []) at → IsAdded old new (done ++ target ∷ []) at
added_more old cur new done target at a b = record {
  long = b.long ∙ a.long;
  kept = λ x y i. b.kept x y (a.kept x y i);
  added = λ x i. elim (holds-append done (target ∷ []) x i) [
    | inl u ↦ b.kept x at (a.added x u)
    | inr u ↦ b.added x u
  ];
  only = λ x y i. elim (b.only x y i) [
    | inr u ↦ inr (u.0, holds-right done (target ∷ []) x u.1)
    | inl u ↦ elim (a.only x y u) [
      | inl v ↦ inl v
      | inr v ↦ inr (v.0, holds-left done (target ∷ []) x v.1)
    ]
  ];
}

-- the lists have the first so many locations, each at those to which it leads
pub record AreListed (s : Diagrams) (t : Table) (lists : List (List ℕ)) (count : ℕ) : Type 0 where
  pub long : length lists ≡ size_of t
  pub all : (at : ℕ) → at < count → (a : Assignment) → holds (list_of lists (eval s (row_of t at) a)) at ≡ true
  pub led : (target at : ℕ) → holds (list_of lists target) at ≡ true → (at < count) × ((a : Assignment) × (eval s (row_of t at) a ≡ target))

none-replicate : (n x : ℕ) → list_of (replicate n []) x ≡ []
none-replicate zero x = refl
none-replicate (suc n) zero = refl
none-replicate (suc n) (suc x) = none-replicate n x

pub listed_none : (s : Diagrams) (t : Table) (lists : List (List ℕ)) → lists ≡ replicate (size_of t) [] → AreListed s t lists 0
listed_none s t lists e = record {
  long = ap length e ∙ length-replicate (size_of t) [];
  all = λ at h. absurd (omega (arith, h));
  led = λ target at i. absurd (false≢true (sym (ap (λ l. holds l at) (ap (λ z. list_of z target) e ∙ none-replicate (size_of t) target)) ∙ i));
}

-- one location more
pub listed_more : (s : Diagrams) (t : Table) (old new : List (List ℕ)) (count : ℕ) (targets : List ℕ) → AreListed s t old count → IsRow s (size_of t) (row_of t count) → AreTerminals s (row_of t count) targets
    → IsAdded old new targets count → AreListed s t new (count + 1)
listed_more s t old new count targets v r g d = record {
  long = d.long ∙ v.long;
  all = λ at h a. elim (cases_lt at count) [
    | inl l ↦ d.kept (eval s (row_of t at) a) at (v.all at l a)
    | inr l ↦
        let q : count ≡ at = omega (arith, h, l) in
        subst (λ z. holds (list_of new (eval s (row_of t z) a)) z ≡ true) q (d.added (eval s (row_of t count) a) (terminals-held s (size_of t) (row_of t count) targets r g a))
  ];
  led = λ target at i. elim (d.only target at i) [
    | inl u ↦ let w = v.led target at u in (omega (arith, w.0), w.1)
    | inr u ↦
        let p = held-place targets target u.1 in
        let l = g.each p.0 p.1 in
        let q = u.0 in
        let a = letter_truth s.props l.0 in
        (omega (arith, q), (a, ap (λ z. eval s (row_of t z) a) q ∙ l.1.value ∙ p.2))
  ];
}

-- all locations
pub listed_all : (s : Diagrams) (t : Table) (lists : List (List ℕ)) (count : ℕ) → count ≡ size_of t → AreListed s t lists count → HavePredecessors s t lists
listed_all s t lists count e v = record {
  all = λ at h. v.all at (rw (e) h);
  led = λ target at i. (v.led target at i).1;
  within = λ target at i. rw (← e) (v.led target at i).0;
}
