-- Putting locations into lists by their keys.
use Rattle.std.proofs.Common.{◌≡◌, ◌≢◌, ◌<◌, ◌≤◌, ◌+◌, ◌==◌, ◌⊎◌, ◌++◌, ℕ, zero, suc, Bool, true, false, List, [], ◌∷◌, Some, refl, sym, ◌∙◌, ap, subst, arith, inl, inr, length, length-append, true≢false, if◌then◌else◌}
use Rattle.std.specs.Prelude.{slice_get, slice_set}
use Rattle.std.specs.List.{list_any}
use Rattle.std.proofs.lemmas.Bool.{cases_Bool, cases_eq, and_parts, eqb-true, eq-eqb, ne_eqb, or_left, or_right, false≢true}
use Rattle.std.proofs.lemmas.List.{get_or-set_same, get_or-set_other, length-set, get_or_append_left, get_or_at}
use Rattle.std.proofs.lemmas.Option.{slice_get_within, same_Some}
use Rattle.indexmap.specs.IndexSet.{insert_key}
use Rattle.diagrams.specs.declared.top.Id.{Id}
use Rattle.diagrams.proofs.Table.{get-push_old, get-push_cases}
use Rattle.linked_blocks.specs.Lists.{holds, list_of, IsOnce}
use Rattle.linked_blocks.proofs.LinkLemmas.{holds-cases, holds-append, holds-left, holds-right}
use Rattle.linked_blocks.proofs.ListLemmas.{once-push}
use Rattle.class_laws.specs.Current.{AreChanges, AreGroups}
use Rattle.refinement.specs.declared.groups.Key.{Key}
use Rattle.refinement.specs.Grouped.{same_key, AreGrouped}

-- keys that are the same are equal
pub key_true : (x y : Key) → same_key x y ≡ true → x ≡ y
key_true x y e =
    let p = and_parts _ _ e in
    let block : x.block ≡ y.block = eqb-true x.block y.block p.0 in
    let row : x.row.0 ≡ y.row.0 = eqb-true x.row.0 y.row.0 p.1 in
    λ d. record { block = block d; row = record { 0 = row d } }

key_same : (x : Key) → same_key x x ≡ true
key_same x = grind arith

any-at : (p : Key → Bool) (ks : List Key) (j : ℕ) (k : Key) → slice_get ks j ≡ Some k → p k ≡ true → list_any p ks ≡ true
any-at p [] j k e h = absurd (cc)
any-at p (x ∷ ks) zero k e h = let q : x ≡ k = cc in or_left _ _ (ap p q ∙ h)
any-at p (x ∷ ks) (suc j) k e h = or_right (p x) _ (any-at p ks j k e h)

-- what an insertion leaves: the key where it was, or at the end
IsInserted : List Key → List Key → Key → ℕ → Type 0
IsInserted old new key i = ((new ≡ old) × (slice_get old i ≡ Some key))
    ⊎ ((new ≡ old ++ key ∷ []) × (i ≡ length old) × ((j : ℕ) → slice_get old j ≡ Some key → ⊥))

inserted : (old new : List Key) (key : Key) (i : ℕ) → new ≡ insert_key same_key old key → slice_get new i ≡ Some key → IsInserted old new key i
unfolding IsInserted
inserted old new key i e at =
    elim (cases_Bool (list_any (same_key key) old)) [
      | inl t ↦ let same : new ≡ old = e ∙ ap (λ b. if b then old else old ++ key ∷ []) t in inl (same, ap (λ ks. slice_get ks i) (sym same) ∙ at)
      | inr f ↦
          let more : new ≡ old ++ key ∷ [] = e ∙ ap (λ b. if b then old else old ++ key ∷ []) f in
          let absent : (j : ℕ) → slice_get old j ≡ Some key → ⊥ = λ j q. true≢false (sym (any-at (same_key key) old j key q (key_same key)) ∙ f) in
          let here : slice_get (old ++ key ∷ []) i ≡ Some key = ap (λ ks. slice_get ks i) (sym more) ∙ at in
          inr (
            more,
            elim (get-push_cases old key key i here) [ inl h ↦ absurd (absent i h) | inr h ↦ h.0 ],
            absent,
          )
    ]

push_once : (ks : List Key) (x : Key) → ((a b : ℕ) (k : Key) → slice_get ks a ≡ Some k → slice_get ks b ≡ Some k → a ≡ b)
    → ((j : ℕ) → slice_get ks j ≡ Some x → ⊥) → (a b : ℕ) (k : Key) → slice_get (ks ++ x ∷ []) a ≡ Some k → slice_get (ks ++ x ∷ []) b ≡ Some k → a ≡ b
push_once ks x o n a b k e q =
    elim (get-push_cases ks x k a e) [
      | inl h ↦ elim (get-push_cases ks x k b q) [
        | inl l ↦ o a b k h l
        | inr l ↦ absurd (n a (h ∙ ap Some l.1))
      ]
      | inr h ↦ elim (get-push_cases ks x k b q) [
        | inl l ↦ absurd (n b (l ∙ ap Some h.1))
        | inr l ↦ h.0 ∙ sym l.0
      ]
    ]

-- the list with the number is there, and the others are as they were
record IsMade (old new : List Key) (groups mid : List (List ℕ)) (number : ℕ) : Type 0 where
  within : number < length mid
  long : length mid ≡ length new
  apart : (a b : ℕ) (k : Key) → slice_get new a ≡ Some k → slice_get new b ≡ Some k → a ≡ b
  low : length groups ≤ length mid
  same : (n : ℕ) → n < length groups → list_of mid n ≡ list_of groups n
  place : (n : ℕ) → n < length mid → (n < length groups) ⊎ ((n ≡ number) × (list_of mid n ≡ []))
  lasts : (j : ℕ) (k : Key) → slice_get old j ≡ Some k → slice_get new j ≡ Some k

module _ (block : ℕ → ℕ) (row : ℕ → Id) (seen : List ℕ) (old new : List Key) (groups mid : List (List ℕ)) (at number : ℕ) (key : Key)
    (g : AreGrouped block row seen old groups) (e : new ≡ insert_key same_key old key) (here : slice_get new number ≡ Some key)
    (room : mid ≡ (if number == length groups then groups ++ [] ∷ [] else groups)) where
  made : IsMade old new groups mid number
  unfolding IsInserted
  made = elim (inserted old new key number e here) [
    | inl q ↦
        let l : number < length groups = (let w = slice_get_within old number key q.1 in let s = g.long in omega (arith, w, s)) in
        let m : mid ≡ groups = room ∙ ap (λ b. if b then groups ++ [] ∷ [] else groups) (ne_eqb number (length groups) (λ z. absurd (omega (arith, l, z)))) in
        let s : length mid ≡ length groups = ap length m in
        record {
          within = omega (arith, l, s);
          long = s ∙ g.long ∙ sym (ap length q.0);
          apart = subst (λ ks. (a c : ℕ) (k : Key) → slice_get ks a ≡ Some k → slice_get ks c ≡ Some k → a ≡ c) (sym q.0) g.apart;
          low = omega (arith, s);
          same = λ n h. ap (λ xs. list_of xs n) m;
          place = λ n h. inl (omega (arith, h, s));
          lasts = λ j k z. ap (λ ks. slice_get ks j) q.0 ∙ z;
        }
    | inr q ↦
        let l : number ≡ length groups = q.1 ∙ sym g.long in
        let m : mid ≡ groups ++ [] ∷ [] = room ∙ ap (λ b. if b then groups ++ [] ∷ [] else groups) (eq-eqb number (length groups) l) in
        let s : length mid ≡ length groups + 1 = ap length m ∙ length-append groups ([] ∷ []) in
        record {
          within = omega (arith, l, s);
          long = s ∙ ap (λ z. z + 1) g.long ∙ sym (ap length q.0 ∙ length-append old (key ∷ []));
          apart = subst (λ ks. (a c : ℕ) (k : Key) → slice_get ks a ≡ Some k → slice_get ks c ≡ Some k → a ≡ c) (sym q.0) (push_once old key g.apart q.2);
          low = omega (arith, s);
          same = λ n h. ap (λ xs. list_of xs n) m ∙ get_or_append_left groups ([] ∷ []) [] n h;
          place = λ n h. elim (cases_eq n number) [
            | inl z ↦ inr (z, ap (λ xs. list_of xs n) m ∙ ap (list_of (groups ++ [] ∷ [])) (z ∙ l) ∙ get_or_at groups [] [] [] (length groups) refl)
            | inr z ↦ inl (omega (arith, h, s, z, l))
          ];
          lasts = λ j k z. ap (λ ks. slice_get ks j) q.0 ∙ get-push_old old key k j z;
        }
  ]

  -- the list to which a location goes is there
  pub group_there : number < length mid
  group_there = made.within

  module _ (after : List (List ℕ)) (fresh : holds seen at ≡ false) (is : key ≡ record { block = block at; row = row at })
      (put : after ≡ slice_set mid number (list_of mid number ++ at ∷ [])) where
    long-after : length after ≡ length mid
    long-after = ap length put ∙ length-set mid number (list_of mid number ++ at ∷ [])

    list-here : list_of after number ≡ list_of mid number ++ at ∷ []
    list-here = ap (λ xs. list_of xs number) put ∙ get_or-set_same mid number (list_of mid number ++ at ∷ []) [] made.within

    list-there : (n : ℕ) → n ≢ number → list_of after n ≡ list_of mid n
    list-there n d = ap (λ xs. list_of xs n) put ∙ get_or-set_other mid number n (list_of mid number ++ at ∷ []) [] d

    -- what stands in a list before the location is put there
    was : (n x : ℕ) → n < length mid → holds (list_of mid n) x ≡ true → (n < length groups) × (holds (list_of groups n) x ≡ true)
    was n x h t = elim (made.place n h) [
      | inl l ↦ (l, ap (λ xs. holds xs x) (sym (made.same n l)) ∙ t)
      | inr q ↦ absurd (false≢true (ap (λ xs. holds xs x) (sym q.1) ∙ t))
    ]

    once-mid : (n : ℕ) → n < length mid → IsOnce (list_of mid n)
    once-mid n h = elim (made.place n h) [
      | inl l ↦ subst IsOnce (sym (made.same n l)) (g.once n l)
      | inr q ↦ subst IsOnce (sym q.1) tt
    ]

    lacks : holds (list_of mid number) at ≡ false
    lacks = elim (cases_Bool (holds (list_of mid number) at)) [
      | inl t ↦ let w = was number at made.within t in absurd (false≢true (sym fresh ∙ (g.mine number at w.0 w.1).0))
      | inr f ↦ f
    ]

    mine : (n x : ℕ) → n < length mid → holds (list_of mid n) x ≡ true → (holds (seen ++ at ∷ []) x ≡ true) × (slice_get new n ≡ Some (record { block = block x; row = row x }))
    mine n x h t = let w = was n x h t in let m = g.mine n x w.0 w.1 in (holds-left seen (at ∷ []) x m.0, made.lasts n _ m.1)

    -- one more location in its list
    pub grouped_more : AreGrouped block row (seen ++ at ∷ []) new after
    grouped_more = record {
      long = long-after ∙ made.long;
      apart = made.apart;
      some = λ n h. elim (cases_eq n number) [
        | inl q ↦ let s = length-append (list_of mid number) (at ∷ []) in rw (q, list-here) (omega (arith, s))
        | inr d ↦ elim (made.place n (rw (long-after) at h)) [
          | inl l ↦ rw (list-there n d, made.same n l) (g.some n l)
          | inr z ↦ absurd (d z.0)
        ]
      ];
      once = λ n h. elim (cases_eq n number) [
        | inl q ↦ rw (q, list-here) (once-push (list_of mid number) at (once-mid number made.within) lacks)
        | inr d ↦ rw (list-there n d) (once-mid n (rw (long-after) at h))
      ];
      mine = λ n x h t. elim (cases_eq n number) [
        | inl q ↦
            elim (holds-append (list_of mid number) (at ∷ []) x (sym (ap (λ xs. holds xs x) (ap (list_of after) q ∙ list-here)) ∙ t)) [
              | inl y ↦ subst (λ z. (holds (seen ++ at ∷ []) x ≡ true) × (slice_get new z ≡ Some (record { block = block x; row = row x }))) (sym q) (mine number x made.within y)
              | inr y ↦ elim (holds-cases at x [] y) [
                | inl w ↦ (
                  holds-right seen (at ∷ []) x y,
                  ap (slice_get new) q ∙ here ∙ ap Some (is ∙ (λ d. record { block = block (w d); row = row (w d) })),
                )
                | inr w ↦ absurd (false≢true w)
              ]
            ]
        | inr d ↦ mine n x (rw (long-after) at h) (sym (ap (λ xs. holds xs x) (list-there n d)) ∙ t)
      ];
      all = λ x t. elim (holds-append seen (at ∷ []) x t) [
        | inl y ↦
            let a = g.all x y in
            let n = a.0 in
            let l : n < length after = (let b = a.1 in let c = made.low in let s = long-after in omega (arith, b, c, s)) in
            let m : holds (list_of mid n) x ≡ true = ap (λ xs. holds xs x) (made.same n a.1) ∙ a.2 in (
              n,
              l,
              elim (cases_eq n number) [
                | inl q ↦ ap (λ xs. holds xs x) (ap (list_of after) q ∙ list-here) ∙ holds-left (list_of mid number) (at ∷ []) x (ap (λ z. holds (list_of mid z) x) (sym q) ∙ m)
                | inr d ↦ ap (λ xs. holds xs x) (list-there n d) ∙ m
              ],
            )
        | inr y ↦ (
          number,
          (let b = made.within in let s = long-after in omega (arith, b, s)),
          ap (λ xs. holds xs x) list-here ∙ holds-right (list_of mid number) (at ∷ []) x y,
        )
      ];
    }

-- no location at all
pub grouped_none : (block : ℕ → ℕ) (row : ℕ → Id) (kinds : List Key) (groups : List (List ℕ)) → kinds ≡ [] → groups ≡ [] → AreGrouped block row [] kinds groups
grouped_none block row kinds groups e q = record {
  long = ap length q ∙ sym (ap length e);
  apart = λ a b k x y. (let w = slice_get_within kinds a k x in let l = ap length e in absurd (omega (arith, w, l)));
  some = λ n h. (let l = ap length q in absurd (omega (arith, h, l)));
  once = λ n h. (let l = ap length q in absurd (omega (arith, h, l)));
  mine = λ n x h t. (let l = ap length q in absurd (omega (arith, h, l)));
  all = λ x t. absurd (false≢true t);
}

-- where all that changed are in lists, these are the groups
pub groups_made : (size : ℕ) (block : ℕ → ℕ) (row : ℕ → Id) (changed : List ℕ) (kinds : List Key) (groups : List (List ℕ)) → AreGrouped block row changed kinds groups
    → AreChanges size block row changed → AreGroups size block row changed groups
groups_made size block row changed kinds groups g c = record {
  each = λ n h. record {
    some = g.some n h;
    once = g.once n h;
    within = λ x t. c.within x (g.mine n x h t).0;
    same = λ i j t u.
        let q = same_Some _ _ (sym (g.mine n i h t).1 ∙ (g.mine n j h u).1) in
        (ap (λ k. k.block) q, ap (λ k. k.row) q);
    all = λ i j t l e k.
        let m = g.mine n i h t in
        elim (cases_Bool (holds changed j)) [
          | inl u ↦
              let a = g.all j u in
              let o = g.mine a.0 j a.1 a.2 in
              let same : a.0 ≡ n = g.apart a.0 n (record { block = block j; row = row j }) o.1 (m.1 ∙ (λ d. Some (record { block = e d; row = k d }))) in
              ap (λ z. holds (list_of groups z) j) (sym same) ∙ a.2
          | inr f ↦ absurd (c.apart i j m.0 l f e k)
        ];
  };
  all = g.all;
}
