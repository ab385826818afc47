-- A group and the others of its block.
use Rattle.std.proofs.Common.{◌≡◌, ◌≢◌, ◌<◌, ◌≤◌, ◌+◌, ◌++◌, ℕ, zero, suc, Bool, true, false, not, List, [], ◌∷◌, refl, sym, ◌∙◌, ap, subst, arith, inl, inr, length, length-append, Some, Result, Ok, Err}
use Rattle.std.specs.Prelude.{slice_get, slice_index, OnOk}
use Rattle.std.specs.List.{filter}
use Rattle.std.proofs.lemmas.Bool.{cases_Bool, cases_eq, cases_lt, false≢true, not-true, not-false, eqb-true, eq-eqb}
use Rattle.diagrams.specs.declared.top.Id.{Id}
use Rattle.diagrams.specs.Transformed.{same_id}
use Rattle.linked_blocks.specs.Lists.{holds, list_of, block_in, IsOnce, HoldEach}
use Rattle.linked_blocks.proofs.LinkLemmas.{holds-head, holds-tail, holds-cases, lacks-append_both, holds-append, holds-left, holds-right}
use Rattle.class_laws.specs.Shifts.{AreOf, IsGroup, IsParted, AreNoted, AreHalved}
use Rattle.class_laws.proofs.ShiftAll.{holds-place}
use Rattle.class_laws.proofs.Parting.{once-few, once-all}

pub on_ok : {T E : Type 0} (r : Result T E) (P Q : Type 0) → (P → Q) → OnOk r P → OnOk r Q
on_ok (Ok x) P Q f p = f p
on_ok (Err e) P Q f p = p

pub on_ok2 : {T E : Type 0} (r : Result T E) (P Q R : Type 0) → (P → Q → R) → OnOk r P → OnOk r Q → OnOk r R
on_ok2 (Ok x) P Q R f p q = f p q
on_ok2 (Err e) P Q R f p q = p

-- ids that a test finds the same, or not
pub ids-same : (a b : Id) → not (same_id a b) ≡ false → a ≡ b
ids-same a b e =
    let q : a.0 ≡ b.0 = eqb-true a.0 b.0 (not-false (same_id a b) e) in
    λ d. record { 0 = q d }

pub ids-differ : (a b : Id) → not (same_id a b) ≡ true → a ≢ b
ids-differ a b e q = false≢true (sym (not-true (same_id a b) e) ∙ eq-eqb a.0 b.0 (ap (λ z. z.0) q))

pub holds-filter : (p : ℕ → Bool) (xs : List ℕ) (x : ℕ) → holds (filter p xs) x ≡ true → (holds xs x ≡ true) × (p x ≡ true)
holds-filter p [] x h = absurd (false≢true h)
holds-filter p (y ∷ xs) x h = go (p y) refl (holds-filter p xs x)
  where
    go : (b : Bool) → p y ≡ b → (holds (filter p xs) x ≡ true → (holds xs x ≡ true) × (p x ≡ true)) → (holds (y ∷ xs) x ≡ true) × (p x ≡ true)
    go true e more = elim (holds-cases y x (filter p xs) (rw (e) at h)) [
      | inl q ↦ (subst (λ z. holds (y ∷ xs) z ≡ true) q (holds-head y xs), ap p (sym q) ∙ e)
      | inr t ↦ let r = more t in (holds-tail y x xs r.0, r.1)
    ]
    go false e more = let r = more (rw (e) at h) in (holds-tail y x xs r.0, r.1)

pub filter-holds : (p : ℕ → Bool) (xs : List ℕ) (x : ℕ) → holds xs x ≡ true → p x ≡ true → holds (filter p xs) x ≡ true
filter-holds p [] x h k = h
filter-holds p (y ∷ xs) x h k = elim (holds-cases y x xs h) [
  | inl q ↦ rw (ap p q ∙ k) (subst (λ z. holds (y ∷ filter p xs) z ≡ true) q (holds-head y (filter p xs)))
  | inr t ↦ go (p y) refl (filter-holds p xs x t k)
]
  where
    go : (b : Bool) → p y ≡ b → holds (filter p xs) x ≡ true → holds (filter p (y ∷ xs)) x ≡ true
    go true e i = rw (e) (holds-tail y x (filter p xs) i)
    go false e i = rw (e) i

pub once-filter : (p : ℕ → Bool) (xs : List ℕ) → IsOnce xs → IsOnce (filter p xs)
once-filter p [] o = o
once-filter p (y ∷ xs) o = go (p y) refl (once-filter p xs o.1)
  where
    go : (b : Bool) → p y ≡ b → IsOnce (filter p xs) → IsOnce (filter p (y ∷ xs))
    go false e more = rw (e) more
    go true e more = rw (e) (
      elim (cases_Bool (holds (filter p xs) y)) [
        | inl t ↦ absurd (false≢true (sym o.0 ∙ (holds-filter p xs y t).0))
        | inr f ↦ f
      ],
      more,
    )

pub once-append : (xs ys : List ℕ) → IsOnce xs → IsOnce ys → ((x : ℕ) → holds xs x ≡ true → holds ys x ≡ false) → IsOnce (xs ++ ys)
once-append [] ys o p f = p
once-append (x ∷ xs) ys o p f = (lacks-append_both xs ys x o.0 (f x (holds-head x xs)), once-append xs ys o.1 p (λ y h. f y (holds-tail x y xs h)))

module _ (size from : ℕ) (lists : List (List ℕ)) (key : ℕ → Id) (group : List ℕ) (e : HoldEach size lists) (g : IsGroup size (block_in lists) key group)
    (is : from ≡ block_in lists (slice_index group 0)) where
  pub one : holds group (slice_index group 0) ≡ true
  one = holds-place group 0 g.some

  pub from-there : from < length lists
  from-there = rw (is) (e.there (slice_index group 0) (g.within (slice_index group 0) one)).0

  pub in_block : (x : ℕ) → holds group x ≡ true → (x < size) × (block_in lists x ≡ from)
  in_block x t = (g.within x t, (g.same x (slice_index group 0) t one).0 ∙ sym is)

  pub group-of : AreOf size from lists group
  group-of = record { once = g.once; within = in_block }

  in-list : (x : ℕ) → holds group x ≡ true → holds (list_of lists from) x ≡ true
  in-list x t = let b = in_block x t in subst (λ z. holds (list_of lists z) x ≡ true) b.1 (e.there x b.0).1

  pub group-few : length group ≤ length (list_of lists from)
  group-few = once-few group (list_of lists from) g.once (e.once from from-there) in-list

  -- a group that is its block has parted from no others
  pub group-alone : length group ≡ length (list_of lists from) → IsParted size (block_in lists) (block_in lists) group
  group-alone q = record {
    same = λ i j h l o. (
      o,
      elim (cases_Bool (holds group i)) [
        | inl t ↦ t ∙ sym (back j l (sym o ∙ (in_block i t).1))
        | inr f ↦ elim (cases_Bool (holds group j)) [
          | inl u ↦ absurd (false≢true (sym f ∙ back i h (o ∙ (in_block j u).1)))
          | inr u ↦ f ∙ sym u
        ]
      ],
    );
    one = λ i j h l o k. o;
  }
    where
      back : (x : ℕ) → x < size → block_in lists x ≡ from → holds group x ≡ true
      back x h b = once-all group (list_of lists from) g.once (e.once from from-there) in-list q x (subst (λ z. holds (list_of lists z) x ≡ true) b (e.there x h).1)

  module _ (differs : ℕ → Bool) (same : (x : ℕ) → differs x ≡ false → key x ≡ key (slice_index group 0)) (other : (x : ℕ) → differs x ≡ true → key x ≢ key (slice_index group 0)) where
    abbrev pub rest : List ℕ
    rest = filter differs (list_of lists from)

    pub rest-of : AreOf size from lists rest
    rest-of = record {
      once = once-filter differs (list_of lists from) (e.once from from-there);
      within = λ x t. e.within from x from-there (holds-filter differs (list_of lists from) x t).0;
    }

    rest-lacks : (x : ℕ) → holds rest x ≡ true → holds group x ≡ false
    rest-lacks x t = elim (cases_Bool (holds group x)) [
      | inr f ↦ f
      | inl u ↦ absurd (other x (holds-filter differs (list_of lists from) x t).1 (g.same x (slice_index group 0) u one).1)
    ]

    -- what is in the block is in the group or among the rest
    either : (x : ℕ) → x < size → block_in lists x ≡ from → holds group x ≡ not (holds rest x)
    either x h b = go (differs x) refl
      where
        here : holds (list_of lists from) x ≡ true
        here = subst (λ z. holds (list_of lists z) x ≡ true) b (e.there x h).1

        go : (d : Bool) → differs x ≡ d → holds group x ≡ not (holds rest x)
        go true q = let t = filter-holds differs (list_of lists from) x here q in rest-lacks x t ∙ sym (ap not t)
        go false q =
            let f : holds rest x ≡ false = elim (cases_Bool (holds rest x)) [
              | inr f ↦ f
              | inl t ↦ absurd (false≢true (sym q ∙ (holds-filter differs (list_of lists from) x t).1))
            ] in
            g.all (slice_index group 0) x one h (sym is ∙ sym b) (sym (same x q)) ∙ sym (ap not f)

    pub rest-char : (i j : ℕ) → i < size → j < size → block_in lists i ≡ from → block_in lists j ≡ from
        → (holds rest i ≡ holds rest j → holds group i ≡ holds group j) × (holds group i ≡ holds group j → holds rest i ≡ holds rest j)
    rest-char i j h l a b = (
      λ q. either i h a ∙ ap not q ∙ sym (either j l b),
      λ q. turn (holds rest i) (holds rest j) (sym (either i h a) ∙ q ∙ either j l b),
    )
      where
        turn : (x y : Bool) → not x ≡ not y → x ≡ y
        turn true true q = refl
        turn false false q = refl
        turn true false q = absurd (false≢true q)
        turn false true q = absurd (false≢true (sym q))

    -- together they are the block
    pub rest-count : length rest + length group ≡ length (list_of lists from)
    rest-count =
        let list = list_of lists from in
        let o = once-append rest group rest-of.once g.once rest-lacks in
        let a = once-few (rest ++ group) list o (e.once from from-there) (λ x t. elim (holds-append rest group x t) [
          | inl u ↦ (holds-filter differs list x u).0
          | inr u ↦ in-list x u
        ]) in
        let b = once-few list (rest ++ group) (e.once from from-there) o (λ x t.
        let w = e.within from x from-there t in
        elim (cases_Bool (holds rest x)) [
          | inl u ↦ holds-left rest group x u
          | inr u ↦ holds-right rest group x (either x w.0 w.1 ∙ ap not u)
        ]) in
        let c = length-append rest group in
        omega (arith, a, b, c)

-- two lists noted one after the other
pub noted_trans : (size : ℕ) (old cur new : List (List ℕ)) (a b c : List ℕ) → AreNoted size old cur a b → AreNoted size cur new b c → AreNoted size old new a c
noted_trans size old cur new a b c x y = record {
  kept = λ z t. y.kept z (x.kept z t);
  rest = λ z h f. y.rest z h f ∙ x.rest z h (elim (cases_Bool (holds b z)) [ inl t ↦ absurd (false≢true (sym f ∙ y.kept z t)) | inr g ↦ g ]);
  within = λ w z t. y.within (x.within w) z t;
  more =
      let p = x.more in
      let q = y.more in (
        omega (arith, p.0, q.0),
        λ h. elim (cases_lt (length b) (length c)) [
          | inl l ↦ let r = q.1 l in omega (arith, p.0, r)
          | inr l ↦ let r = p.1 (omega (arith, h, l)) in omega (arith, r, q.0)
        ],
      );
}

-- nothing has moved
pub halved_none : (size : ℕ) (lists : List (List ℕ)) → AreHalved size lists lists
halved_none size lists = record { small = λ x l. omega arith; half = λ x l n. absurd (n refl) }

-- what halves after what has halved
pub halved_trans : (size : ℕ) (old cur new : List (List ℕ)) → AreHalved size old cur → AreHalved size cur new → AreHalved size old new
halved_trans size old cur new p q = record {
  small = λ x l. (let a = p.small x l in let b = q.small x l in omega (arith, a, b));
  half = λ x l n. elim (cases_eq (block_in cur x) (block_in old x)) [
    | inl e ↦ let a = p.small x l in let b = q.half x l (λ z. n (z ∙ e)) in omega (arith, a, b)
    | inr d ↦ let a = p.half x l d in let b = q.small x l in omega (arith, a, b)
  ];
}

-- what stands at a place
pub get-at : (xs : List ℕ) (k : ℕ) → k < length xs → slice_get xs k ≡ Some (slice_index xs k)
get-at [] k h = absurd (omega (arith, h))
get-at (x ∷ xs) zero h = refl
get-at (x ∷ xs) (suc k) h = get-at xs k (omega (arith, h))
