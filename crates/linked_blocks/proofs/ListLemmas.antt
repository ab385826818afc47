-- Lists that links go by.
use Rattle.std.proofs.Common.{add-zero, ◌≡◌, ◌≢◌, ◌<◌, ◌≤◌, ◌+◌, ◌-◌, ◌*◌, ◌++◌, ◌==◌, ◌⊎◌, ℕ, zero, suc, Bool, true, false, cond, not, List, [], ◌∷◌, Option, Some, None, refl, sym, ◌∙◌, ap, subst, arith, inl, inr, length, length-append, map, if◌then◌else◌}
use Rattle.std.specs.Prelude.{slice_get, slice_index, slice_index_or, slice_set}
use Rattle.std.specs.List.{range_with_len}
use Rattle.std.proofs.lemmas.Option.{same_Some}
use Rattle.std.proofs.lemmas.Bool.{cases_eq, cases_Bool, cases_lt, eqb-true, eqb-false, eq-eqb, ne_eqb, false≢true}
use Rattle.std.proofs.lemmas.List.{get_or-set_same, get_or-set_other, length-set, get_or-map, length-map, same_lists}
use Rattle.std.proofs.lemmas.List.FromFn.{length-map-range_with_len, get_or-map-range_with_len, length-range_with_len, map-range_with_len_more}
use Rattle.linked_blocks.specs.Lists.{holds, list_of, block_in, IsThere, without, shifted, IsOnce, HoldEach}
use Rattle.linked_blocks.specs.Links.{chain, AreLinked, GoBy, forth_without, back_without, forth_with, back_with, counts_after}
use Rattle.linked_blocks.proofs.LinkLemmas.{holds-head, holds-tail, holds-cases, lacks-cons, lacks-join, lacks-append, lacks-append_both, held-apart, holds-append, holds-left, holds-right, after-in, before-in, linked_kept, linked_split, IsUnlinked, unlinked, IsLinkedIn, linked_in, chain-linked}

-- a location that is in no earlier block
pub block_in-is : (lists : List (List ℕ)) (b x : ℕ) → b < length lists → holds (list_of lists b) x ≡ true → ((k : ℕ) → k < b → holds (list_of lists k) x ≡ false)
    → block_in lists x ≡ b
block_in-is [] b x h i l = absurd (omega (arith, h))
block_in-is (xs ∷ rest) zero x h i l = rw i refl
block_in-is (xs ∷ rest) (suc b) x h i l =
    rw (l 0 (omega arith)) (ap suc (block_in-is rest b x (omega (arith, h)) i (λ k g. l (suc k) (omega (arith, g)))))

-- the block that it names holds a location that is there
pub block_in-holds : (lists : List (List ℕ)) (x : ℕ) → IsThere lists x → holds (list_of lists (block_in lists x)) x ≡ true
block_in-holds [] x h = absurd (omega (arith, h))
block_in-holds (xs ∷ rest) x h = elim (cases_Bool (holds xs x)) [
  | inl t ↦ subst (λ b. holds (list_of (xs ∷ rest) (cond b 0 (suc (block_in rest x)))) x ≡ true) (sym t) t
  | inr f ↦ subst (λ b. holds (list_of (xs ∷ rest) (cond b 0 (suc (block_in rest x)))) x ≡ true) (sym f)
      (block_in-holds rest x (let g : cond (holds xs x) 0 (suc (block_in rest x)) < suc (length rest) = h in omega (arith, (rw f at g))))
]

pub without-lacks : (at : ℕ) (xs : List ℕ) → holds xs at ≡ false → without at xs ≡ xs
without-lacks at [] h = refl
without-lacks at (x ∷ xs) h = let c = lacks-cons x at xs h in rw (ne_eqb x at c.0) (ap (λ z. x ∷ z) (without-lacks at xs c.1))

pub without-split : (at : ℕ) (xs ys : List ℕ) → holds xs at ≡ false → holds ys at ≡ false → without at (xs ++ at ∷ ys) ≡ xs ++ ys
without-split at [] ys h k = rw (eq-eqb at at refl) (without-lacks at ys k)
without-split at (x ∷ xs) ys h k = let c = lacks-cons x at xs h in rw (ne_eqb x at c.0) (ap (λ z. x ∷ z) (without-split at xs ys c.1 k))

pub holds-without : (at x : ℕ) (xs : List ℕ) → x ≢ at → holds (without at xs) x ≡ holds xs x
holds-without at x [] n = refl
holds-without at x (y ∷ xs) n = elim (cases_eq y at) [
  | inl e ↦ rw (eq-eqb y at e, ne_eqb y x (λ z. n (sym z ∙ e))) (holds-without at x xs n)
  | inr d ↦ rw (ne_eqb y at d, holds-without at x xs n) refl
]

pub without-gone : (at : ℕ) (xs : List ℕ) → holds (without at xs) at ≡ false
without-gone at [] = refl
without-gone at (y ∷ xs) = elim (cases_eq y at) [
  | inl e ↦ rw (eq-eqb y at e) (without-gone at xs)
  | inr d ↦ rw (ne_eqb y at d) (lacks-join y at (without at xs) d (without-gone at xs))
]

pub once-without : (at : ℕ) (xs : List ℕ) → IsOnce xs → IsOnce (without at xs)
once-without at [] o = o
once-without at (y ∷ xs) o = elim (cases_eq y at) [
  | inl e ↦ rw (eq-eqb y at e) (once-without at xs o.1)
  | inr d ↦ rw (ne_eqb y at d) (holds-without at y xs d ∙ o.0, once-without at xs o.1)
]

pub once-push : (xs : List ℕ) (at : ℕ) → IsOnce xs → holds xs at ≡ false → IsOnce (xs ++ at ∷ [])
once-push [] at o h = (refl, o)
once-push (x ∷ xs) at o h =
    let c = lacks-cons x at xs h in
    (lacks-append_both xs (at ∷ []) x o.0 (lacks-join at x [] (λ e. c.0 (sym e)) refl), once-push xs at o.1 c.1)

-- a list at a location that it holds
pub record IsSplitAt (at : ℕ) (list : List ℕ) : Type 0 where
  pub front : List ℕ
  pub back : List ℕ
  pub is : list ≡ front ++ at ∷ back
  pub front_lacks : holds front at ≡ false
  pub back_lacks : holds back at ≡ false

pub split_at : (at : ℕ) (xs : List ℕ) → holds xs at ≡ true → IsOnce xs → IsSplitAt at xs
split_at at [] h o = absurd (false≢true h)
split_at at (x ∷ xs) h o = elim (cases_eq x at) [
  | inl e ↦ record { front = []; back = xs; is = ap (λ z. z ∷ xs) e; front_lacks = refl; back_lacks = subst (λ z. holds xs z ≡ false) e o.0 }
  | inr n ↦
      let r = split_at at xs (rw (ne_eqb x at n) at h) o.1 in
      record { front = x ∷ r.front; back = r.back; is = ap (λ z. x ∷ z) r.is; front_lacks = lacks-join x at r.front n r.front_lacks; back_lacks = r.back_lacks }
]

pub length-split : (xs : List ℕ) (at : ℕ) (ys : List ℕ) → length (xs ++ at ∷ ys) ≡ length (xs ++ ys) + 1
length-split [] at ys = omega arith
length-split (x ∷ xs) at ys = let r = length-split xs at ys in omega (arith, r)

module _ (size used : ℕ) (block next prev count : ℕ → ℕ) (list : ℕ → List ℕ) (g : GoBy size used block next prev count list) where
  -- a location stands in its own block alone
  pub lacks_other : (b x : ℕ) → b < used → block x ≢ b → holds (list b) x ≡ false
  lacks_other b x h n = elim (cases_Bool (holds (list b) x)) [
    | inl t ↦ absurd (n (g.mine b x h t).1)
    | inr f ↦ f
  ]

  pub lacks_past : (b x : ℕ) → b < used → size ≤ x → holds (list b) x ≡ false
  lacks_past b x h n = elim (cases_Bool (holds (list b) x)) [
    | inl t ↦ absurd (let l = (g.mine b x h t).0 in omega (arith, l, n))
    | inr f ↦ f
  ]

  -- the chain of a block is its list
  pub chain_is : (b : ℕ) → b < used → chain next (count b) (next (size + b)) ≡ list b
  chain_is b h = rw (g.long b h) (chain-linked next prev (size + b) (list b) (size + b) (g.ring b h))

  module _ (lists : List (List ℕ)) (long : length lists ≡ used) (same : (b : ℕ) → b < used → list_of lists b ≡ list b) where
    pub block_is : (x : ℕ) → x < size → block_in lists x ≡ block x
    block_is x h =
        let t = g.there x h in
        block_in-is lists (block x) x (rw long t.0) (rw (same (block x) t.0) t.1)
        (λ k l. let m : k < used = omega (arith, l, t.0) in rw (same k m) (lacks_other k x m (λ e. absurd (omega (arith, l, e)))))

    pub there_small : (x : ℕ) → IsThere lists x → x < size
    there_small x h =
        let m : block_in lists x < used = rw long at h in
        (g.mine (block_in lists x) x m (rw (← same (block_in lists x) m) (block_in-holds lists x h))).0

    pub hold_each : HoldEach size lists
    hold_each = record {
      there = λ x h. let t = g.there x h in (rw (block_is x h, long) t.0, rw (block_is x h, same (block x) t.0) t.1);
      within = λ b x h i.
          let m : b < used = rw long at h in
          let t = g.mine b x m (rw (same b m) at i) in
          (t.0, block_is x t.0 ∙ t.1);
      once = λ b h. let m : b < used = rw long at h in rw (same b m) (g.once b m);
    }

-- the list of a block after the location was put at the end of another
abbrev pub list_after : (ℕ → List ℕ) → ℕ → ℕ → ℕ → List ℕ
list_after list at into b = if b == into then list into ++ at ∷ [] else without at (list b)

turned : (e k : ℕ) (xs : List ℕ) → holds (xs ++ e ∷ []) k ≡ true → holds (e ∷ xs) k ≡ true
turned e k xs h = elim (cases_Bool (holds (e ∷ xs) k)) [
  | inl t ↦ t
  | inr f ↦ let c = lacks-cons e k xs f in absurd (false≢true (sym (lacks-append_both xs (e ∷ []) k c.1 (lacks-join e k [] c.0 refl)) ∙ h))
]

module _ (size used : ℕ) (block next prev count : ℕ → ℕ) (list : ℕ → List ℕ) (g : GoBy size used block next prev count list)
    (at into : ℕ) (h : at < size) (l : into < used) (n : block at ≢ into) where
  -- places of different blocks are different
  nodes_apart : (b f k j : ℕ) → b < used → f < used → b ≢ f → holds ((size + b) ∷ list b) k ≡ true → holds ((size + f) ∷ list f) j ≡ true → k ≢ j
  nodes_apart b f k j i m d x y e = elim (holds-cases (size + b) k (list b) x) [
    | inl p ↦ elim (holds-cases (size + f) j (list f) y) [
      | inl q ↦ d (omega (arith, p, q, e))
      | inr q ↦ let z = (g.mine f j m q).0 in absurd (omega (arith, p, z, e))
    ]
    | inr p ↦ elim (holds-cases (size + f) j (list f) y) [
      | inl q ↦ let z = (g.mine b k i p).0 in absurd (omega (arith, q, z, e))
      | inr q ↦ d (sym (g.mine b k i p).1 ∙ ap block e ∙ (g.mine f j m q).1)
    ]
  ]

  parts : IsSplitAt at (list (block at))
  parts = let t = g.there at h in split_at at (list (block at)) t.1 (g.once (block at) t.0)

  linked-parts : AreLinked next prev (size + block at) (parts.front ++ at ∷ parts.back) (size + block at)
  linked-parts = subst (λ xs. AreLinked next prev (size + block at) xs (size + block at)) parts.is (g.ring (block at) (g.there at h).0)

  before : holds ((size + block at) ∷ list (block at)) (prev at) ≡ true
  before =
      let s = linked_split next prev (size + block at) parts.front at parts.back (size + block at) linked-parts in
      let i = before-in next prev (size + block at) parts.front at s.0 in
      rw (parts.is) (holds-left ((size + block at) ∷ parts.front) (at ∷ parts.back) (prev at) i)

  after : holds ((size + block at) ∷ list (block at)) (next at) ≡ true
  after =
      let s = linked_split next prev (size + block at) parts.front at parts.back (size + block at) linked-parts in
      let i = turned (size + block at) (next at) parts.back (after-in next prev at parts.back (size + block at) s.1) in
      elim (holds-cases (size + block at) (next at) parts.back i) [
        | inl e ↦ subst (λ z. holds ((size + block at) ∷ list (block at)) z ≡ true) e (holds-head (size + block at) (list (block at)))
        | inr t ↦ subst (λ xs. holds ((size + block at) ∷ xs) (next at) ≡ true) (sym parts.is)
            (holds-right ((size + block at) ∷ parts.front) (at ∷ parts.back) (next at) (holds-right (at ∷ []) parts.back (next at) t))
      ]

  module _ (m q : ℕ → ℕ) (u : IsUnlinked next prev m q at) where
    -- each ring without the location
    pub ring-out : (b : ℕ) → b < used → AreLinked m q (size + b) (without at (list b)) (size + b)
    ring-out b i = elim (cases_eq b (block at)) [
      | inl e ↦
          let past = lacks_past size used block next prev count list g (block at) (size + block at) (g.there at h).0 (omega arith) in
          let w = unlinked next prev m q (size + block at) parts.front at parts.back (size + block at) u linked-parts
          (subst (λ xs. holds xs (size + block at) ≡ false) parts.is past) (subst IsOnce parts.is (g.once (block at) (g.there at h).0))
          (subst (λ xs. holds xs (size + block at) ≡ false) parts.is past) in
          let same : without at (list b) ≡ parts.front ++ parts.back =
          ap (λ z. without at (list z)) e ∙ ap (without at) parts.is ∙ without-split at parts.front parts.back parts.front_lacks parts.back_lacks in
          rw (same, e) w
      | inr d ↦
          let same = without-lacks at (list b) (lacks_other size used block next prev count list g b at i (λ e. d (sym e))) in
          rw (same) (linked_kept next prev m q (size + b) (list b) (size + b) (g.ring b i)
          (λ k x. u.others_forth k (nodes_apart b (block at) k (prev at) i (g.there at h).0 d x before))
          (λ k x. u.others_back k (nodes_apart b (block at) k (next at) i (g.there at h).0 d (turned (size + b) k (list b) x) after)))
    ]

    at-new : holds (list into) at ≡ false
    at-new = lacks_other size used block next prev count list g into at l n

    ring-into : AreLinked m q (size + into) (list into) (size + into)
    ring-into = subst (λ xs. AreLinked m q (size + into) xs (size + into)) (without-lacks at (list into) at-new) (ring-out into l)

    in-without : (b k : ℕ) → holds ((size + b) ∷ without at (list b)) k ≡ true → (holds ((size + b) ∷ list b) k ≡ true) × (k ≢ at)
    in-without b k x = elim (holds-cases (size + b) k (without at (list b)) x) [
      | inl e ↦ (subst (λ z. holds ((size + b) ∷ list b) z ≡ true) e (holds-head (size + b) (list b)), λ z. absurd (omega (arith, e, z, h)))
      | inr t ↦
          let d = held-apart (without at (list b)) k at t (without-gone at (list b)) in
          (holds-right ((size + b) ∷ []) (list b) k (sym (holds-without at k (list b) d) ∙ t), d)
    ]

    module _ (m2 q2 : ℕ → ℕ) (v : IsLinkedIn m q m2 q2 at (size + into)) where
      last-in : holds ((size + into) ∷ list into) (q (size + into)) ≡ true
      last-in = before-in m q (size + into) (list into) (size + into) ring-into

      ring-after : (b : ℕ) → b < used → AreLinked m2 q2 (size + b) (list_after list at into b) (size + b)
      ring-after b i = elim (cases_eq b into) [
        | inl e ↦
            let past = lacks_past size used block next prev count list g into (size + into) l (omega arith) in
            rw (eq-eqb b into e, e)
            (linked_in m q m2 q2 (size + into) (list into) at (size + into) v ring-into (lacks-join (size + into) at (list into) (λ z. absurd (omega (arith, z, h))) at-new)
            past (g.once into l) past)
        | inr d ↦
            rw (ne_eqb b into d) (linked_kept m q m2 q2 (size + b) (without at (list b)) (size + b) (ring-out b i)
            (λ k x. let y = in-without b k x in v.others_forth k (nodes_apart b into k (q (size + into)) i l d y.0 last-in) y.1)
            (λ k x. let y = in-without b k (turned (size + b) k (without at (list b)) x) in
            v.others_back k y.1 (nodes_apart b into k (size + into) i l d y.0 (holds-head (size + into) (list into)))))
      ]

      module _ (block2 count2 : ℕ → ℕ) (b_at : block2 at ≡ into) (b_other : (x : ℕ) → x ≢ at → block2 x ≡ block x)
          (c_into : count2 into ≡ count into + 1) (c_from : count2 (block at) + 1 ≡ count (block at))
          (c_other : (b : ℕ) → b ≢ into → b ≢ block at → count2 b ≡ count b) where
        long-after : (b : ℕ) → b < used → count2 b ≡ length (list_after list at into b)
        long-after b i = elim (cases_eq b into) [
          | inl e ↦ rw (eq-eqb b into e) (ap count2 e ∙ c_into ∙ ap (λ z. z + 1) (g.long into l) ∙ sym (length-append (list into) (at ∷ [])))
          | inr d ↦ rw (ne_eqb b into d) (elim (cases_eq b (block at)) [
            | inl e ↦
                let same : without at (list b) ≡ parts.front ++ parts.back =
                ap (λ z. without at (list z)) e ∙ ap (without at) parts.is ∙ without-split at parts.front parts.back parts.front_lacks parts.back_lacks in
                let x = length-split parts.front at parts.back in
                let y : count (block at) ≡ length (parts.front ++ at ∷ parts.back) = g.long (block at) (g.there at h).0 ∙ ap length parts.is in
                let z : count2 b ≡ count2 (block at) = ap count2 e in
                ap count2 e ∙ omega (arith, x, y, c_from) ∙ ap length (sym same)
            | inr f ↦ c_other b d f ∙ g.long b i ∙ ap length (sym (without-lacks at (list b) (lacks_other size used block next prev count list g b at i (λ e. f (sym e)))))
          ])
        ]

        mine-after : (b x : ℕ) → b < used → holds (list_after list at into b) x ≡ true → (x < size) × (block2 x ≡ b)
        mine-after b x i t = elim (cases_eq b into) [
          | inl e ↦
              elim (holds-append (list into) (at ∷ []) x (rw (eq-eqb b into e) at t)) [
                | inl y ↦
                    let z = g.mine into x l y in
                    (z.0, b_other x (λ w. n (ap block (sym w) ∙ z.1)) ∙ z.1 ∙ sym e)
                | inr y ↦ elim (holds-cases at x [] y) [
                  | inl w ↦ (rw (← w) h, ap block2 (sym w) ∙ b_at ∙ sym e)
                  | inr w ↦ absurd (false≢true w)
                ]
              ]
          | inr d ↦
              let y : holds (without at (list b)) x ≡ true = rw (ne_eqb b into d) at t in
              let a = held-apart (without at (list b)) x at y (without-gone at (list b)) in
              let z = g.mine b x i (sym (holds-without at x (list b) a) ∙ y) in
              (z.0, b_other x a ∙ z.1)
        ]

        there-after : (x : ℕ) → x < size → (block2 x < used) × (holds (list_after list at into (block2 x)) x ≡ true)
        there-after x i = elim (cases_eq x at) [
          | inl e ↦
              let b : block2 x ≡ into = ap block2 e ∙ b_at in
              (rw (b) l, rw (b, eq-eqb into into refl) (holds-right (list into) (at ∷ []) x (rw (e) (holds-head at []))))
          | inr d ↦
              let t = g.there x i in
              let b : block2 x ≡ block x = b_other x d in (
                rw (b) t.0,
                rw (b) (elim (cases_eq (block x) into) [
                  | inl e ↦ rw (eq-eqb (block x) into e) (holds-left (list into) (at ∷ []) x (subst (λ z. holds (list z) x ≡ true) e t.1))
                  | inr f ↦ rw (ne_eqb (block x) into f) (holds-without at x (list (block x)) d ∙ t.1)
                ]),
              )
        ]

        pub goes-after : GoBy size used block2 m2 q2 count2 (list_after list at into)
        goes-after = record {
          ring = ring-after;
          long = long-after;
          mine = mine-after;
          there = there-after;
          once = λ b i. elim (cases_eq b into) [
            | inl e ↦ rw (eq-eqb b into e) (once-push (list into) at (g.once into l) at-new)
            | inr d ↦ rw (ne_eqb b into d) (once-without at (list b) (g.once b i))
          ];
        }

-- the same with other names of the lists
pub goes_same : (size used : ℕ) (block next prev count : ℕ → ℕ) (list other : ℕ → List ℕ) → ((b : ℕ) → b < used → other b ≡ list b) → GoBy size used block next prev count list
    → GoBy size used block next prev count other
goes_same size used block next prev count list other e g = record {
  ring = λ b h. rw (e b h) (g.ring b h);
  long = λ b h. rw (e b h) (g.long b h);
  mine = λ b x h i. g.mine b x h (rw (e b h) at i);
  there = λ x h. let t = g.there x h in (t.0, rw (e (block x) t.0) t.1);
  once = λ b h. rw (e b h) (g.once b h);
}

-- the links after a place is taken out
pub unlink_is : (next prev : List ℕ) (at : ℕ) → slice_index prev at < length next → slice_index next at < length prev
    → IsUnlinked (slice_index next) (slice_index prev) (slice_index (slice_set next (slice_index prev at) (slice_index next at)))
    (slice_index (slice_set prev (slice_index next at) (slice_index prev at))) at
unlink_is next prev at h l = record {
  forth = get_or-set_same next (slice_index prev at) (slice_index next at) 0 h;
  others_forth = λ k n. get_or-set_other next (slice_index prev at) k (slice_index next at) 0 n;
  back = get_or-set_same prev (slice_index next at) (slice_index prev at) 0 l;
  others_back = λ k n. get_or-set_other prev (slice_index next at) k (slice_index prev at) 0 n;
}

-- the links after a place is put before an end
pub link_is : (next prev : List ℕ) (at end : ℕ) → at < length next → at < length prev → end < length prev → slice_index prev end < length next → slice_index prev end ≢ at → at ≢ end
    → IsLinkedIn (slice_index next) (slice_index prev) (slice_index (slice_set (slice_set next (slice_index prev end) at) at end))
    (slice_index (slice_set (slice_set prev at (slice_index prev end)) end at)) at end
link_is next prev at end i j h l n d =
    let last = slice_index prev end in
    record {
      last = get_or-set_other (slice_set next last at) at last end 0 n ∙ get_or-set_same next last at 0 l;
      forth = get_or-set_same (slice_set next last at) at end 0 (rw (length-set next last at) i);
      others_forth = λ k x y. get_or-set_other (slice_set next last at) at k end 0 y ∙ get_or-set_other next last k at 0 x;
      back = get_or-set_other (slice_set prev at last) end at at 0 d ∙ get_or-set_same prev at last 0 j;
      ends = get_or-set_same (slice_set prev at last) end at 0 (rw (length-set prev at last) h);
      others_back = λ k x y. get_or-set_other (slice_set prev at last) end k at 0 y ∙ get_or-set_other prev at k last 0 x;
    }

-- the list of a block among those of all
pub list_of-map : (used : ℕ) (list : ℕ → List ℕ) (b : ℕ) → b < used → list_of (map list (range_with_len 0 used)) b ≡ list b
list_of-map used list b h = get_or-map-range_with_len list 0 used b b [] h (omega arith)

pub view_shifted : (used : ℕ) (list other : ℕ → List ℕ) (at into : ℕ) → into < used → ((b : ℕ) → b < used → other b ≡ list_after list at into b)
    → map other (range_with_len 0 used) ≡ shifted (map list (range_with_len 0 used)) at into
view_shifted used list other at into l e =
    let olds = map list (range_with_len 0 used) in
    let outs = map (without at) olds in
    let long : length olds ≡ used = length-map-range_with_len list 0 used in
    let many : length outs ≡ used = length-map olds (without at) ∙ long in
    same_lists (map other (range_with_len 0 used)) (shifted olds at into)
    (length-map-range_with_len other 0 used ∙ sym many ∙ sym (length-set outs into _))
    (λ k d h.
    let m : k < used = rw (length-map-range_with_len other 0 used) at h in
    get_or-map-range_with_len other 0 used k k d m (omega arith) ∙ e k m ∙ (elim (cases_eq k into) [
      | inl q ↦
          rw (eq-eqb k into q, q)
          (sym (get_or-set_same outs into (list_of olds into ++ at ∷ []) d (rw (many) l) ∙ ap (λ xs. xs ++ at ∷ []) (list_of-map used list into l)))
      | inr q ↦
          rw (ne_eqb k into q)
          (sym (get_or-set_other outs into k (list_of olds into ++ at ∷ []) d q ∙ get_or-map (without at) olds k [] d (rw (long) m) ∙ ap (without at) (list_of-map used list k m)))
    ]))

-- what holds before a shift, of the fields as lists
pub record CanShift (size used : ℕ) (block next prev count : List ℕ) (list : ℕ → List ℕ) (at into : ℕ) : Type 0 where
  pub goes : GoBy size used (slice_index block) (slice_index next) (slice_index prev) (slice_index count) list
  pub blocks : length block ≡ size
  pub nexts : length next ≡ 2 * size
  pub prevs : length prev ≡ 2 * size
  pub counts : length count ≡ size
  pub few : used ≤ size
  pub here : at < size
  pub there : into < used
  pub other : slice_index block at ≢ into

module _ (size used : ℕ) (block next prev count : List ℕ) (list : ℕ → List ℕ) (at into : ℕ) (s : CanShift size used block next prev count list at into) where
  node_small : (b k : ℕ) → b < used → holds ((size + b) ∷ list b) k ≡ true → k < 2 * size
  node_small b k h i = elim (holds-cases (size + b) k (list b) i) [
    | inl e ↦ let f = s.few in omega (arith, e, h, f)
    | inr t ↦ let z = (s.goes.mine b k h t).0 in omega (arith, z)
  ]

  pub before_small : slice_index prev at < length next
  before_small = rw (s.nexts) (node_small (slice_index block at) (slice_index prev at) (s.goes.there at s.here).0
      (before size used (slice_index block) (slice_index next) (slice_index prev) (slice_index count) list s.goes at into s.here s.there s.other))

  pub after_small : slice_index next at < length prev
  after_small = rw (s.prevs) (node_small (slice_index block at) (slice_index next at) (s.goes.there at s.here).0
      (after size used (slice_index block) (slice_index next) (slice_index prev) (slice_index count) list s.goes at into s.here s.there s.other))

  out : IsUnlinked (slice_index next) (slice_index prev) (slice_index (forth_without next prev at)) (slice_index (back_without next prev at)) at
  out = unlink_is next prev at before_small after_small

  last : holds ((size + into) ∷ list into) (slice_index (back_without next prev at) (size + into)) ≡ true
  last = before-in (slice_index (forth_without next prev at)) (slice_index (back_without next prev at)) (size + into) (list into) (size + into)
      (ring-into size used (slice_index block) (slice_index next) (slice_index prev) (slice_index count) list s.goes at into s.here s.there s.other
      (slice_index (forth_without next prev at)) (slice_index (back_without next prev at)) out)

  pub last_small : slice_index (back_without next prev at) (size + into) < length next
  last_small = rw (s.nexts) (node_small into _ s.there last)

  lacked : holds ((size + into) ∷ list into) at ≡ false
  lacked = lacks-join (size + into) at (list into) (λ z. let h = s.here in absurd (omega (arith, z, h)))
      (lacks_other size used (slice_index block) (slice_index next) (slice_index prev) (slice_index count) list s.goes into at s.there s.other)

  long-forth : length (forth_without next prev at) ≡ 2 * size
  long-forth = length-set next (slice_index prev at) (slice_index next at) ∙ s.nexts

  long-back : length (back_without next prev at) ≡ 2 * size
  long-back = length-set prev (slice_index next at) (slice_index prev at) ∙ s.prevs

  linked : IsLinkedIn (slice_index (forth_without next prev at)) (slice_index (back_without next prev at))
      (slice_index (forth_with (forth_without next prev at) (back_without next prev at) at (size + into)))
      (slice_index (back_with (forth_without next prev at) (back_without next prev at) at (size + into))) at (size + into)
  linked =
      let h = s.here in
      let l = s.there in
      let f = s.few in
      link_is (forth_without next prev at) (back_without next prev at) at (size + into) (rw (long-forth) (omega (arith, h))) (rw (long-back) (omega (arith, h)))
      (rw (long-back) (omega (arith, l, f))) (rw (long-forth) (node_small into _ s.there last))
      (held-apart ((size + into) ∷ list into) _ at last lacked) (λ e. absurd (omega (arith, e, h)))

  pub some : 0 < slice_index count (slice_index block at)
  some =
      let t = s.goes.there at s.here in
      let p = split_at at (list (slice_index block at)) t.1 (s.goes.once (slice_index block at) t.0) in
      let x = length-split p.front at p.back in
      let y : slice_index count (slice_index block at) ≡ length (p.front ++ at ∷ p.back) = s.goes.long (slice_index block at) t.0 ∙ ap length p.is in
      omega (arith, x, y)

  pub from-small : slice_index block at < length count
  from-small = let t = (s.goes.there at s.here).0 in let f = s.few in rw (s.counts) (omega (arith, t, f))

  pub into-small : into < length count
  into-small = let t = s.there in let f = s.few in rw (s.counts) (omega (arith, t, f))

  less : List ℕ
  less = slice_set count (slice_index block at) (slice_index count (slice_index block at) - 1)

  -- the fields after the shift go by the shifted lists
  pub goes_on : GoBy size used (slice_index (slice_set block at into)) (slice_index (forth_with (forth_without next prev at) (back_without next prev at) at (size + into)))
      (slice_index (back_with (forth_without next prev at) (back_without next prev at) at (size + into))) (slice_index (counts_after count (slice_index block at) into))
      (list_after list at into)
  unfolding less
  goes_on =
      let from = slice_index block at in
      let small : into < length less = rw (length-set count from (slice_index count from - 1)) into-small in
      goes-after size used (slice_index block) (slice_index next) (slice_index prev) (slice_index count) list s.goes at into s.here s.there s.other
      (slice_index (forth_without next prev at)) (slice_index (back_without next prev at)) out
      (slice_index (forth_with (forth_without next prev at) (back_without next prev at) at (size + into)))
      (slice_index (back_with (forth_without next prev at) (back_without next prev at) at (size + into))) linked
      (slice_index (slice_set block at into)) (slice_index (counts_after count from into))
      (get_or-set_same block at into 0 (rw (s.blocks) (s.here)))
      (λ x n. get_or-set_other block at x into 0 n)
      (get_or-set_same less into (slice_index less into + 1) 0 small ∙ ap (λ z. z + 1) (get_or-set_other count from into (slice_index count from - 1) 0 (λ e. s.other (sym e))))
      (let e = get_or-set_other less into from (slice_index less into + 1) 0 s.other ∙ get_or-set_same count from (slice_index count from - 1) 0 from-small in
      let p = some in
      omega (arith, e, p))
      (λ b n d. get_or-set_other less into b (slice_index less into + 1) 0 n ∙ get_or-set_other count from b (slice_index count from - 1) 0 d)

-- a list of different locations below n is no longer than n
pub once_short : (n : ℕ) (xs : List ℕ) → IsOnce xs → ((x : ℕ) → holds xs x ≡ true → x < n) → length xs ≤ n
once_short zero [] o f = omega arith
once_short zero (x ∷ xs) o f = absurd (let h = f x (holds-head x xs) in omega (arith, h))
once_short (suc n) xs o f = elim (cases_Bool (holds xs n)) [
  | inl t ↦
      let p = split_at n xs t o in
      let e : without n xs ≡ p.front ++ p.back = ap (without n) p.is ∙ without-split n p.front p.back p.front_lacks p.back_lacks in
      let r = once_short n (without n xs) (once-without n xs o) (λ x h.
      let d = held-apart (without n xs) x n h (without-gone n xs) in
      let l = f x (sym (holds-without n x xs d) ∙ h) in
      omega (arith, d, l)) in
      let a = length-split p.front n p.back in
      let b = ap length p.is in
      let c = ap length e in
      omega (arith, r, a, b, c)
  | inr g ↦
      let r = once_short n xs o (λ x h. let d = held-apart xs x n h g in let l = f x h in omega (arith, d, l)) in
      omega (arith, r)
]

-- there is room in a block for one location more
pub room : (size used : ℕ) (block next prev count : List ℕ) (list : ℕ → List ℕ) (at into : ℕ) → CanShift size used block next prev count list at into → slice_index count into < size
room size used block next prev count list at into s =
    let g = s.goes in
    let lacks = lacks_other size used (slice_index block) (slice_index next) (slice_index prev) (slice_index count) list g into at s.there s.other in
    let r = once_short size (list into ++ at ∷ []) (once-push (list into) at (g.once into s.there) lacks) (λ x h. elim (holds-append (list into) (at ∷ []) x h) [
      | inl t ↦ (g.mine into x s.there t).0
      | inr t ↦ elim (holds-cases at x [] t) [
        | inl e ↦ rw (← e) s.here
        | inr z ↦ absurd (false≢true z)
      ]
    ]) in
    let e = g.long into s.there in
    let l = length-append (list into) (at ∷ []) in
    omega (arith, r, e, l)

-- the lists that fields mean
abbrev pub list_in : List ℕ → List ℕ → List ℕ → ℕ → List ℕ
list_in block next count b = chain (slice_index next) (slice_index count b) (slice_index next (length block + b))

pub list_in-is : (size used : ℕ) (block next prev count : List ℕ) (list : ℕ → List ℕ) → length block ≡ size
    → GoBy size used (slice_index block) (slice_index next) (slice_index prev) (slice_index count) list → (b : ℕ) → b < used → list_in block next count b ≡ list b
list_in-is size used block next prev count list e g b h =
    rw (e) (chain_is size used (slice_index block) (slice_index next) (slice_index prev) (slice_index count) list g b h)

-- fields that go by some lists go by their own
pub goes_own : (size used : ℕ) (block next prev count : List ℕ) (list : ℕ → List ℕ) → length block ≡ size
    → GoBy size used (slice_index block) (slice_index next) (slice_index prev) (slice_index count) list
    → GoBy (length block) used (slice_index block) (slice_index next) (slice_index prev) (slice_index count) (list_in block next count)
goes_own size used block next prev count list e g =
    subst (λ n. GoBy n used (slice_index block) (slice_index next) (slice_index prev) (slice_index count) (list_in block next count)) (sym e)
    (goes_same size used (slice_index block) (slice_index next) (slice_index prev) (slice_index count) list (list_in block next count)
    (list_in-is size used block next prev count list e g) g)

-- what the link from an end leads to
pub first_is : (next prev : ℕ → ℕ) (size from : ℕ) (xs : List ℕ) (end : ℕ) → AreLinked next prev from xs end → ((x : ℕ) → holds xs x ≡ true → x < size) → size ≤ end
    → (next from < size → slice_get xs 0 ≡ Some (next from)) × (size ≤ next from → slice_get xs 0 ≡ None)
first_is next prev size from [] end l f h = (λ m. let e = l.0 in absurd (omega (arith, e, h, m)), λ m. refl)
first_is next prev size from (x ∷ xs) end l f h = (
  λ m. ap Some (sym l.0),
  λ m. let e = l.0 in let y = f x (holds-head x xs) in absurd (omega (arith, e, y, m)),
)

-- what the link from a location leads to
pub next_is : (next prev : ℕ → ℕ) (size from : ℕ) (xs : List ℕ) (end : ℕ) → AreLinked next prev from xs end → ((x : ℕ) → holds xs x ≡ true → x < size) → size ≤ end
    → (k at : ℕ) → slice_get xs k ≡ Some at → (next at < size → slice_get xs (suc k) ≡ Some (next at)) × (size ≤ next at → slice_get xs (suc k) ≡ None)
next_is next prev size from [] end l f h k at e = absurd (cc)
next_is next prev size from (x ∷ xs) end l f h zero at e =
    let same : x ≡ at = same_Some x at e in
    subst (λ z. (next z < size → slice_get xs 0 ≡ Some (next z)) × (size ≤ next z → slice_get xs 0 ≡ None)) same
    (first_is next prev size x xs end l.2 (λ y i. f y (holds-tail x y xs i)) h)
next_is next prev size from (x ∷ xs) end l f h (suc k) at e = next_is next prev size x xs end l.2 (λ y i. f y (holds-tail x y xs i)) h k at e

-- the list of a block after an empty block was added
pub goes_more : (size used : ℕ) (block next prev count next2 prev2 count2 : ℕ → ℕ) (list : ℕ → List ℕ) → GoBy size used block next prev count list
    → (next2 (size + used) ≡ size + used) → (prev2 (size + used) ≡ size + used) → (count2 used ≡ 0)
    → ((k : ℕ) → k ≢ size + used → next2 k ≡ next k) → ((k : ℕ) → k ≢ size + used → prev2 k ≡ prev k) → ((k : ℕ) → k ≢ used → count2 k ≡ count k)
    → GoBy size (suc used) block next2 prev2 count2 (λ b. if b == used then [] else list b)
goes_more size used block next prev count next2 prev2 count2 list g a b z fn fp fc = record {
  ring = λ k h. elim (cases_eq k used) [
    | inl e ↦ rw (eq-eqb k used e, e) (a, b)
    | inr n ↦
        let l : k < used = omega (arith, h, n) in
        rw (ne_eqb k used n)
        (linked_kept next prev next2 prev2 (size + k) (list k) (size + k) (g.ring k l)
        (λ j i. fn j (elim (holds-cases (size + k) j (list k) i) [
          | inl e ↦ λ q. n (omega (arith, e, q))
          | inr t ↦ let y = (g.mine k j l t).0 in λ q. absurd (omega (arith, y, q))
        ]))
        (λ j i. fp j (elim (holds-cases (size + k) j (list k) (turned (size + k) j (list k) i)) [
          | inl e ↦ λ q. n (omega (arith, e, q))
          | inr t ↦ let y = (g.mine k j l t).0 in λ q. absurd (omega (arith, y, q))
        ])))
  ];
  long = λ k h. elim (cases_eq k used) [
    | inl e ↦ rw (eq-eqb k used e, e) z
    | inr n ↦ rw (ne_eqb k used n) (fc k n ∙ g.long k (omega (arith, h, n)))
  ];
  mine = λ k x h i. elim (cases_eq k used) [
    | inl e ↦ absurd (false≢true (rw (eq-eqb k used e) at i))
    | inr n ↦ g.mine k x (omega (arith, h, n)) (rw (ne_eqb k used n) at i)
  ];
  there = λ x h.
      let t = g.there x h in
      (omega (arith, t.0), rw (ne_eqb (block x) used (λ e. let l = t.0 in absurd (omega (arith, e, l)))) t.1);
  once = λ k h. elim (cases_eq k used) [
    | inl e ↦ rw (eq-eqb k used e) tt
    | inr n ↦ rw (ne_eqb k used n) (g.once k (omega (arith, h, n)))
  ];
}

-- locations in order
pub holds-range : (i n x : ℕ) → i ≤ x → x < i + n → holds (range_with_len i n) x ≡ true
holds-range i zero x h l = absurd (omega (arith, h, l))
holds-range i (suc n) x h l = elim (cases_eq i x) [
  | inl e ↦ rw (eq-eqb i x e) refl
  | inr d ↦ rw (ne_eqb i x d) (holds-range (i + 1) n x (omega (arith, h, d)) (omega (arith, l)))
]

pub range-holds : (i n x : ℕ) → holds (range_with_len i n) x ≡ true → (i ≤ x) × (x < i + n)
range-holds i zero x h = absurd (false≢true h)
range-holds i (suc n) x h = elim (holds-cases i x (range_with_len (i + 1) n) h) [
  | inl e ↦ (omega (arith, e), omega (arith, e))
  | inr t ↦ let r = range-holds (i + 1) n x t in (omega (arith, r.0), omega (arith, r.1))
]

pub once-range : (i n : ℕ) → IsOnce (range_with_len i n)
once-range i zero = tt
once-range i (suc n) = (
  elim (cases_Bool (holds (range_with_len (i + 1) n) i)) [
    | inl t ↦ absurd (let r = range-holds (i + 1) n i t in let a = r.0 in omega (arith, a))
    | inr f ↦ f
  ],
  once-range (i + 1) n,
)

pub linked-range : (next prev : ℕ → ℕ) (size i n : ℕ) → suc i + n ≡ size → ((k : ℕ) → k < size → next k ≡ k + 1) → ((k : ℕ) → 0 < k → k ≤ size → prev k ≡ k - 1)
    → AreLinked next prev i (range_with_len (i + 1) n) size
linked-range next prev size i zero e f b = (f i (omega (arith, e)) ∙ omega (arith, e), b size (omega (arith, e)) (omega arith) ∙ omega (arith, e))
linked-range next prev size i (suc n) e f b = (
  f i (omega (arith, e)),
  b (i + 1) (omega arith) (omega (arith, e)) ∙ omega arith,
  linked-range next prev size (i + 1) n (omega (arith, e)) f b,
)

pub goes_first : (size : ℕ) (block next prev count : ℕ → ℕ) → 0 < size → ((x : ℕ) → x < size → block x ≡ 0) → ((k : ℕ) → k < size → next k ≡ k + 1) → (next size ≡ 0)
    → (prev 0 ≡ size) → ((k : ℕ) → 0 < k → k ≤ size → prev k ≡ k - 1) → (count 0 ≡ size) → GoBy size 1 block next prev count (λ b. range_with_len 0 size)
goes_first zero block next prev count h z f fs ps b c = absurd (omega (arith, h))
goes_first (suc n) block next prev count h z f fs ps b c =
    let size = suc n in
    record {
      ring = λ k l.
          let e : k ≡ 0 = omega (arith, l) in
          rw (e, add-zero size) (fs, ps, linked-range next prev size 0 n (omega arith) f b);
      long = λ k l. let e : k ≡ 0 = omega (arith, l) in ap count e ∙ c ∙ sym (length-range_with_len 0 size);
      mine = λ k x l i.
          let r = range-holds 0 size x i in
          let a = r.1 in
          let y : x < size = omega (arith, a) in
          (y, z x y ∙ omega (arith, l));
      there = λ x l. (let e = z x l in omega (arith, e), holds-range 0 size x (omega arith) (omega (arith, l)));
      once = λ k l. once-range 0 size;
    }
