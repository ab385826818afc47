-- Links and lists.
use Rattle.std.proofs.Common.{◌≡◌, ◌≢◌, ◌<◌, ◌≤◌, ◌+◌, ◌++◌, ◌==◌, ◌⊎◌, ℕ, zero, suc, Bool, true, false, cond, not, List, [], ◌∷◌, refl, sym, ◌∙◌, ap, subst, arith, inl, inr, length}
use Rattle.std.proofs.lemmas.Bool.{cases_eq, cases_Bool, eqb-true, eqb-false, eq-eqb, ne_eqb, false≢true}
use Rattle.linked_blocks.specs.Lists.{holds, without, IsOnce}
use Rattle.linked_blocks.specs.Links.{chain, AreLinked}

-- a list with one location more
pub holds-head : (x : ℕ) (xs : List ℕ) → holds (x ∷ xs) x ≡ true
holds-head x xs = rw (eq-eqb x x refl) refl

pub holds-tail : (x at : ℕ) (xs : List ℕ) → holds xs at ≡ true → holds (x ∷ xs) at ≡ true
holds-tail x at xs h = elim (cases_eq x at) [
  | inl e ↦ rw (eq-eqb x at e) refl
  | inr n ↦ rw (ne_eqb x at n) h
]

pub holds-cases : (x at : ℕ) (xs : List ℕ) → holds (x ∷ xs) at ≡ true → (x ≡ at) ⊎ (holds xs at ≡ true)
holds-cases x at xs h = elim (cases_eq x at) [
  | inl e ↦ inl e
  | inr n ↦ inr (rw (ne_eqb x at n) at h)
]

-- neither its first location nor the rest is one that it doesn't hold
pub lacks-cons : (x at : ℕ) (xs : List ℕ) → holds (x ∷ xs) at ≡ false → (x ≢ at) × (holds xs at ≡ false)
lacks-cons x at xs h = elim (cases_eq x at) [
  | inl e ↦ absurd (false≢true (sym h ∙ rw (eq-eqb x at e) refl))
  | inr n ↦ (n, rw (ne_eqb x at n) at h)
]

pub lacks-join : (x at : ℕ) (xs : List ℕ) → x ≢ at → holds xs at ≡ false → holds (x ∷ xs) at ≡ false
lacks-join x at xs n h = rw (ne_eqb x at n) h

pub lacks-append : (xs ys : List ℕ) (at : ℕ) → holds (xs ++ ys) at ≡ false → (holds xs at ≡ false) × (holds ys at ≡ false)
lacks-append [] ys at h = (refl, h)
lacks-append (x ∷ xs) ys at h =
    let c = lacks-cons x at (xs ++ ys) h in
    let r = lacks-append xs ys at c.1 in
    (lacks-join x at xs c.0 r.0, r.1)

pub lacks-append_both : (xs ys : List ℕ) (at : ℕ) → holds xs at ≡ false → holds ys at ≡ false → holds (xs ++ ys) at ≡ false
lacks-append_both [] ys at h k = k
lacks-append_both (x ∷ xs) ys at h k =
    let c = lacks-cons x at xs h in lacks-join x at (xs ++ ys) c.0 (lacks-append_both xs ys at c.1 k)

-- what one list holds and another lacks are different
pub held-apart : (xs : List ℕ) (x y : ℕ) → holds xs x ≡ true → holds xs y ≡ false → x ≢ y
held-apart xs x y h l e = false≢true (sym l ∙ ap (holds xs) (sym e) ∙ h)

pub holds-append : (xs ys : List ℕ) (at : ℕ) → holds (xs ++ ys) at ≡ true → (holds xs at ≡ true) ⊎ (holds ys at ≡ true)
holds-append xs ys at h = elim (cases_Bool (holds xs at)) [
  | inl t ↦ inl t
  | inr f ↦ elim (cases_Bool (holds ys at)) [
    | inl t ↦ inr t
    | inr g ↦ absurd (false≢true (sym (lacks-append_both xs ys at f g) ∙ h))
  ]
]

pub holds-left : (xs ys : List ℕ) (at : ℕ) → holds xs at ≡ true → holds (xs ++ ys) at ≡ true
holds-left xs ys at h = elim (cases_Bool (holds (xs ++ ys) at)) [
  | inl t ↦ t
  | inr f ↦ absurd (false≢true (sym (lacks-append xs ys at f).0 ∙ h))
]

pub holds-right : (xs ys : List ℕ) (at : ℕ) → holds ys at ≡ true → holds (xs ++ ys) at ≡ true
holds-right xs ys at h = elim (cases_Bool (holds (xs ++ ys) at)) [
  | inl t ↦ t
  | inr f ↦ absurd (false≢true (sym (lacks-append xs ys at f).1 ∙ h))
]

-- the place before the end of a linked list, and the place after its beginning
pub before-in : (n p : ℕ → ℕ) (from : ℕ) (xs : List ℕ) (end : ℕ) → AreLinked n p from xs end → holds (from ∷ xs) (p end) ≡ true
before-in n p from [] end l = rw (l.1) (holds-head from [])
before-in n p from (x ∷ xs) end l = holds-tail from (p end) (x ∷ xs) (before-in n p x xs end l.2)

pub after-in : (n p : ℕ → ℕ) (from : ℕ) (xs : List ℕ) (end : ℕ) → AreLinked n p from xs end → holds (xs ++ end ∷ []) (n from) ≡ true
after-in n p from [] end l = subst (λ z. holds (end ∷ []) z ≡ true) (sym l.0) (holds-head end [])
after-in n p from (x ∷ xs) end l = subst (λ z. holds (x ∷ (xs ++ end ∷ [])) z ≡ true) (sym l.0) (holds-head x (xs ++ end ∷ []))

-- links that change at no place of the list
pub linked_kept : (n p m q : ℕ → ℕ) (from : ℕ) (xs : List ℕ) (end : ℕ) → AreLinked n p from xs end
    → ((k : ℕ) → holds (from ∷ xs) k ≡ true → m k ≡ n k) → ((k : ℕ) → holds (xs ++ end ∷ []) k ≡ true → q k ≡ p k) → AreLinked m q from xs end
linked_kept n p m q from [] end l f g = (f from (holds-head from []) ∙ l.0, g end (holds-head end []) ∙ l.1)
linked_kept n p m q from (x ∷ xs) end l f g = (
  f from (holds-head from (x ∷ xs)) ∙ l.0,
  g x (holds-head x (xs ++ end ∷ [])) ∙ l.1,
  linked_kept n p m q x xs end l.2 (λ k h. f k (holds-tail from k (x ∷ xs) h)) (λ k h. g k (holds-tail x k (xs ++ end ∷ []) h)),
)

-- a linked list at one of its locations
pub linked_split : (n p : ℕ → ℕ) (from : ℕ) (xs : List ℕ) (at : ℕ) (ys : List ℕ) (end : ℕ) → AreLinked n p from (xs ++ at ∷ ys) end
    → AreLinked n p from xs at × AreLinked n p at ys end
linked_split n p from [] at ys end l = ((l.0, l.1), l.2)
linked_split n p from (x ∷ xs) at ys end l =
    let r = linked_split n p x xs at ys end l.2 in ((l.0, l.1, r.0), r.1)

-- the neighbours of a place that is taken out are linked to each other, and nothing else changes
pub record IsUnlinked (n p m q : ℕ → ℕ) (at : ℕ) : Type 0 where
  pub forth : m (p at) ≡ n at
  pub others_forth : (k : ℕ) → k ≢ p at → m k ≡ n k
  pub back : q (n at) ≡ p at
  pub others_back : (k : ℕ) → k ≢ n at → q k ≡ p k

unlinked-here : (n p m q : ℕ → ℕ) (from at : ℕ) (ys : List ℕ) (end : ℕ) → IsUnlinked n p m q at → n from ≡ at → p at ≡ from → AreLinked n p at ys end
    → holds ys from ≡ false → IsOnce ys → holds ys end ≡ false → AreLinked m q from ys end
unlinked-here n p m q from at [] end u f b l lacks once apart =
    (rw (← b) (u.forth ∙ l.0), rw (← l.0) (u.back ∙ b))
unlinked-here n p m q from at (y ∷ ys) end u f b l lacks once apart = (
  rw (← b) (u.forth ∙ l.0),
  rw (← l.0) (u.back ∙ b),
  linked_kept n p m q y ys end l.2
      (λ k h. u.others_forth k (rw (b) (held-apart (y ∷ ys) k from h lacks)))
      (λ k h. u.others_back k (rw (l.0) (elim (holds-append ys (end ∷ []) k h) [
        | inl i ↦ held-apart ys k y i once.0
        | inr i ↦ elim (holds-cases end k [] i) [
          | inl e ↦ λ q. (lacks-cons y end ys apart).0 (sym q ∙ sym e)
          | inr i ↦ absurd (false≢true i)
        ]
      ]))),
)

once-right : (xs ys : List ℕ) → IsOnce (xs ++ ys) → IsOnce ys
once-right [] ys o = o
once-right (x ∷ xs) ys o = once-right xs ys o.1

-- a linked list without one of its locations
pub unlinked : (n p m q : ℕ → ℕ) (from : ℕ) (xs : List ℕ) (at : ℕ) (ys : List ℕ) (end : ℕ) → IsUnlinked n p m q at → AreLinked n p from (xs ++ at ∷ ys) end
    → holds (xs ++ at ∷ ys) from ≡ false → IsOnce (xs ++ at ∷ ys) → holds (xs ++ at ∷ ys) end ≡ false → AreLinked m q from (xs ++ ys) end
unlinked n p m q from [] at ys end u l lacks once apart =
    unlinked-here n p m q from at ys end u l.0 l.1 l.2 (lacks-cons at from ys lacks).1 once.1 (lacks-cons at end ys apart).1
unlinked n p m q from (x ∷ xs) at ys end u l lacks once apart =
    let s = linked_split n p x xs at ys end l.2 in
    let c = lacks-cons x from (xs ++ at ∷ ys) lacks in
    let d = lacks-append xs (at ∷ ys) from c.1 in
    let o = lacks-append xs (at ∷ ys) x once.0 in
    let y = lacks-cons x end (xs ++ at ∷ ys) apart in (
      u.others_forth from (λ e. held-apart (x ∷ xs) (p at) from (before-in n p x xs at s.0) (lacks-join x from xs c.0 d.0) (sym e)) ∙ l.0,
      u.others_back x (λ e. held-apart (ys ++ end ∷ []) (n at) x (after-in n p at ys end s.1)
          (lacks-append_both ys (end ∷ []) x (lacks-cons at x ys o.1).1 (lacks-join end x [] (λ z. y.0 (sym z)) refl)) (sym e)) ∙ l.1,
      unlinked n p m q x xs at ys end u l.2 once.0 once.1 y.1,
    )

-- a place is put between an end and the place before it, and nothing else changes
pub record IsLinkedIn (n p m q : ℕ → ℕ) (at end : ℕ) : Type 0 where
  pub last : m (p end) ≡ at
  pub forth : m at ≡ end
  pub others_forth : (k : ℕ) → k ≢ p end → k ≢ at → m k ≡ n k
  pub back : q at ≡ p end
  pub ends : q end ≡ at
  pub others_back : (k : ℕ) → k ≢ at → k ≢ end → q k ≡ p k

-- a linked list with one location more at its end
pub linked_in : (n p m q : ℕ → ℕ) (from : ℕ) (xs : List ℕ) (at end : ℕ) → IsLinkedIn n p m q at end → AreLinked n p from xs end → holds (from ∷ xs) at ≡ false
    → holds xs from ≡ false → IsOnce xs → holds xs end ≡ false → AreLinked m q from (xs ++ at ∷ []) end
linked_in n p m q from [] at end u l new lacks once apart =
    (rw (← l.1) u.last, u.back ∙ l.1, (u.forth, u.ends))
linked_in n p m q from (x ∷ xs) at end u l new lacks once apart =
    let c = lacks-cons from at (x ∷ xs) new in
    let d = lacks-cons x at xs c.1 in
    let y = lacks-cons x end xs apart in (
      u.others_forth from (λ e. held-apart (x ∷ xs) (p end) from (before-in n p x xs end l.2) lacks (sym e)) c.0 ∙ l.0,
      u.others_back x d.0 y.0 ∙ l.1,
      linked_in n p m q x xs at end u l.2 c.1 once.0 once.1 y.1,
    )

-- the chain along a linked list is the list
pub chain-linked : (n p : ℕ → ℕ) (from : ℕ) (xs : List ℕ) (end : ℕ) → AreLinked n p from xs end → chain n (length xs) (n from) ≡ xs
chain-linked n p from [] end l = refl
chain-linked n p from (x ∷ xs) end l = rw (l.0) (ap (λ z. x ∷ z) (chain-linked n p x xs end l.2))
