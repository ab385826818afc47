-- Lists joined end to end, and lists made of others.
use Rattle.std.proofs.Common.{◌<◌, ◌+◌, ◌-◌, ◌++◌, ℕ, List, refl, ◌∙◌, ap, arith, inl, inr, length, length-append, map, get_or}
use Rattle.std.specs.Prelude.{AllPairs, Any, Contains}
use Rattle.std.proofs.lemmas.Bool.{cases_lt}
use Rattle.std.proofs.lemmas.List.{get_or_append_left, get_or-append_right, get_or-append-add, get_or-map, length-map}

-- a relation of all pairs of two lists, and of each item of the first with each of the second, is one of all pairs of the joined list
pub all_pairs_append : {X : Type 0} → (R : X → X → Type 0) (xs ys : List X) → AllPairs R xs → AllPairs R ys
    → ((i j : ℕ) (d : X) → i < length xs → j < length ys → R (get_or xs i d) (get_or ys j d)) → AllPairs R (xs ++ ys)
all_pairs_append R xs ys a b c i j d h k =
    let l : j < length xs + length ys = omega (arith, k, length-append xs ys) in
    elim (cases_lt j (length xs)) [
      | inl q ↦ rw (get_or_append_left xs ys d i (omega (arith, h, q)), get_or_append_left xs ys d j q) (a i j d h q)
      | inr q ↦ elim (cases_lt i (length xs)) [
        | inl r ↦ rw (get_or_append_left xs ys d i r, get_or-append_right xs ys (length xs) j d refl q) (c i (j - length xs) d r (omega (arith, l, q)))
        | inr r ↦
            rw (get_or-append_right xs ys (length xs) i d refl r, get_or-append_right xs ys (length xs) j d refl q)
            (b (i - length xs) (j - length xs) d (omega (arith, h, r, q)) (omega (arith, l, q)))
      ]
    ]

-- a relation of what is made of all pairs is one of all pairs of what is made
pub all_pairs_map : {X Y : Type 0} → (R : X → X → Type 0) (f : Y → X) (ys : List Y) (e : Y) → AllPairs (λ x y. R (f x) (f y)) ys → AllPairs R (map f ys)
all_pairs_map R f ys e a i j d h k =
    let l : j < length ys = omega (arith, k, length-map ys f) in
    rw (get_or-map f ys i e d (omega (arith, h, l)), get_or-map f ys j e d l) (a i j e h l)

-- what holds of some item of a list does so with others after them
pub any_left : {X : Type 0} → (P : X → Type 0) (xs ys : List X) → Any P xs → Any P (xs ++ ys)
any_left P xs ys a = (a.0, a.1, omega (arith, a.2, length-append xs ys), get_or_append_left xs ys a.1 a.0 a.2 ∙ a.3, a.4)

-- and with others before them
pub any_right : {X : Type 0} → (P : X → Type 0) (xs ys : List X) → Any P ys → Any P (xs ++ ys)
any_right P xs ys a = (length xs + a.0, a.1, omega (arith, a.2, length-append xs ys), get_or-append-add xs ys a.0 a.1 ∙ a.3, a.4)

-- what holds of what is made of some item holds of some item of the list that is made
pub any_map : {X Y : Type 0} → (P : X → Type 0) (f : Y → X) (ys : List Y) → Any (λ y. P (f y)) ys → Any P (map f ys)
any_map P f ys a = (a.0, f a.1, omega (arith, a.2, length-map ys f), get_or-map f ys a.0 a.1 (f a.1) a.2 ∙ ap f a.3, a.4)

-- where each item of a list is in another, so is one with a fact
pub any_moves : {X : Type 0} → (P : X → Type 0) (xs ys : List X) → ((x : X) → Contains xs x → Contains ys x) → Any P xs → Any P ys
any_moves P xs ys f a = let c = f a.1 (a.0, a.2, a.3) in (c.0, a.1, c.1, c.2, a.4)
