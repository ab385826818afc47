-- Numbering pairs, and diagrams of their numbers.
use Rattle.std.proofs.Common.{◌≡◌, ◌<◌, ◌+◌, ◌-◌, ◌^◌, ◌++◌, ℕ, zero, suc, List, [], ◌∷◌, Bool, true, false, Some, sym, ◌∙◌, ap, subst, arith, inl, inr, length, length-append, true≢false, if◌then◌else◌}
use Rattle.std.specs.Prelude.{slice_get}
use Rattle.std.specs.List.{list_any}
use Rattle.std.proofs.lemmas.Bool.{cases_Bool, and_parts, eqb-true, or_left, or_right}
use Rattle.indexmap.specs.IndexSet.{insert_key}
use Rattle.diagrams.specs.declared.top.Id.{Id}
use Rattle.diagrams.specs.Tree.{Assignment}
use Rattle.diagrams.specs.Eval.{Diagrams, eval, DependsOn}
use Rattle.diagrams.specs.Live.{Keeps}
use Rattle.diagrams.proofs.Meaning.{eval-lasts, live_lasts}
use Rattle.diagrams.proofs.Table.{get-push_old, get-push_cases}
use Rattle.products.specs.declared.places.Place.{Place}
use Rattle.products.specs.declared.places.Rows.{Rows}
use Rattle.products.specs.Places.{same_place, same_rows, ArePlaces, AreMet, Grows, IsPairing, IsPaired}

-- places that are the same are equal
pub place_true : (x y : Place) → same_place x y ≡ true → x ≡ y
place_true x y e =
    let p = and_parts _ _ e in
    let left : x.left ≡ y.left = eqb-true x.left y.left p.0 in
    let right : x.right ≡ y.right = eqb-true x.right y.right p.1 in
    λ d. record { left = left d; right = right d }

pub place_same : (x : Place) → same_place x x ≡ true
place_same x = grind arith

-- and so are pairs of rows
pub rows_true : (x y : Rows) → same_rows x y ≡ true → x ≡ y
rows_true x y e =
    let p = and_parts _ _ e in
    let left : x.left.0 ≡ y.left.0 = eqb-true x.left.0 y.left.0 p.0 in
    let right : x.right.0 ≡ y.right.0 = eqb-true x.right.0 y.right.0 p.1 in
    λ d. record { left = record { 0 = left d }; right = record { 0 = right d } }

any-at : (p : Place → Bool) (ks : List Place) (j : ℕ) (k : Place) → slice_get ks j ≡ Some k → p k ≡ true → list_any p ks ≡ true
any-at p [] j k e h = absurd (cc)
any-at p (x ∷ ks) zero k e h = let q : x ≡ k = cc in or_left _ _ (ap p q ∙ h)
any-at p (x ∷ ks) (suc j) k e h = or_right (p x) _ (any-at p ks j k e h)

-- what an insertion leaves
pub record IsNumbered (old new : List Place) (place : Place) : Type 0 where
  pub places : ArePlaces new
  pub grows : Grows old new
  pub met : AreMet old new (λ _. place.left) (λ _. place.right)

-- some assignment
abbrev pub nowhere_true : Assignment
nowhere_true = λ _. false

pub numbered : (old new : List Place) (place : Place) (i : ℕ) → ArePlaces old → new ≡ insert_key same_place old place → slice_get new i ≡ Some place → i < 2 ^ 32 - 2
    → IsNumbered old new place
numbered old new place i r e at few =
    elim (cases_Bool (list_any (same_place place) old)) [
      | inl t ↦
          let same : new ≡ old = e ∙ ap (λ b. if b then old else old ++ place ∷ []) t in
          record { places = subst ArePlaces (sym same) r; grows = λ j p q. ap (λ ks. slice_get ks j) same ∙ q; met = λ j p q. inl (ap (λ ks. slice_get ks j) (sym same) ∙ q) }
      | inr f ↦
          let more : new ≡ old ++ place ∷ [] = e ∙ ap (λ b. if b then old else old ++ place ∷ []) f in
          let absent : (j : ℕ) → slice_get old j ≡ Some place → ⊥ = λ j q. true≢false (sym (any-at (same_place place) old j place q (place_same place)) ∙ f) in
          let here : slice_get (old ++ place ∷ []) i ≡ Some place = ap (λ ks. slice_get ks i) (sym more) ∙ at in
          let last : i ≡ length old = elim (get-push_cases old place place i here) [ inl h ↦ absurd (absent i h) | inr h ↦ h.0 ] in
          record {
            places = record {
              once = λ j k p x y.
                  let x' : slice_get (old ++ place ∷ []) j ≡ Some p = ap (λ ks. slice_get ks j) (sym more) ∙ x in
                  let y' : slice_get (old ++ place ∷ []) k ≡ Some p = ap (λ ks. slice_get ks k) (sym more) ∙ y in
                  elim (get-push_cases old place p j x') [
                    | inl h ↦ elim (get-push_cases old place p k y') [
                      | inl h' ↦ r.once j k p h h'
                      | inr h' ↦ absurd (absent j (h ∙ ap Some h'.1))
                    ]
                    | inr h ↦ elim (get-push_cases old place p k y') [
                      | inl h' ↦ absurd (absent k (h' ∙ ap Some h.1))
                      | inr h' ↦ h.0 ∙ sym h'.0
                    ]
                  ];
              few = let l : length new ≡ length old + 1 = ap length more ∙ length-append old (place ∷ []) in omega arith;
            };
            grows = λ j p q. ap (λ ks. slice_get ks j) more ∙ get-push_old old place p j q;
            met = λ j p q. elim (get-push_cases old place p j (ap (λ ks. slice_get ks j) (sym more) ∙ q)) [ inl h ↦ inl h | inr h ↦ inr (nowhere_true, h.1) ];
          }
    ]

-- a diagram of numbers depends on what the two functions depend on
pub pairing_depends : (s : Diagrams) (places : List Place) (f g : Assignment → ℕ) (id : Id) → ArePlaces places → IsPairing s places f g id → (P : ℕ → Type 0)
    → ((a b : Assignment) → ((v : ℕ) → P v → a v ≡ b v) → f a ≡ f b) → ((a b : Assignment) → ((v : ℕ) → P v → a v ≡ b v) → g a ≡ g b) → DependsOn s id P
pairing_depends s places f g id r p P df dg a b same =
    let e : f a ≡ f b = df a b same in
    let h : g a ≡ g b = dg a b same in
    let T : ℕ → ℕ → Place = λ x y. record { left = x; right = y } in
    r.once (eval s id a) (eval s id b) (record { left = f b; right = g b }) (p.value a ∙ ap (λ x. Some (T x (g a))) e ∙ ap (λ y. Some (T (f b) y)) h) (p.value b)

-- it is one still as the store and the places grow
pub pairing_lasts : (s n : Diagrams) (old new : List Place) (f g : Assignment → ℕ) (id : Id) → Keeps s n → Grows old new → IsPairing s old f g id → IsPairing n new f g id
pairing_lasts s n old new f g id k grows p =
    record {
      live = live_lasts s n k.extends id p.live;
      value = λ a. ap (λ x. slice_get new x) (eval-lasts s n k.was k.now k.extends id p.live a) ∙ grows (eval s id a) (record { left = f a; right = g a }) (p.value a);
    }

pub paired_lasts : (s n : Diagrams) (old new : List Place) (rows : Rows) (id : Id) → Keeps s n → Grows old new → IsPaired s old rows id → IsPaired n new rows id
paired_lasts s n old new rows id k grows p =
    let T : ℕ → ℕ → Place = λ x y. record { left = x; right = y } in
    let q = pairing_lasts s n old new (eval s rows.left) (eval s rows.right) id k grows p.pairing in
    record {
      left = live_lasts s n k.extends rows.left p.left;
      right = live_lasts s n k.extends rows.right p.right;
      pairing = record {
        live = q.live;
        value = λ a. q.value a
            ∙ ap (λ x. Some (T x (eval s rows.right a))) (sym (eval-lasts s n k.was k.now k.extends rows.left p.left a))
            ∙ ap (λ y. Some (T (eval n rows.left a) y)) (sym (eval-lasts s n k.was k.now k.extends rows.right p.right a));
      };
    }
