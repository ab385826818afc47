-- Relations that rows and marks keep, and the lists that are made of them.
use Rattle.std.proofs.Common.{◌≡◌, ℕ, zero, suc, ◌<◌, ◌≤◌, ◌+◌, ◌-◌, ◌++◌, Bool, true, false, if◌then◌else◌, List, [], ◌∷◌, length, refl, sym, ◌∙◌, ap, arith, inl, inr, eq-eqb, Some, Result, IfOk}
use Rattle.std.specs.Prelude.{nat_lt, ◌==◌, slice_index_or, Contains}
use Rattle.std.specs.HashSet.{HashSet}
use Rattle.std.proofs.lemmas.Bool.Decides.{nat_tests}
use Rattle.std.proofs.lemmas.Result.{IfOk-weaker}
use Rattle.std.proofs.lemmas.List.Elements.{Contains-append_left, Contains-push}
use Rattle.diagrams.specs.declared.top.Id.{Id}
use Rattle.diagrams.specs.declared.top.Look.TheVariants.{Terminal}
use Rattle.diagrams.specs.Tree.{put}
use Rattle.diagrams.specs.Eval.{Diagrams, top_of, eval, letter_truth}
use Rattle.diagrams.specs.Live.{IsCanonical}
use Rattle.diagrams.proofs.Meaning.{eval-terminal, live-above}
use Rattle.diagrams.proofs.CofactorLemmas.{AreCofactors, low-value, high-value}
use Rattle.std.proofs.lemmas.Bool.{cases_Bool, and_parts, eqb-true, or_right}
use Rattle.diagrams.proofs.Works.{id_true}
use Rattle.automata.specs.Table.{Table, size_of, mark_of, row_of, next_of}
use Rattle.obligations.specs.declared.simulation.Compared.{Compared}
use Rattle.obligations.specs.Inclusion.{accepts_from, all_accept, AllBelow, AllSimulate, IsSimulation}
use Rattle.obligations.specs.Related.{Pairs, related, LeadsBelow, LeadsWithin, same_compared, IsKnown, IsNoted, AreSimulated, or_same, AreSimulators, AcceptsAll, IsWiderAt}
use Rattle.obligations.proofs.InclusionLemmas.{all_simulate}
use Rattle.obligations.proofs.Entering.{last_place}
use Rattle.std.proofs.Math.Bool.{and-false}

-- the low part of a diagram leads below what the diagram leads below
pub low_below : (s : Diagrams) → IsCanonical s → (size v : ℕ) (f lo hi : Id) → AreCofactors s v f lo hi → LeadsBelow s size f → LeadsBelow s size lo
low_below s c size v f lo hi p b = record {
  live = live-above v _ p.lo_above;
  below = λ a. let h = b.below (put a v false) in rw (low-value s c v f lo hi p a) at h;
}

-- and so does its high part
pub high_below : (s : Diagrams) → IsCanonical s → (size v : ℕ) (f lo hi : Id) → AreCofactors s v f lo hi → LeadsBelow s size f → LeadsBelow s size hi
high_below s c size v f lo hi p b = record {
  live = live-above v _ p.hi_above;
  below = λ a. let h = b.below (put a v true) in rw (high-value s c v f lo hi p a) at h;
}

if_related : (R : ℕ → ℕ → Bool) (b : Bool) (x y z w : ℕ) → R x z ≡ true → R y w ≡ true → R (if b then x else y) (if b then z else w) ≡ true
if_related R true x y z w h k = h
if_related R false x y z w h k = k

-- where both parts are within, the whole is
pub leads_parts : (s : Diagrams) (R : ℕ → ℕ → Bool) (v : ℕ) (f fl fh g gl gh : Id) → AreCofactors s v f fl fh → AreCofactors s v g gl gh → LeadsWithin s R fl gl → LeadsWithin s R fh gh → LeadsWithin s R f g
leads_parts s R v f fl fh g gl gh p q low high a =
    rw (p.splits a, q.splits a) (if_related R (a v) (eval s fh a) (eval s fl a) (eval s gh a) (eval s gl a) (high a) (low a))

module _ {S : Type 0} where
  -- one pair more is known
  pub known_next : (s : Diagrams) (R : ℕ → ℕ → Bool) (old new : HashSet Compared S) (f g : Id) → IsKnown s R old → LeadsWithin s R f g → IsNoted old new (record { lower = f; upper = g }) → IsKnown s R new
  known_next s R old new f g known leads noted pair h =
      let both : Compared = record { lower = f; upper = g } in
      elim (cases_Bool (same_compared both pair)) [
        | inl t ↦
            let e = and_parts _ _ t in
            let p : f ≡ pair.lower = id_true f pair.lower e.0 in
            let q : g ≡ pair.upper = id_true g pair.upper e.1 in
            rw (← p, ← q) leads
        | inr n ↦ let up = noted pair in known pair (sym (rw n at up) ∙ h)
      ]

-- those of one location more are
pub rounds_next : (s : Diagrams) (t : Table) (r q : Pairs) (x : ℕ) → 0 < x → q ≡ r → ((y : ℕ) → x ≤ y → y < size_of t → AreSimulated s t (related r) y (size_of t))
    → AreSimulated s t (related q) (x - 1) (size_of t) → (y : ℕ) → x - 1 ≤ y → y < size_of t → AreSimulated s t (related q) y (size_of t)
rounds_next s t r q x some e all here y h l =
    elim (cases_Bool (nat_lt y x)) [
      | inl u ↦ let g : x - 1 ≡ y = before_last x y some h u in rw (← g) here
      | inr u ↦ let g : x ≤ y = grind (arith, nat_tests) in rw e (all y g l)
    ]
  where
    before_last : (x y : ℕ) → 0 < x → x - 1 ≤ y → nat_lt y x ≡ true → x - 1 ≡ y
    before_last x y some h u = let g : y < x = grind (arith, nat_tests) in omega arith

-- a simulation with each location beside itself is one
pub simulation_or_same : (s : Diagrams) (t : Table) (R : ℕ → ℕ → Bool) → IsSimulation s t R → IsSimulation s t (or_same R)
simulation_or_same s t R i = record {
  marks = λ x y e h.
      elim (cases_Bool (x == y)) [
        | inl u ↦ let g : x ≡ y = eqb-true x y u in rw (← g) h
        | inr u ↦ i.marks x y (rw u at e) h
      ];
  rows = λ x y e a.
      elim (cases_Bool (x == y)) [
        | inl u ↦ let g : x ≡ y = eqb-true x y u in rw (g, eq-eqb (eval s (row_of t y) a) (eval s (row_of t y) a) refl) refl
        | inr u ↦ or_right _ _ (i.rows x y (rw u at e) a)
      ];
}

-- a location that does not accept keeps all from accepting
one_lacks : (s : Diagrams) (t : Table) (w : List ℕ) (x : ℕ) (list : List ℕ) (k : ℕ) → k < length list → slice_index_or list k x ≡ x → accepts_from s t x w ≡ false → all_accept s t w list ≡ false
one_lacks s t w x [] k h e n = absurd (omega arith)
one_lacks s t w x (y ∷ ys) zero h e n = rw (e, n) refl
one_lacks s t w x (y ∷ ys) (suc k) h e n = rw (one_lacks s t w x ys k (omega arith) e n) (and-false (accepts_from s t y w))

-- a location accepts what all of some that simulate it accept, itself among them
wider_among : (s : Diagrams) (t : Table) (R : ℕ → ℕ → Bool) → IsSimulation s t R → (x : ℕ) (list : List ℕ) → AllSimulate R x list → Contains list x → (w : List ℕ) → all_accept s t w list ≡ accepts_from s t x w
wider_among s t R i x list all own w =
    elim (cases_Bool (accepts_from s t x w)) [
      | inl e ↦ rw e (all_simulate s t R i x list all w e)
      | inr e ↦ rw e (one_lacks s t w x list own.0 own.1 own.2 e)
    ]

-- locations that simulate one, itself among them
pub simulators_wider : (s : Diagrams) (t : Table) (R : ℕ → ℕ → Bool) (size x : ℕ) (list : List ℕ) → size ≡ size_of t → IsSimulation s t R → AreSimulators R size x list → IsWiderAt s t x list
simulators_wider s t R size x list e i a = record {
  within = rw (← e) a.within;
  same = λ w. wider_among s t (or_same R) (simulation_or_same s t R i) x list a.each a.itself w;
}

-- where a list was made of locations that simulate one, itself among them
pub simulators_wider_ok : {X E : Type 0} (r : Result X E) (view : X → List ℕ) (s : Diagrams) (t : Table) (R : ℕ → ℕ → Bool) (size x : ℕ) → size ≡ size_of t → IsSimulation s t R
    → IfOk r (λ list. AreSimulators R size x (view list)) → IfOk r (λ list. IsWiderAt s t x (view list))
simulators_wider_ok r view s t R size x e i =
    IfOk-weaker r (λ list. AreSimulators R size x (view list)) (λ list. IsWiderAt s t x (view list)) (λ list a. simulators_wider s t R size x (view list) e i a)

-- a location with the mark 1 that leads to itself accepts every word
pub accepts_all_at : (s : Diagrams) (t : Table) (at : ℕ) → top_of s (row_of t at) ≡ Some (Terminal at) → (mark_of t at == 1) ≡ true → AcceptsAll s t at
accepts_all_at s t at e m [] = m
accepts_all_at s t at e m (letter ∷ w) =
    let to : next_of s t at letter ≡ at = eval-terminal s (row_of t at) at e (letter_truth s.props letter) in
    ap (λ x. accepts_from s t x w) to ∙ accepts_all_at s t at e m w

-- one location more in a list
pub below_push : (size : ℕ) (list : List ℕ) (y : ℕ) → AllBelow size list → y < size → AllBelow size (list ++ y ∷ [])
below_push size [] y b h = (h, tt)
below_push size (x ∷ xs) y b h = (b.0, below_push size xs y b.1 h)

-- one location more in a list of those that simulate one
pub simulate_push : (R : ℕ → ℕ → Bool) (x : ℕ) (list : List ℕ) (y : ℕ) → AllSimulate R x list → R x y ≡ true → AllSimulate R x (list ++ y ∷ [])
simulate_push R x [] y a h = (h, tt)
simulate_push R x (z ∷ zs) y a h = (a.0, simulate_push R x zs y a.1 h)

-- a location that was passed over is not the one that is sought
pub before_skipped : (x y : ℕ) → (y ≡ x → ⊥) → x < y + 1 → x < y
before_skipped x y n h =
    elim (cases_Bool (nat_lt x y)) [
      | inl u ↦ grind (arith, nat_tests)
      | inr u ↦ let g : y ≡ x = last_place x y h u in absurd (n g)
    ]

-- the location itself is in the list once it was passed
pub itself_push : (list : List ℕ) (x y : ℕ) → (x < y → Contains list x) → x < y + 1 → Contains (list ++ y ∷ []) x
itself_push list x y own h =
    elim (cases_Bool (nat_lt x y)) [
      | inl u ↦ let g : x < y = grind (arith, nat_tests) in Contains-append_left list (y ∷ []) x (own g)
      | inr u ↦ let g : y ≡ x = last_place x y h u in rw g (Contains-push list x)
    ]

-- a location is the same as itself
pub or_same_itself : (R : ℕ → ℕ → Bool) (x y : ℕ) → y ≡ x → or_same R x y ≡ true
or_same_itself R x y e = rw (eq-eqb x y (sym e)) refl
