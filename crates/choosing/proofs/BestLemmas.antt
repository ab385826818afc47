-- What the movers reach is the best that can be forced, and the least choice of outputs that keeps it.
use Rattle.std.proofs.Common.{◌≡◌, ◌≢◌, ◌<◌, ◌≤◌, ◌+◌, ◌-◌, ◌^◌, ℕ, zero, suc, List, refl, sym, ◌∙◌, ap, subst, arith, inl, inr, ◌⊎◌, Bool, true, false, if◌then◌else◌}
use Rattle.std.specs.Prelude.{◌==◌, nat_le, slice_index}
use Rattle.std.proofs.lemmas.Bool.{cases_Bool, cases_lt, cases_order, eqb-true, eqb-false, eq-eqb, ne_eqb, and_from, and_right, lt-ltb, le-ltb, le-leb}
use Rattle.std.proofs.lemmas.Nat.{pow_pos}
use Rattle.diagrams.specs.Tree.{Tree, Constant, Branch, Assignment, put, IsAbove, IsReduced}
use Rattle.diagrams.proofs.Canon.{put-same, put-above}
use Rattle.diagrams.proofs.Windows.{Starts, starts_above}
use Rattle.choosing.specs.declared.walks.Extreme.{Extreme}
use Rattle.choosing.specs.declared.walks.Extreme.TheVariants.{Least, Greatest}
use Rattle.choosing.specs.declared.walks.Turns.{Turns}
use Rattle.choosing.specs.Best.{better_of, is_output, best_of, rest_of, first_of, IsAsGood}
use Rattle.choosing.specs.Numbers.{number_at}
use Rattle.choosing.proofs.NumberLemmas.{number-low, number-high, spelling}

pub good-refl : (e : Extreme) (x : ℕ) → IsAsGood e x x
good-refl Least x = omega arith
good-refl Greatest x = omega arith

pub good-trans : (e : Extreme) (x y z : ℕ) → IsAsGood e x y → IsAsGood e y z → IsAsGood e x z
good-trans Least x y z p q = omega (arith, p, q)
good-trans Greatest x y z p q = omega (arith, p, q)

pub good-both : (e : Extreme) (x y : ℕ) → IsAsGood e x y → IsAsGood e y x → x ≡ y
good-both Least x y p q = omega (arith, p, q)
good-both Greatest x y p q = omega (arith, p, q)

pub better-left : (e : Extreme) (x y : ℕ) → IsAsGood e (better_of e x y) x
better-left Least x y = omega arith
better-left Greatest x y = omega arith

pub better-right : (e : Extreme) (x y : ℕ) → IsAsGood e (better_of e x y) y
better-right Least x y = omega arith
better-right Greatest x y = omega arith

pub better-one : (e : Extreme) (x y : ℕ) → (better_of e x y ≡ x) ⊎ (better_of e x y ≡ y)
better-one Least x y = elim (cases_lt x y) [ inl h ↦ inl (omega (arith, h)) | inr h ↦ inr (omega (arith, h)) ]
better-one Greatest x y = elim (cases_lt x y) [ inl h ↦ inr (omega (arith, h)) | inr h ↦ inl (omega (arith, h)) ]

pub output-in : (turns : Turns) (v : ℕ) → turns.from ≤ v → v < turns.to → is_output turns v ≡ true
output-in turns v h k = and_from _ _ (le-leb turns.from v h) (lt-ltb v turns.to k)

pub output-past : (turns : Turns) (v : ℕ) → turns.to ≤ v → is_output turns v ≡ false
output-past turns v h = and_right (nat_le turns.from v) _ (le-ltb v turns.to h)

pub rest-output : (turns : Turns) (a : Assignment) (v : ℕ) (lo hi : Tree) → is_output turns v ≡ true → rest_of turns a (Branch v lo hi) ≡ (if a v then rest_of turns a hi else rest_of turns a lo)
rest-output turns a v lo hi e = rw e refl

pub rest-input : (turns : Turns) (a : Assignment) (v : ℕ) (lo hi : Tree) → is_output turns v ≡ false → rest_of turns a (Branch v lo hi) ≡ Branch v lo hi
rest-input turns a v lo hi e = rw e refl

pub best-output : (turns : Turns) (values : List ℕ) (v : ℕ) (lo hi : Tree) → is_output turns v ≡ true
    → best_of turns values (Branch v lo hi) ≡ better_of turns.agent (best_of turns values lo) (best_of turns values hi)
best-output turns values v lo hi e = ap (λ z. better_of (if z then turns.agent else turns.environment) (best_of turns values lo) (best_of turns values hi)) e

-- whatever the outputs, the agent reaches nothing better than the best
pub best-bound : (turns : Turns) (values : List ℕ) (t : Tree) (a : Assignment) → IsAsGood turns.agent (best_of turns values t) (best_of turns values (rest_of turns a t))
best-bound turns values (Constant x) a = good-refl turns.agent (slice_index values x)
best-bound turns values (Branch v lo hi) a =
    let bl = best_of turns values lo in
    let bh = best_of turns values hi in
    elim (cases_Bool (is_output turns v)) [
      | inl e ↦
          let whole = best-output turns values v lo hi e in
          elim (cases_Bool (a v)) [
            | inl k ↦
                let rest = rest-output turns a v lo hi e ∙ ap (λ z. if z then rest_of turns a hi else rest_of turns a lo) k in
                subst (λ z. IsAsGood turns.agent z (best_of turns values (rest_of turns a (Branch v lo hi)))) (sym whole)
                (subst (λ z. IsAsGood turns.agent (better_of turns.agent bl bh) (best_of turns values z)) (sym rest)
                (good-trans turns.agent (better_of turns.agent bl bh) bh (best_of turns values (rest_of turns a hi)) (better-right turns.agent bl bh) (best-bound turns values hi a)))
            | inr k ↦
                let rest = rest-output turns a v lo hi e ∙ ap (λ z. if z then rest_of turns a hi else rest_of turns a lo) k in
                subst (λ z. IsAsGood turns.agent z (best_of turns values (rest_of turns a (Branch v lo hi)))) (sym whole)
                (subst (λ z. IsAsGood turns.agent (better_of turns.agent bl bh) (best_of turns values z)) (sym rest)
                (good-trans turns.agent (better_of turns.agent bl bh) bl (best_of turns values (rest_of turns a lo)) (better-left turns.agent bl bh) (best-bound turns values lo a)))
          ]
      | inr e ↦
          subst (λ z. IsAsGood turns.agent (best_of turns values (Branch v lo hi)) (best_of turns values z)) (sym (rest-input turns a v lo hi e))
          (good-refl turns.agent (best_of turns values (Branch v lo hi)))
    ]

above-more : (v w : ℕ) (t : Tree) → v ≤ w → IsAbove w t → IsAbove v t
above-more v w (Constant x) h k = tt
above-more v w (Branch u lo hi) h k = omega (arith, h, k)

-- a variable before a tree changes nothing of its rest
pub rest-put : (turns : Turns) (a : Assignment) (v : ℕ) (x : Bool) (t : Tree) → IsAbove v t → IsReduced t → rest_of turns (put a v x) t ≡ rest_of turns a t
rest-put turns a v x (Constant y) h r = refl
rest-put turns a v x (Branch w lo hi) h r =
    let low = rest-put turns a v x lo (above-more v w lo (omega (arith, h)) r.0) r.3 in
    let high = rest-put turns a v x hi (above-more v w hi (omega (arith, h)) r.1) r.4 in
    ap (λ z. if is_output turns w then (if z then rest_of turns (put a v x) hi else rest_of turns (put a v x) lo) else Branch w lo hi) (put-above a v x w h)
    ∙ ap (λ z. if is_output turns w then (if a w then z else rest_of turns (put a v x) lo) else Branch w lo hi) high
    ∙ ap (λ z. if is_output turns w then (if a w then rest_of turns a hi else z) else Branch w lo hi) low

-- the number is the least of n outputs from v on with which the best is reached
pub record IsFirst (turns : Turns) (values : List ℕ) (n v : ℕ) (t : Tree) : Type 0 where
  pub small : first_of turns values t < 2 ^ n
  pub least : (b : Assignment) → best_of turns values (rest_of turns b t) ≡ best_of turns values t → first_of turns values t ≤ number_at b v n
  pub taken : (b : Assignment) × (best_of turns values (rest_of turns b t) ≡ best_of turns values t) × (number_at b v n ≡ first_of turns values t)

first-none : (turns : Turns) (values : List ℕ) (n v : ℕ) (t : Tree) → first_of turns values t ≡ 0 → ((a : Assignment) → rest_of turns a t ≡ t) → IsFirst turns values n v t
first-none turns values n v t e rest =
    let p = pow_pos n in
    let r = spelling v n 0 p in
    record {
      small = omega (arith, e, p);
      least = λ b same. omega (arith, e);
      taken = (r.0, ap (best_of turns values) (rest r.0), r.1 ∙ sym e);
    }

first-later : (turns : Turns) (values : List ℕ) (m v : ℕ) (t : Tree) → IsAbove v t → IsReduced t → IsFirst turns values m (suc v) t → IsFirst turns values (suc m) v t
first-later turns values m v t above r f =
    let b = f.taken.0 in
    record {
      small = let h = f.small in omega (arith, h);
      least = λ b same. let h = f.least b same in omega (arith, h);
      taken = (put b v false, ap (best_of turns values) (rest-put turns b v false t above r) ∙ f.taken.1, number-low b v m ∙ f.taken.2);
    }

pub first-output : (turns : Turns) (values : List ℕ) (v : ℕ) (lo hi : Tree) → is_output turns v ≡ true
    → first_of turns values (Branch v lo hi) ≡ (if best_of turns values lo == best_of turns values (Branch v lo hi) then first_of turns values lo else 2 ^ (turns.to - 1 - v) + first_of turns values hi)
first-output turns values v lo hi e =
    ap (λ z. if z then (if best_of turns values lo == best_of turns values (Branch v lo hi) then first_of turns values lo else 2 ^ (turns.to - 1 - v) + first_of turns values hi) else 0) e

number-true : (b : Assignment) (v m : ℕ) → b v ≡ true → number_at b v (suc m) ≡ 2 ^ m + number_at b (suc v) m
number-true b v m e = ap (λ z. (if z then 2 ^ m else 0) + number_at b (suc v) m) e

number-false : (b : Assignment) (v m : ℕ) → b v ≡ false → number_at b v (suc m) ≡ number_at b (suc v) m
number-false b v m e = ap (λ z. (if z then 2 ^ m else 0) + number_at b (suc v) m) e ∙ omega arith

-- the best is reached with the variable false
first-low : (turns : Turns) (values : List ℕ) (m v : ℕ) (lo hi : Tree) → is_output turns v ≡ true → IsReduced (Branch v lo hi)
    → best_of turns values lo ≡ best_of turns values (Branch v lo hi) → IsFirst turns values m (suc v) lo → IsFirst turns values (suc m) v (Branch v lo hi)
first-low turns values m v lo hi e r same f =
    let t = Branch v lo hi in
    let first : first_of turns values t ≡ first_of turns values lo =
    first-output turns values v lo hi e ∙ ap (λ z. if z then first_of turns values lo else 2 ^ (turns.to - 1 - v) + first_of turns values hi) (eq-eqb (best_of turns values lo) (best_of turns values t) same) in
    let b = f.taken.0 in
    record {
      small = let h = f.small in omega (arith, h, first);
      least = λ c reach. elim (cases_Bool (c v)) [
        | inl k ↦ let h = f.small in let n = number-true c v m k in omega (arith, h, n, first)
        | inr k ↦
            let rest = rest-output turns c v lo hi e ∙ ap (λ z. if z then rest_of turns c hi else rest_of turns c lo) k in
            let h = f.least c (ap (best_of turns values) (sym rest) ∙ reach ∙ sym same) in
            let n = number-false c v m k in omega (arith, h, n, first)
      ];
      taken = (
        put b v false,
        ap (best_of turns values) (rest-output turns (put b v false) v lo hi e ∙ ap (λ z. if z then rest_of turns (put b v false) hi else rest_of turns (put b v false) lo) (put-same b v false) ∙ rest-put turns b v false lo r.0 r.3)
            ∙ f.taken.1 ∙ same,
        number-low b v m ∙ f.taken.2 ∙ sym first,
      );
    }

-- it is reached with the variable true alone
first-high : (turns : Turns) (values : List ℕ) (m v : ℕ) (lo hi : Tree) → is_output turns v ≡ true → v + suc m ≡ turns.to → IsReduced (Branch v lo hi)
    → best_of turns values lo ≢ best_of turns values (Branch v lo hi) → best_of turns values hi ≡ best_of turns values (Branch v lo hi) → IsFirst turns values m (suc v) hi → IsFirst turns values (suc m) v (Branch v lo hi)
first-high turns values m v lo hi e end r differ same f =
    let t = Branch v lo hi in
    let weight : 2 ^ (turns.to - 1 - v) ≡ 2 ^ m = let k : turns.to - 1 - v ≡ m = omega (arith, end) in ap (λ z. 2 ^ z) k in
    let first : first_of turns values t ≡ 2 ^ m + first_of turns values hi =
    first-output turns values v lo hi e ∙ ap (λ z. if z then first_of turns values lo else 2 ^ (turns.to - 1 - v) + first_of turns values hi) (ne_eqb (best_of turns values lo) (best_of turns values t) differ)
    ∙ ap (λ z. z + first_of turns values hi) weight in
    let b = f.taken.0 in
    record {
      small = let h = f.small in omega (arith, h, first);
      least = λ c reach. elim (cases_Bool (c v)) [
        | inl k ↦
            let rest = rest-output turns c v lo hi e ∙ ap (λ z. if z then rest_of turns c hi else rest_of turns c lo) k in
            let h = f.least c (ap (best_of turns values) (sym rest) ∙ reach ∙ sym same) in
            let n = number-true c v m k in omega (arith, h, n, first)
        | inr k ↦
            let rest = rest-output turns c v lo hi e ∙ ap (λ z. if z then rest_of turns c hi else rest_of turns c lo) k in
            let low : best_of turns values (rest_of turns c lo) ≡ best_of turns values t = ap (best_of turns values) (sym rest) ∙ reach in
            let good = subst (λ z. IsAsGood turns.agent (best_of turns values lo) z) low (best-bound turns values lo c) in
            let whole = best-output turns values v lo hi e in
            let back = subst (λ z. IsAsGood turns.agent z (best_of turns values lo)) (sym whole) (better-left turns.agent (best_of turns values lo) (best_of turns values hi)) in
            absurd (differ (good-both turns.agent (best_of turns values lo) (best_of turns values t) good back))
      ];
      taken = (
        put b v true,
        ap (best_of turns values) (rest-output turns (put b v true) v lo hi e ∙ ap (λ z. if z then rest_of turns (put b v true) hi else rest_of turns (put b v true) lo) (put-same b v true) ∙ rest-put turns b v true hi r.1 r.4)
            ∙ f.taken.1 ∙ same,
        number-high b v m ∙ ap (λ z. 2 ^ m + z) f.taken.2 ∙ sym first,
      );
    }

above-starts : (v : ℕ) (t : Tree) → Starts (suc v) t → IsAbove v t
above-starts v (Constant x) h = tt
above-starts v (Branch w lo hi) h = omega (arith, h)

-- the first number is the least with which the best is reached
pub first-is : (turns : Turns) (values : List ℕ) (n v : ℕ) (t : Tree) → v + n ≡ turns.to → turns.from ≤ v → Starts v t → IsReduced t → IsFirst turns values n v t
first-is turns values n v (Constant x) end from st r = first-none turns values n v (Constant x) refl (λ a. refl)
first-is turns values zero v (Branch w lo hi) end from st r =
    let e = output-past turns w (omega (arith, end, st)) in
    first-none turns values zero v (Branch w lo hi) (rw e refl) (λ a. rest-input turns a w lo hi e)
first-is turns values (suc m) v (Branch w lo hi) end from st r =
    elim (cases_lt w turns.to) [
      | inr h ↦
          let e = output-past turns w h in
          first-none turns values (suc m) v (Branch w lo hi) (rw e refl) (λ a. rest-input turns a w lo hi e)
      | inl h ↦
          elim (cases_order v w) [
            | inl same ↦
                let e : is_output turns v ≡ true = output-in turns v from (omega (arith, end)) in
                let r2 = subst (λ z. IsReduced (Branch z lo hi)) (sym same) r in
                let low = first-is turns values m (suc v) lo (omega (arith, end)) (omega (arith, from)) (starts_above (suc v) v lo (omega arith) r2.0) r2.3 in
                let high = first-is turns values m (suc v) hi (omega (arith, end)) (omega (arith, from)) (starts_above (suc v) v hi (omega arith) r2.1) r2.4 in
                subst (λ z. IsFirst turns values (suc m) v (Branch z lo hi)) same
                (elim (cases_Bool (best_of turns values lo == best_of turns values (Branch v lo hi))) [
                  | inl k ↦ first-low turns values m v lo hi e r2 (eqb-true _ _ k) low
                  | inr k ↦
                      let differ : best_of turns values lo ≢ best_of turns values (Branch v lo hi) = eqb-false _ _ k in
                      let whole = best-output turns values v lo hi e in
                      elim (better-one turns.agent (best_of turns values lo) (best_of turns values hi)) [
                        | inl one ↦ absurd (differ (sym (whole ∙ one)))
                        | inr one ↦ first-high turns values m v lo hi e end r2 differ (sym (whole ∙ one)) high
                      ]
                ])
            | inr (inl k) ↦
                first-later turns values m v (Branch w lo hi) k r
                (first-is turns values m (suc v) (Branch w lo hi) (omega (arith, end)) (omega (arith, from)) (omega (arith, k)) r)
            | inr (inr k) ↦ absurd (omega (arith, st, k))
          ]
    ]
