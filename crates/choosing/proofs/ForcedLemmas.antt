-- The best below a tree is what the agent can force.
use Rattle.std.proofs.Common.{◌≡◌, ◌<◌, ◌≤◌, ◌-◌, ℕ, List, refl, sym, ◌∙◌, ap, subst, arith, inl, inr, true, false, if◌then◌else◌}
use Rattle.std.specs.Prelude.{slice_index}
use Rattle.std.proofs.lemmas.Bool.{cases_Bool, cases_lt, true≢false}
use Rattle.diagrams.specs.Tree.{Tree, Constant, Branch, Assignment, put, value_at, IsReduced, AllVars}
use Rattle.diagrams.proofs.Canon.{put-same, put-ne, value_at-put}
use Rattle.diagrams.proofs.Windows.{Starts, starts_above}
use Rattle.choosing.specs.declared.walks.Turns.{Turns}
use Rattle.choosing.specs.Best.{better_of, is_output, best_of, rest_of, HasOutputs, IsAsGood, IsForced}
use Rattle.choosing.proofs.BestLemmas.{good-refl, good-trans, better-left, better-right, better-one, output-in, output-past, rest-output, rest-input, best-bound, first-is}

-- the value of what is left is that of the tree, at assignments with these outputs
pub rest-value : (turns : Turns) (a b : Assignment) (t : Tree) → HasOutputs turns a b → value_at (rest_of turns a t) b ≡ value_at t b
rest-value turns a b (Constant x) h = refl
rest-value turns a b (Branch v lo hi) h =
    elim (cases_Bool (is_output turns v)) [
      | inl e ↦
          let rest = rest-output turns a v lo hi e in
          let same = h v e in
          elim (cases_Bool (a v)) [
            | inl k ↦
                ap (λ z. value_at z b) (rest ∙ ap (λ z. if z then rest_of turns a hi else rest_of turns a lo) k) ∙ rest-value turns a b hi h
                ∙ sym (ap (λ z. if z then value_at hi b else value_at lo b) (same ∙ k))
            | inr k ↦
                ap (λ z. value_at z b) (rest ∙ ap (λ z. if z then rest_of turns a hi else rest_of turns a lo) k) ∙ rest-value turns a b lo h
                ∙ sym (ap (λ z. if z then value_at hi b else value_at lo b) (same ∙ k))
          ]
      | inr e ↦ ap (λ z. value_at z b) (rest-input turns a v lo hi e)
    ]

-- the variables of a reduced tree are none before its root's
vars-from : (w : ℕ) (t : Tree) → Starts w t → IsReduced t → AllVars (λ u. w ≤ u) t
vars-from w (Constant x) h r = tt
vars-from w (Branch v lo hi) h r = (h, vars-from w lo (starts_above w v lo (omega (arith, h)) r.0) r.3, vars-from w hi (starts_above w v hi (omega (arith, h)) r.1) r.4)

not-output : (turns : Turns) (v : ℕ) → turns.from ≤ v → is_output turns v ≡ false → turns.to ≤ v
not-output turns v h e =
    elim (cases_lt v turns.to) [
      | inl k ↦ absurd (true≢false (sym (output-in turns v h k) ∙ e))
      | inr k ↦ k
    ]

-- what is left has no outputs
rest-vars : (turns : Turns) (a : Assignment) (t : Tree) → Starts turns.from t → IsReduced t → AllVars (λ v. turns.to ≤ v) (rest_of turns a t) × IsReduced (rest_of turns a t)
rest-vars turns a (Constant x) st r = (tt, tt)
rest-vars turns a (Branch v lo hi) st r =
    let P : Tree → Type 0 = λ z. AllVars (λ v. turns.to ≤ v) z × IsReduced z in
    elim (cases_Bool (is_output turns v)) [
      | inl e ↦ elim (cases_Bool (a v)) [
        | inl k ↦
            subst P (sym (rest-output turns a v lo hi e ∙ ap (λ z. if z then rest_of turns a hi else rest_of turns a lo) k))
            (rest-vars turns a hi (starts_above turns.from v hi (omega (arith, st)) r.1) r.4)
        | inr k ↦
            subst P (sym (rest-output turns a v lo hi e ∙ ap (λ z. if z then rest_of turns a hi else rest_of turns a lo) k))
            (rest-vars turns a lo (starts_above turns.from v lo (omega (arith, st)) r.0) r.3)
      ]
      | inr e ↦ subst P (sym (rest-input turns a v lo hi e)) (vars-from turns.to (Branch v lo hi) (not-output turns v st e) r, r)
    ]

best-input : (turns : Turns) (values : List ℕ) (v : ℕ) (lo hi : Tree) → turns.to ≤ v
    → best_of turns values (Branch v lo hi) ≡ better_of turns.environment (best_of turns values lo) (best_of turns values hi)
best-input turns values v lo hi h =
    ap (λ z. better_of (if z then turns.agent else turns.environment) (best_of turns values lo) (best_of turns values hi)) (output-past turns v h)

-- below inputs alone, the environment gets nothing better than the best
environment-bound : (turns : Turns) (values : List ℕ) (t : Tree) → AllVars (λ v. turns.to ≤ v) t → (b : Assignment) → IsAsGood turns.environment (best_of turns values t) (slice_index values (value_at t b))
environment-bound turns values (Constant x) vs b = good-refl turns.environment (slice_index values x)
environment-bound turns values (Branch v lo hi) vs b =
    let bl = best_of turns values lo in
    let bh = best_of turns values hi in
    let whole = best-input turns values v lo hi vs.0 in
    subst (λ z. IsAsGood turns.environment z (slice_index values (value_at (Branch v lo hi) b))) (sym whole)
    (elim (b v) as (λ d. IsAsGood turns.environment (better_of turns.environment bl bh) (slice_index values (if d then value_at hi b else value_at lo b))) [
      | true ↦ good-trans turns.environment (better_of turns.environment bl bh) bh (slice_index values (value_at hi b)) (better-right turns.environment bl bh) (environment-bound turns values hi vs.2 b)
      | false ↦ good-trans turns.environment (better_of turns.environment bl bh) bl (slice_index values (value_at lo b)) (better-left turns.environment bl bh) (environment-bound turns values lo vs.1 b)
    ])

-- an assignment that changes inputs alone, at which the tree has the best
abbrev Takes : Turns → List ℕ → Assignment → Tree → Type 0
Takes turns values a t = (b : Assignment) × ((v : ℕ) → v < turns.to → b v ≡ a v) × (slice_index values (value_at t b) ≡ best_of turns values t)

environment-taken : (turns : Turns) (values : List ℕ) (t : Tree) → AllVars (λ v. turns.to ≤ v) t → IsReduced t → (a : Assignment) → Takes turns values a t
environment-taken turns values (Constant x) vs r a = (a, λ v l. refl, refl)
environment-taken turns values (Branch v lo hi) vs r a =
    let bl = best_of turns values lo in
    let bh = best_of turns values hi in
    let whole = best-input turns values v lo hi vs.0 in
    elim (better-one turns.environment bl bh) [
      | inl one ↦
          let t = environment-taken turns values lo vs.1 r.3 a in (
            put t.0 v false,
            λ w l. put-ne t.0 v false w (λ e. let h = vs.0 in absurd (omega (arith, h, e, l))) ∙ t.1 w l,
            ap (λ z. slice_index values (if z then value_at hi (put t.0 v false) else value_at lo (put t.0 v false))) (put-same t.0 v false)
                ∙ ap (slice_index values) (value_at-put v lo t.0 false r.0 r.3) ∙ t.2 ∙ sym (whole ∙ one),
          )
      | inr one ↦
          let t = environment-taken turns values hi vs.2 r.4 a in (
            put t.0 v true,
            λ w l. put-ne t.0 v true w (λ e. let h = vs.0 in absurd (omega (arith, h, e, l))) ∙ t.1 w l,
            ap (λ z. slice_index values (if z then value_at hi (put t.0 v true) else value_at lo (put t.0 v true))) (put-same t.0 v true)
                ∙ ap (slice_index values) (value_at-put v hi t.0 true r.1 r.4) ∙ t.2 ∙ sym (whole ∙ one),
          )
    ]

output-before : (turns : Turns) (v : ℕ) → is_output turns v ≡ true → v < turns.to
output-before turns v e =
    elim (cases_lt v turns.to) [
      | inl k ↦ k
      | inr k ↦ absurd (true≢false (sym e ∙ output-past turns v k))
    ]

-- with these outputs the environment gets nothing better than the best of what is left
pub rest-bound : (turns : Turns) (values : List ℕ) (t : Tree) (a b : Assignment) → Starts turns.from t → IsReduced t → HasOutputs turns a b
    → IsAsGood turns.environment (best_of turns values (rest_of turns a t)) (slice_index values (value_at t b))
rest-bound turns values t a b st r h =
    subst (λ z. IsAsGood turns.environment (best_of turns values (rest_of turns a t)) (slice_index values z)) (rest-value turns a b t h)
    (environment-bound turns values (rest_of turns a t) (rest-vars turns a t st r).0 b)

-- and it gets that
pub rest-taken : (turns : Turns) (values : List ℕ) (t : Tree) (a : Assignment) → Starts turns.from t → IsReduced t
    → (b : Assignment) × HasOutputs turns a b × (slice_index values (value_at t b) ≡ best_of turns values (rest_of turns a t))
rest-taken turns values t a st r =
    let vs = rest-vars turns a t st r in
    let k = environment-taken turns values (rest_of turns a t) vs.0 vs.1 a in
    let h : HasOutputs turns a k.0 = λ v e. k.1 v (output-before turns v e) in
    (k.0, h, ap (slice_index values) (sym (rest-value turns a k.0 t h)) ∙ k.2)

-- the outputs with which what is left has the best force it
pub forces-best : (turns : Turns) (values : List ℕ) (t : Tree) (a : Assignment) → Starts turns.from t → IsReduced t → best_of turns values (rest_of turns a t) ≡ best_of turns values t
    → (b : Assignment) → HasOutputs turns a b → IsAsGood turns.environment (best_of turns values t) (slice_index values (value_at t b))
forces-best turns values t a st r same b h =
    subst (λ z. IsAsGood turns.environment z (slice_index values (value_at t b))) same
    (subst (λ z. IsAsGood turns.environment (best_of turns values (rest_of turns a t)) (slice_index values z)) (rest-value turns a b t h)
    (environment-bound turns values (rest_of turns a t) (rest-vars turns a t st r).0 b))

-- the best is what the agent can force
pub best-forced : (turns : Turns) (values : List ℕ) (t : Tree) → turns.from ≤ turns.to → Starts turns.from t → IsReduced t → IsForced turns values t (best_of turns values t)
best-forced turns values t range st r =
    let f = first-is turns values (turns.to - turns.from) turns.from t (omega (arith, range)) (omega arith) st r in
    record {
      forced = (f.taken.0, forces-best turns values t f.taken.0 st r f.taken.1);
      bound = λ a.
          let vs = rest-vars turns a t st r in
          let k = environment-taken turns values (rest_of turns a t) vs.0 vs.1 a in
          let h : HasOutputs turns a k.0 = λ v e. k.1 v (output-before turns v e) in
          let value : slice_index values (value_at t k.0) ≡ best_of turns values (rest_of turns a t) = ap (slice_index values) (sym (rest-value turns a k.0 t h)) ∙ k.2 in
          (k.0, h, subst (λ z. IsAsGood turns.agent (best_of turns values t) z) (sym value) (best-bound turns values t a));
    }
