-- The step of the walk to the least output.
use Rattle.std.proofs.Common.{◌≡◌, ◌≢◌, ◌<◌, ◌≤◌, ◌+◌, ◌-◌, ◌^◌, ℕ, List, refl, sym, ◌∙◌, ap, subst, arith, if◌then◌else◌, Some}
use Rattle.std.proofs.lemmas.Bool.{eq-eqb, ne_eqb}
use Rattle.std.proofs.Math.Nat.{pow-le-pow_right}
use Rattle.diagrams.specs.declared.top.Id.{Id}
use Rattle.diagrams.specs.declared.top.Look.TheVariants.{Node}
use Rattle.diagrams.specs.Tree.{Tree, Constant, Branch, IsReduced, AllVars}
use Rattle.diagrams.specs.Eval.{Diagrams, top_of, tree}
use Rattle.diagrams.specs.Live.{IsLive, IsCanonical}
use Rattle.diagrams.proofs.Canon.{tree_size}
use Rattle.diagrams.proofs.Meaning.{live-above, tree-node, tree-reduced}
use Rattle.diagrams.proofs.Transformed.{down}
use Rattle.diagrams.proofs.Windows.{Starts}
use Rattle.choosing.specs.declared.walks.Turns.{Turns}
use Rattle.choosing.specs.Best.{best_of, first_of, IsLeastOutputOf}
use Rattle.choosing.proofs.BestLemmas.{output-in, output-past, first-is, first-output}

-- what the walk may use at a node of the outputs
pub record IsStep (s : Diagrams) (turns : Turns) (values : List ℕ) (f lo hi : Id) (v : ℕ) : Type 0 where
  pub lo_less : tree_size (tree s lo) < tree_size (tree s f)
  pub hi_less : tree_size (tree s hi) < tree_size (tree s f)
  pub lo_live : IsLive s lo
  pub hi_live : IsLive s hi
  pub lo_vars : AllVars (λ w. turns.from ≤ w) (tree s lo)
  pub hi_vars : AllVars (λ w. turns.from ≤ w) (tree s hi)
  pub few : turns.to - 1 - v < 32
  pub low : best_of turns values (tree s lo) ≡ best_of turns values (tree s f) → first_of turns values (tree s lo) ≡ first_of turns values (tree s f)
  pub high : best_of turns values (tree s lo) ≢ best_of turns values (tree s f) → 2 ^ (turns.to - 1 - v) + first_of turns values (tree s hi) ≡ first_of turns values (tree s f)
  pub fits : first_of turns values (tree s f) < 2 ^ 32

-- a tree whose variables are all from v on has none before v
pub starts-vars : (v : ℕ) (t : Tree) → AllVars (λ w. v ≤ w) t → Starts v t
starts-vars v (Constant x) all = tt
starts-vars v (Branch w lo hi) all = all.0

-- the number is below 2 ^ 32
pub first-fits : (turns : Turns) (values : List ℕ) (t : Tree) → turns.from ≤ turns.to → turns.to - turns.from ≤ 32 → Starts turns.from t → IsReduced t → first_of turns values t < 2 ^ 32
first-fits turns values t range few st r =
    let f = first-is turns values (turns.to - turns.from) turns.from t (omega (arith, range)) (omega arith) st r in
    let p : 2 ^ (turns.to - turns.from) ≤ 2 ^ 32 = pow-le-pow_right (omega arith) few in
    let h = f.small in omega (arith, h, p)

pub step-at : (s : Diagrams) → IsCanonical s → (turns : Turns) (values : List ℕ) (f lo hi : Id) (v : ℕ) → top_of s f ≡ Some (Node v lo hi) → IsLive s f
    → turns.from ≤ turns.to → turns.to - turns.from ≤ 32 → AllVars (λ w. turns.from ≤ w) (tree s f) → v < turns.to → IsStep s turns values f lo hi v
step-at s c turns values f lo hi v e live range few all below =
    let d = down s c f lo hi v e in
    let node = tree-node s c f v lo hi e in
    let reduced = tree-reduced s c f live in
    let vars : AllVars (λ w. turns.from ≤ w) (Branch v (tree s lo) (tree s hi)) = rw node at all in
    let st = starts-vars turns.from (tree s f) all in
    let from : turns.from ≤ v = vars.0 in
    let r : IsReduced (Branch v (tree s lo) (tree s hi)) = rw node at reduced in
    let out = output-in turns v from below in
    let first = ap (first_of turns values) node ∙ first-output turns values v (tree s lo) (tree s hi) out in
    let whole = ap (best_of turns values) node in
    let first_low = first_of turns values (tree s lo) in
    let first_high = first_of turns values (tree s hi) in
    record {
      lo_less = d.lo_less;
      hi_less = d.hi_less;
      lo_live = live-above _ _ d.lo_above;
      hi_live = live-above _ _ d.hi_above;
      lo_vars = vars.1;
      hi_vars = vars.2;
      few = omega (arith, few, from, below);
      low = λ same. sym (first ∙ ap (λ z. if z then first_low else 2 ^ (turns.to - 1 - v) + first_high) (eq-eqb _ _ (same ∙ whole)));
      high = λ differ. sym (first ∙ ap (λ z. if z then first_low else 2 ^ (turns.to - 1 - v) + first_high) (ne_eqb _ _ (λ same. differ (same ∙ sym whole))));
      fits = first-fits turns values (tree s f) range few st reduced;
    }

-- past the outputs the number is 0
pub first-past : (s : Diagrams) → IsCanonical s → (turns : Turns) (values : List ℕ) (f lo hi : Id) (v : ℕ) → top_of s f ≡ Some (Node v lo hi) → turns.to ≤ v → 0 ≡ first_of turns values (tree s f)
first-past s c turns values f lo hi v e past =
    let node = tree-node s c f v lo hi e in
    let out = output-past turns v past in
    sym (ap (first_of turns values) node ∙ rw out refl)

-- the number is the least output
pub least-first : (s : Diagrams) → IsCanonical s → (turns : Turns) (values : List ℕ) (f : Id) (y : ℕ) → IsLive s f → turns.from ≤ turns.to → AllVars (λ v. turns.from ≤ v) (tree s f)
    → y ≡ first_of turns values (tree s f) → IsLeastOutputOf turns values (tree s f) y
least-first s c turns values f y live range all e =
    let st = starts-vars turns.from (tree s f) all in
    let r = first-is turns values (turns.to - turns.from) turns.from (tree s f) (omega (arith, range)) (omega arith) st (tree-reduced s c f live) in
    subst (λ z. IsLeastOutputOf turns values (tree s f) z) (sym e) (record { small = r.small; least = r.least; taken = r.taken })
