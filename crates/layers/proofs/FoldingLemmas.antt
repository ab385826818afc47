-- The step of a walk that folds a row over the outputs.
use Rattle.std.proofs.Common.{◌≡◌, ℕ, suc, ◌<◌, ◌≤◌, ◌+◌, ◌⊎◌, inl, inr, arith, refl, sym, ◌∙◌, ap, subst, Bool, true, false, if◌then◌else◌, List, [], Option, Some, None}
use Rattle.std.specs.Prelude.{nat_lt, slice_index, ◌==◌}
use Rattle.std.proofs.lemmas.Bool.{cases_eq, cases_Bool}
use Rattle.std.proofs.lemmas.Bool.Decides.{nat_tests}
use Rattle.diagrams.specs.declared.top.Id.{Id}
use Rattle.diagrams.specs.declared.top.Look.TheVariants.{Terminal, Node}
use Rattle.diagrams.specs.declared.memo.Memo.{Memo}
use Rattle.diagrams.specs.Tree.{Assignment, put}
use Rattle.diagrams.specs.Eval.{Diagrams, top_of, eval, DependsOn}
use Rattle.diagrams.specs.Live.{IsLive, IsCanonical, Keeps, Means}
use Rattle.diagrams.specs.Kept.{AllKept}
use Rattle.diagrams.specs.Transformed.{item_value, same_id}
use Rattle.diagrams.proofs.Meaning.{eval-lasts, eval-node, eval-terminal, live_lasts, live-above}
use Rattle.diagrams.proofs.CofactorLemmas.{own, low-value, high-value}
use Rattle.diagrams.proofs.Composed.{top_over}
use Rattle.diagrams.proofs.DependsLemmas.{over_later}
use Rattle.diagrams.proofs.Expansion.{depends_from_stands}
use Rattle.diagrams.proofs.Kept.{kept_weaker}
use Rattle.diagrams.proofs.Transformed.{IsLocal, function-lasts}
use Rattle.attractor.specs.Graph.{number_at}
use Rattle.layers.specs.declared.folding.Below.{Below}
use Rattle.layers.specs.declared.folding.Folding.{Folding}
use Rattle.layers.specs.Folding.{IsLeastItem, IsFound, IsLeastFound, AllLeast, instead_of, IsInstead, AgreeBefore, IsLeastAfter, IsFoldedValue, IsFoldedRow, IsFolded, IsRightFor}
use Rattle.layers.proofs.FoldedRows.{mixed, mixed_below, mixed_beyond}

-- the item of a constant
pub least_terminal : (s : Diagrams) (table : List ℕ) (f : Id) (t : ℕ) → top_of s f ≡ Some (Terminal t) → IsLeastItem s table f (slice_index table t)
least_terminal s table f t e =
    let is : (a : Assignment) → item_value s table f a ≡ slice_index table t = λ a. ap (slice_index table) (eval-terminal s f t e a) in
    let some : Assignment = λ v. true in
    record { bounds = λ a. let h = is a in omega arith; taken = (some, is some) }

node_least : (b : Bool) (x y z p q : ℕ) → z ≤ x → z ≤ y → x ≤ p → y ≤ q → z ≤ (if b then q else p)
node_least true x y z p q h k l m = omega arith
node_least false x y z p q h k l m = omega arith

if_item : (g : ℕ → ℕ) (b : Bool) (x y : ℕ) → g (if b then x else y) ≡ (if b then g x else g y)
if_item g true x y = refl
if_item g false x y = refl

-- the item of a node is the lesser of its children's
pub least_node : (s : Diagrams) → IsCanonical s → (table : List ℕ) (f lo hi : Id) (v : ℕ) → top_of s f ≡ Some (Node v lo hi) → (x y z : ℕ) → IsLeastItem s table lo x → IsLeastItem s table hi y
    → z ≤ x → z ≤ y → (z ≡ x) ⊎ (z ≡ y) → IsLeastItem s table f z
least_node s c table f lo hi v e x y z p q h k d =
    let n = own s c v f lo hi e in
    record {
      bounds = λ a.
          let i : item_value s table f a ≡ (if a v then item_value s table hi a else item_value s table lo a) =
          ap (slice_index table) (eval-node s c f v lo hi e a) ∙ if_item (slice_index table) (a v) (eval s hi a) (eval s lo a) in
          subst (λ w. z ≤ w) (sym i) (node_least (a v) x y z (item_value s table lo a) (item_value s table hi a) h k (p.bounds a) (q.bounds a));
      taken =
          elim d [
            | inl j ↦ let t = p.taken in (put t.0 v false, ap (slice_index table) (low-value s c v f lo hi n t.0) ∙ t.1 ∙ sym j)
            | inr j ↦ let t = q.taken in (put t.0 v true, ap (slice_index table) (high-value s c v f lo hi n t.0) ∙ t.1 ∙ sym j)
          ];
    }

pub least_lasts : (s n : Diagrams) → Keeps s n → (table : List ℕ) (f : Id) (x : ℕ) → IsLive s f → IsLeastItem s table f x → IsLeastItem n table f x
least_lasts s n k table f x l p =
    let is : (a : Assignment) → item_value n table f a ≡ item_value s table f a = λ a. ap (slice_index table) (eval-lasts s n k.was k.now k.extends f l a) in
    record { bounds = λ a. subst (λ z. x ≤ z) (sym (is a)) (p.bounds a); taken = (p.taken.0, is p.taken.0 ∙ p.taken.1) }

-- what was found stays right as the store grows
pub all_least_last : (s n : Diagrams) → Keeps s n → (table : List ℕ) (found : List (Option ℕ)) → AllLeast s table found → AllLeast n table found
all_least_last s n k table found r f x e =
    let w = r f x e in
    record { live = live_lasts s n k.extends f w.live; least = least_lasts s n k table f x w.live w.least }

abbrev id_of : ℕ → Id
id_of k = record { 0 = k }

id_is : (f g : Id) → g.0 ≡ f.0 → g ≡ f
id_is f g e = ap id_of e

some_same : (x y : ℕ) → Some x ≡ Some y → x ≡ y
some_same x y e = cc

-- one item more
pub least_found : (s : Diagrams) (table : List ℕ) (old new : List (Option ℕ)) (f : Id) (x : ℕ) → AllLeast s table old → IsFound old new f x → IsLive s f → IsLeastItem s table f x → AllLeast s table new
least_found s table old new f x r found l p g y e = elim (cases_eq g.0 f.0) [
  | inl z ↦
      let t : (g.0 == f.0) ≡ true = grind (arith, nat_tests) in
      let is : number_at new g.0 ≡ Some x = found g.0 ∙ (rw t refl) in
      let same : x ≡ y = some_same x y (sym is ∙ e) in
      subst (λ w. IsLeastFound s table g w) same (subst (λ h. IsLeastFound s table h x) (sym (id_is f g z)) (record { live = l; least = p }))
  | inr z ↦
      let t : (g.0 == f.0) ≡ false = grind (arith, nat_tests) in
      let is : number_at new g.0 ≡ number_at old g.0 = found g.0 ∙ (rw t refl) in
      r g y (sym is ∙ e)
]

-- nothing is kept in an empty list
pub none_found : (s : Diagrams) (table : List ℕ) → AllLeast s table []
none_found s table f x e = absurd (cc)

module _ (below : Below) (inputs : ℕ) (table : List ℕ) where
  -- where no input is left, the least item is that over all assignments
  after_least : (s : Diagrams) (f : Id) → DependsOn s f (λ v. inputs ≤ v) → (y : ℕ) → IsLeastItem s table f y → (a : Assignment) → IsLeastAfter inputs (item_value s table f) a y
  after_least s f d y p a =
      let t = p.taken in
      record {
        bounds = λ b agree. p.bounds b;
        taken = (
          mixed inputs a t.0,
          λ v h. mixed_below inputs a t.0 v h,
          ap (slice_index table) (d (mixed inputs a t.0) t.0 (λ v h. mixed_beyond inputs a t.0 v h)) ∙ t.1,
        );
      }

  -- what is put in place of a diagram that has no input
  pub folded_end : (s n : Diagrams) (f id : Id) → DependsOn s f (λ v. inputs ≤ v) → IsInstead s n below table f id → IsFoldedRow s n below inputs table f id
  folded_end s n f id d i = record {
    live = i.live;
    value = λ a. (i.item, after_least s f d i.item i.least a, i.value a);
    above = λ v e a b same. i.value a ∙ ap (instead_of below i.item) (e a b same) ∙ sym (i.value b);
  }

  folded_local : (v : ℕ) → v < inputs → IsLocal v (IsFoldedValue below inputs table)
  folded_local v l h g a x same (y, p, e) = (
    y,
    record {
      bounds = λ b agree. subst (λ z. y ≤ z) (ap (slice_index table) (sym (same b (agree v l)))) (p.bounds b agree);
      taken = (p.taken.0, p.taken.1, ap (slice_index table) (same p.taken.0 (p.taken.1 v l)) ∙ p.taken.2);
    },
    e ∙ ap (instead_of below y) (sym (same a refl)),
  )

  branch_folded : (v : ℕ) → v < inputs → (f lo hi : Assignment → ℕ) → ((b : Assignment) → f b ≡ (if b v then hi b else lo b)) → (a : Assignment) (d : Bool) → a v ≡ d → (y z : ℕ)
      → IsFoldedValue below inputs table lo a y → IsFoldedValue below inputs table hi a z → IsFoldedValue below inputs table f a (if d then z else y)
  branch_folded v l f lo hi split a true e y z p q = folded_local v l hi f a z (λ b same. split b ∙ (rw (same ∙ e) refl)) q
  branch_folded v l f lo hi split a false e y z p q = folded_local v l lo f a y (λ b same. split b ∙ (rw (same ∙ e) refl)) p

  -- what was made lasts
  pub folded_last : (s0 s n : Diagrams) → Keeps s n → (f row : Id) → IsFoldedRow s0 s below inputs table f row → IsFoldedRow s0 n below inputs table f row
  folded_last s0 s n k f row u = record {
    live = live_lasts s n k.extends row u.live;
    value = λ a. subst (λ z. IsFoldedValue below inputs table (eval s0 f) a z) (sym (eval-lasts s n k.was k.now k.extends row u.live a)) (u.value a);
    above = λ v h x y same.
        eval-lasts s n k.was k.now k.extends row u.live x ∙ u.above v h x y same ∙ sym (eval-lasts s n k.was k.now k.extends row u.live y);
  }

  -- what is made in a grown store is made of what was there before
  pub folded_from : (s0 s1 n : Diagrams) → Keeps s0 s1 → (f row : Id) → IsLive s0 f → IsFoldedRow s1 n below inputs table f row → IsFoldedRow s0 n below inputs table f row
  folded_from s0 s1 n k f row l u = record {
    live = u.live;
    value = λ a. subst (λ g. IsFoldedValue below inputs table g a (eval n row a)) (function-lasts s0 s1 k f l) (u.value a);
    above = λ v d. u.above v (over_later s0 s1 k f (λ w. v < w) l d);
  }

  -- what was made of a live diagram is made of it in the grown store
  pub folded_now : (s n : Diagrams) → Keeps s n → (f row : Id) → IsLive s f → IsFoldedRow s n below inputs table f row → IsFolded n below inputs table f row
  folded_now s n k f row l u = record {
    live = live_lasts s n k.extends f l;
    row_is = record {
      live = u.live;
      value = λ a. subst (λ g. IsFoldedValue below inputs table g a (eval n row a)) (sym (function-lasts s n k f l)) (u.value a);
      above = λ v d. u.above v (λ x y same. sym (eval-lasts s n k.was k.now k.extends f l x) ∙ d x y same ∙ eval-lasts s n k.was k.now k.extends f l y);
    };
  }

  folded_lasts : (s n : Diagrams) → Keeps s n → (f row : Id) → IsFolded s below inputs table f row → IsFolded n below inputs table f row
  folded_lasts s n k f row u = folded_now s n k f row u.live (folded_last s s n k f row u.row_is)

  -- and so it is of those in a memo
  pub kept_folded_last : (s n : Diagrams) → Keeps s n → (m : Memo Id) → AllKept same_id (IsFolded s below inputs table) m → AllKept same_id (IsFolded n below inputs table) m
  kept_folded_last s n k m r = kept_weaker same_id (IsFolded s below inputs table) (IsFolded n below inputs table) m (λ f row u. folded_lasts s n k f row u) r

  -- all that was found stays right as the store grows
  pub right_lasts : (s n : Diagrams) → Keeps s n → (folding : Folding) → IsRightFor s below inputs table folding → IsRightFor n below inputs table folding
  right_lasts s n k folding r = record {
    found = all_least_last s n k table folding.found.items r.found;
    made = kept_folded_last s n k folding.made r.made;
  }

  lo_depends : (s : Diagrams) → IsCanonical s → (v : ℕ) (f lo hi : Id) → top_of s f ≡ Some (Node v lo hi) → DependsOn s lo (λ w. v < w)
  lo_depends s c v f lo hi e = depends_from_stands s c v lo (c.nodes f v lo hi e).lo_above

  hi_depends : (s : Diagrams) → IsCanonical s → (v : ℕ) (f lo hi : Id) → top_of s f ≡ Some (Node v lo hi) → DependsOn s hi (λ w. v < w)
  hi_depends s c v f lo hi e = depends_from_stands s c v hi (c.nodes f v lo hi e).hi_above

  -- a diagram has no input where the variable of its top is none
  pub top_beyond : (s : Diagrams) → IsCanonical s → (v : ℕ) (f lo hi : Id) → top_of s f ≡ Some (Node v lo hi) → inputs ≤ v → DependsOn s f (λ w. inputs ≤ w)
  top_beyond s c v f lo hi e h a b same =
      eval-node s c f v lo hi e a
      ∙ (rw (
        same v h,
        lo_depends s c v f lo hi e a b (λ w l. same w (omega arith)),
        hi_depends s c v f lo hi e a b (λ w l. same w (omega arith)),
      ) refl)
      ∙ sym (eval-node s c f v lo hi e b)

  -- and a constant has none
  pub constant_beyond : (s : Diagrams) (f : Id) (t : ℕ) → top_of s f ≡ Some (Terminal t) → DependsOn s f (λ w. inputs ≤ w)
  constant_beyond s f t e a b same = eval-terminal s f t e a ∙ sym (eval-terminal s f t e b)

  top_after : (s : Diagrams) → IsCanonical s → (v w : ℕ) (f lo hi : Id) → top_of s f ≡ Some (Node w lo hi) → DependsOn s f (λ x. v < x) → v < w
  top_after s c v w f lo hi e d =
      elim (cases_Bool (nat_lt v w)) [
        | inl t ↦ grind (arith, nat_tests)
        | inr t ↦ absurd (top_over s c (λ x. v < x) w f lo hi e d (λ l. let h : w ≤ v = grind (arith, nat_tests) in omega arith))
      ]

  -- where both children are folded, the node is
  pub folded_node : (s n m : Diagrams) → Keeps s n → (v : ℕ) (f lo hi low high row : Id) → top_of s f ≡ Some (Node v lo hi) → v < inputs
      → IsFoldedRow s n below inputs table lo low → IsFoldedRow s n below inputs table hi high
      → Means m row (λ a. if a v then eval n high a else eval n low a) → IsFoldedRow s m below inputs table f row
  folded_node s n m k v f lo hi low high row e small x y t = record {
    live = t.live;
    value = λ a.
        subst (λ z. IsFoldedValue below inputs table (eval s f) a z) (sym (t.value a))
        (branch_folded v small (eval s f) (eval s lo) (eval s hi) (eval-node s k.was f v lo hi e) a (a v) refl (eval n low a) (eval n high a) (x.value a) (y.value a));
    above = λ w d a b same.
        let l : w < v = top_after s k.was w v f lo hi e d in
        t.value a ∙ (rw (
          same v l,
          x.above v (lo_depends s k.was v f lo hi e) a b (λ z h. same z (omega arith)),
          y.above v (hi_depends s k.was v f lo hi e) a b (λ z h. same z (omega arith)),
        ) refl) ∙ sym (t.value b);
  }

  -- the folded children in the store before the node is made
  pub record AreFoldedChildren (s0 s2 : Diagrams) (v : ℕ) (lo hi low high : Id) : Type 0 where
    pub low_row : IsFoldedRow s0 s2 below inputs table lo low
    pub high_row : IsFoldedRow s0 s2 below inputs table hi high
    pub low_above : DependsOn s2 low (λ w. v < w)
    pub high_above : DependsOn s2 high (λ w. v < w)

  -- both children are folded
  pub folded_children : (s0 s1 s2 : Diagrams) → Keeps s0 s1 → Keeps s1 s2 → (v : ℕ) (f lo hi low high : Id) → top_of s0 f ≡ Some (Node v lo hi) → IsLive s0 hi
      → IsFoldedRow s0 s1 below inputs table lo low → IsFoldedRow s1 s2 below inputs table hi high → AreFoldedChildren s0 s2 v lo hi low high
  folded_children s0 s1 s2 k0 k1 v f lo hi low high e l x y =
      let low_row : IsFoldedRow s0 s2 below inputs table lo low = folded_last s0 s1 s2 k1 lo low x in
      let high_row : IsFoldedRow s0 s2 below inputs table hi high = folded_from s0 s1 s2 k0 hi high l y in
      record {
        low_row = low_row;
        high_row = high_row;
        low_above = low_row.above v (lo_depends s0 k0.was v f lo hi e);
        high_above = high_row.above v (hi_depends s0 k0.was v f lo hi e);
      }
