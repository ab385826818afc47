-- What the ids of a canonical store mean.
use Rattle.std.proofs.Common.{◌≡◌, ℕ, zero, suc, ◌<◌, ◌≤◌, ◌+◌, if◌then◌else◌, refl, sym, ◌∙◌, ap, arith, inl, inr, length, IsSome, Option, Some, None, Result, IfOk}
use Rattle.std.specs.Prelude.{◌==◌}
use Rattle.std.proofs.lemmas.Bool.{cases_lt}
use Rattle.std.proofs.lemmas.Result.{IfOk-weaker}
use Rattle.diagrams.specs.declared.top.Id.{Id}
use Rattle.diagrams.specs.declared.top.Look.{Look}
use Rattle.diagrams.specs.declared.top.Look.TheVariants.{Terminal, Node}
use Rattle.diagrams.specs.Tree.{Tree, Constant, Branch, Assignment, IsAbove, IsReduced}
use Rattle.diagrams.specs.Branch.{split_value, HasTopValues}
use Rattle.diagrams.specs.Eval.{Diagrams, top_of, tree_from, tree_to, limit, tree, eval, is_one, DependsOn, literal_value}
use Rattle.diagrams.specs.Live.{IsLive, IsTopAbove, StandsAbove, IsCanonical, Fills, Extends, Keeps, Means, IsTruth}
use Rattle.diagrams.proofs.Canon.{canonical, above_from_depends}
use Rattle.diagrams.proofs.Counts.{live_count-all, all_live-count}

-- a depth that serves for a top
abbrev pub Serves : ℕ → Option Look → Type 0
Serves n None = Unit {0}
Serves n (Some (Terminal t)) = Unit {0}
Serves n (Some (Node v lo hi)) = limit ≤ v + n

-- a depth serves each top that stands above a node which a greater depth serves
serves-below : (n v : ℕ) (o : Option Look) → limit ≤ v + suc n → IsTopAbove v o → Serves n o
serves-below n v None h k = tt
serves-below n v (Some (Terminal t)) h k = tt
serves-below n v (Some (Node w lo hi)) h k = omega arith

-- all depths that serve give one tree
stable : (s : Diagrams) → IsCanonical s → (n m : ℕ) (i : Id) (o : Option Look) → top_of s i ≡ o → Serves n o → Serves m o
    → tree_from (tree_to n s) o ≡ tree_from (tree_to m s) o
stable s c n m i None e p q = refl
stable s c n m i (Some (Terminal t)) e p q = refl
stable s c zero m i (Some (Node v lo hi)) e p q = let k = c.nodes i v lo hi e in absurd (omega (arith, k.small))
stable s c (suc n) zero i (Some (Node v lo hi)) e p q = let k = c.nodes i v lo hi e in absurd (omega (arith, k.small))
stable s c (suc n) (suc m) i (Some (Node v lo hi)) e p q =
    let k = c.nodes i v lo hi e in
    rw (
      stable s c n m lo (top_of s lo) refl (serves-below n v _ p k.lo_above) (serves-below m v _ q k.lo_above),
      stable s c n m hi (top_of s hi) refl (serves-below n v _ p k.hi_above) (serves-below m v _ q k.hi_above),
    )

limit_positive : 0 < limit
unfolding limit
limit_positive = omega arith

deeper : (s : Diagrams) → IsCanonical s → (v : ℕ) (i : Id) → StandsAbove s v i → (n : ℕ) → n ≡ limit → tree_to n s i ≡ tree_to (suc n) s i
deeper s c v i h zero e = let p = limit_positive in absurd (omega arith)
deeper s c v i h (suc d) e =
    stable s c d (suc d) i (top_of s i) refl (serves-below d v (top_of s i) (omega arith) h) (serves-below (suc d) v (top_of s i) (omega arith) h)

tree_down : (s : Diagrams) → IsCanonical s → (v : ℕ) (i : Id) → StandsAbove s v i → tree_to limit s i ≡ tree s i
unfolding tree
tree_down s c v i h = deeper s c v i h limit refl

-- the tree of a node is the branch of its children's trees
pub tree-node : (s : Diagrams) → IsCanonical s → (i : Id) (v : ℕ) (lo hi : Id) → top_of s i ≡ Some (Node v lo hi)
    → tree s i ≡ Branch v (tree s lo) (tree s hi)
tree-node s c i v lo hi e =
    let k = c.nodes i v lo hi e in
    let down : tree s i ≡ Branch v (tree_to limit s lo) (tree_to limit s hi) = unfold tree in rw e in
    down ∙ (rw (tree_down s c v lo k.lo_above, tree_down s c v hi k.hi_above))

-- the tree of a terminal is the constant
pub tree-terminal : (s : Diagrams) (i : Id) (t : ℕ) → top_of s i ≡ Some (Terminal t) → tree s i ≡ Constant t
unfolding tree
tree-terminal s i t e = rw e

above-top : (s : Diagrams) → IsCanonical s → (v : ℕ) (i : Id) (o : Option Look) → top_of s i ≡ o → IsTopAbove v o → IsAbove v (tree s i)
above-top s c v i None e h = elim h [ ]
above-top s c v i (Some (Terminal t)) e h = rw (tree-terminal s i t e) tt
above-top s c v i (Some (Node w lo hi)) e h = rw (tree-node s c i w lo hi e) h

-- the tree of an id that stands above v is above v
pub tree-above : (s : Diagrams) → IsCanonical s → (v : ℕ) (i : Id) → StandsAbove s v i → IsAbove v (tree s i)
tree-above s c v i h = above-top s c v i (top_of s i) refl h

top-above : (s : Diagrams) → IsCanonical s → (v : ℕ) (i : Id) (o : Option Look) → top_of s i ≡ o → IsSome o → IsAbove v (tree s i) → IsTopAbove v o
top-above s c v i None e h k = absurd (cc)
top-above s c v i (Some (Terminal t)) e h k = tt
top-above s c v i (Some (Node w lo hi)) e h k = rw (tree-node s c i w lo hi e) at k

-- a live id whose tree is above v stands above v
pub stands_above : (s : Diagrams) → IsCanonical s → (v : ℕ) (i : Id) → IsLive s i → IsAbove v (tree s i) → StandsAbove s v i
stands_above s c v i h k = top-above s c v i (top_of s i) refl h k

-- what stands above a variable is live
pub live-above : (v : ℕ) (o : Option Look) → IsTopAbove v o → IsSome o
live-above v None h = elim h [ ]
live-above v (Some (Terminal t)) h = refl
live-above v (Some (Node w lo hi)) h = refl

-- live ids with one tree are one id
injective_at : (s : Diagrams) → IsCanonical s → (t : Tree) (i j : Id) (o p : Option Look) → top_of s i ≡ o → top_of s j ≡ p → IsSome o → IsSome p
    → tree s i ≡ t → tree s j ≡ t → i ≡ j
injective_at s c t i j None p ei ej h k d e = absurd (cc)
injective_at s c t i j (Some n) None ei ej h k d e = absurd (cc)
injective_at s c t i j (Some (Terminal x)) (Some (Terminal y)) ei ej h k d e =
    let dx = tree-terminal s i x ei in
    let ey = tree-terminal s j y ej in
    let same : x ≡ y = cc in
    c.unique i j (Terminal y) (ei ∙ rw same) ej
injective_at s c t i j (Some (Terminal x)) (Some (Node w m g)) ei ej h k d e =
    let dx = tree-terminal s i x ei in
    let ey = tree-node s c j w m g ej in
    absurd (cc)
injective_at s c t i j (Some (Node v lo hi)) (Some (Terminal y)) ei ej h k d e =
    let dx = tree-node s c i v lo hi ei in
    let ey = tree-terminal s j y ej in
    absurd (cc)
injective_at s c (Constant x) i j (Some (Node v lo hi)) (Some (Node w m g)) ei ej h k d e =
    let dx = tree-node s c i v lo hi ei in
    absurd (cc)
injective_at s c (Branch u a b) i j (Some (Node v lo hi)) (Some (Node w m g)) ei ej h k d e =
    let dx = tree-node s c i v lo hi ei in
    let ey = tree-node s c j w m g ej in
    let vw : v ≡ w = cc in
    let ni = c.nodes i v lo hi ei in
    let nj = c.nodes j w m g ej in
    let lom : lo ≡ m = injective_at s c a lo m (top_of s lo) (top_of s m) refl refl (live-above _ _ ni.lo_above) (live-above _ _ nj.lo_above) (cc) (cc) in
    let hig : hi ≡ g = injective_at s c b hi g (top_of s hi) (top_of s g) refl refl (live-above _ _ ni.hi_above) (live-above _ _ nj.hi_above) (cc) (cc) in
    c.unique i j (Node w m g) (ei ∙ rw (vw, lom, hig)) ej

-- live ids whose trees are equal are equal
pub injective : (s : Diagrams) → IsCanonical s → (i j : Id) → IsLive s i → IsLive s j → tree s i ≡ tree s j → i ≡ j
injective s c i j h k e = injective_at s c (tree s j) i j (top_of s i) (top_of s j) refl refl h k e refl

-- the tree of a live id is reduced
reduced_at : (s : Diagrams) → IsCanonical s → (t : Tree) (i : Id) (o : Option Look) → top_of s i ≡ o → IsSome o → tree s i ≡ t → IsReduced t
reduced_at s c t i None e h d = absurd (cc)
reduced_at s c (Constant x) i (Some n) e h d = tt
reduced_at s c (Branch u a b) i (Some (Terminal x)) e h d = let k = tree-terminal s i x e in absurd (cc)
reduced_at s c (Branch u a b) i (Some (Node v lo hi)) e h d =
    let k = tree-node s c i v lo hi e in
    let n = c.nodes i v lo hi e in
    let lot : tree s lo ≡ a = cc in
    let hit : tree s hi ≡ b = cc in
    let vu : v ≡ u = cc in
    let live-lo = live-above _ _ n.lo_above in
    let live-hi = live-above _ _ n.hi_above in
    rw (← vu) (
      (rw lot at (tree-above s c v lo n.lo_above)),
      (rw hit at (tree-above s c v hi n.hi_above)),
      (λ z. n.differ (injective s c lo hi live-lo live-hi (lot ∙ z ∙ sym hit))),
      reduced_at s c a lo (top_of s lo) refl live-lo lot,
      reduced_at s c b hi (top_of s hi) refl live-hi hit,
    )

-- each live id has a reduced tree
pub tree-reduced : (s : Diagrams) → IsCanonical s → (i : Id) → IsLive s i → IsReduced (tree s i)
tree-reduced s c i h = reduced_at s c (tree s i) i (top_of s i) refl h refl

-- live ids are equal where they name one function
pub same_id_by_value : (s : Diagrams) → IsCanonical s → (i j : Id) → IsLive s i → IsLive s j → ((a : Assignment) → eval s i a ≡ eval s j a) → i ≡ j
unfolding eval
same_id_by_value s c i j h k same = injective s c i j h k (canonical (tree s i) (tree s j) (tree-reduced s c i h) (tree-reduced s c j k) same)

-- an id that depends on variables above v alone stands above v
pub stands_from_depends : (s : Diagrams) → IsCanonical s → (v : ℕ) (i : Id) → IsLive s i → DependsOn s i (λ w. v < w) → StandsAbove s v i
unfolding eval
stands_from_depends s c v i h d = stands_above s c v i h (above_from_depends v (tree s i) (tree-reduced s c i h) d)

-- the meaning of a live id lasts
lasts_at : (s n : Diagrams) → IsCanonical s → IsCanonical n → Extends s n → (t : Tree) (i : Id) (o : Option Look) → top_of s i ≡ o → IsSome o
    → tree s i ≡ t → tree n i ≡ t
lasts_at s n c d x t i None e h q = absurd (cc)
lasts_at s n c d x t i (Some (Terminal y)) e h q =
    tree-terminal n i y (x.tops i (Terminal y) e) ∙ sym (tree-terminal s i y e) ∙ q
lasts_at s n c d x (Constant y) i (Some (Node v lo hi)) e h q = let k = tree-node s c i v lo hi e in absurd (cc)
lasts_at s n c d x (Branch u a b) i (Some (Node v lo hi)) e h q =
    let k = tree-node s c i v lo hi e in
    let node = c.nodes i v lo hi e in
    let lot : tree s lo ≡ a = cc in
    let hit : tree s hi ≡ b = cc in
    let vu : v ≡ u = cc in
    let lo-new = lasts_at s n c d x a lo (top_of s lo) refl (live-above _ _ node.lo_above) lot in
    let hi-new = lasts_at s n c d x b hi (top_of s hi) refl (live-above _ _ node.hi_above) hit in
    tree-node n d i v lo hi (x.tops i (Node v lo hi) e) ∙ rw (vu, lo-new, hi-new)

-- a live id keeps its tree as the store grows
pub tree-lasts : (s n : Diagrams) → IsCanonical s → IsCanonical n → Extends s n → (i : Id) → IsLive s i → tree n i ≡ tree s i
tree-lasts s n c d x i h = lasts_at s n c d x (tree s i) i (top_of s i) refl h refl

-- a live id keeps its value at each assignment as the store grows
pub eval-lasts : (s n : Diagrams) → IsCanonical s → IsCanonical n → Extends s n → (i : Id) → IsLive s i → (a : Assignment) → eval n i a ≡ eval s i a
unfolding eval
eval-lasts s n c d x i h a = rw (tree-lasts s n c d x i h)

-- a live diagram is 1 at the same assignments in a grown store
pub is_one-lasts : (s n : Diagrams) → Keeps s n → (i : Id) → IsLive s i → (a : Assignment) → is_one n i a ≡ is_one s i a
is_one-lasts s n k i h a = ap (λ x. x == 1) (eval-lasts s n k.was k.now k.extends i h a)

-- a live id has a top
pub live_some : (o : Option Look) → IsSome o → (n : Look) × (o ≡ Some n)
live_some None h = absurd (cc)
live_some (Some n) h = (n, refl)

-- a live id stays live as the store grows
pub live_lasts : (s n : Diagrams) → Extends s n → (i : Id) → IsLive s i → IsLive n i
live_lasts s n x i h = let p = live_some (top_of s i) h in rw (x.tops i p.0 p.1) refl

-- a store extends itself
pub Extends_refl : (s : Diagrams) → Extends s s
Extends_refl s = record { props = refl; tops = λ i n e. e }

-- an extension of an extension extends the first store
pub Extends_trans : (r s t : Diagrams) → Extends r s → Extends s t → Extends r t
Extends_trans r s t x y = record { props = y.props ∙ x.props; tops = λ i n e. y.tops i n (x.tops i n e) }

-- no slot is added where nothing changes
pub Fills_refl : (s : Diagrams) → Fills s s
Fills_refl s = record { slots = omega arith; full = λ h. absurd (omega arith) }

-- slots that are filled in two steps are so in both together
pub Fills_trans : (r s t : Diagrams) → Extends s t → Fills r s → Fills s t → Fills r t
Fills_trans r s t e x y = record {
  slots = omega (arith, x.slots, y.slots);
  full = λ h. elim (cases_lt (length s.tops) (length t.tops)) [
    | inl more ↦ y.full more
    | inr same ↦ live_count-all t (λ i k. live_lasts s t e i (all_live-count s (x.full (omega (arith, h, same))) i (omega (arith, k, same))))
  ];
}

-- what a top says of the value
pub eval-node : (s : Diagrams) → IsCanonical s → (i : Id) (v : ℕ) (lo hi : Id) → top_of s i ≡ Some (Node v lo hi) → (a : Assignment)
    → eval s i a ≡ (if a v then eval s hi a else eval s lo a)
unfolding eval
eval-node s c i v lo hi e a = rw (tree-node s c i v lo hi e)

-- a terminal has its own value at each assignment
pub eval-terminal : (s : Diagrams) (i : Id) (t : ℕ) → top_of s i ≡ Some (Terminal t) → (a : Assignment) → eval s i a ≡ t
unfolding eval
eval-terminal s i t e a = rw (tree-terminal s i t e)

-- what a live id's top says of its value
pub top_values : (s : Diagrams) → IsCanonical s → HasTopValues s
top_values s c i (Terminal t) e a = eval-terminal s i t e a
top_values s c i (Node v lo hi) e a = eval-node s c i v lo hi e a

-- a call that makes a terminal makes the constant function
pub means_terminal_ok : {E : Type 0} (r : Result Id E) (s : Diagrams) (t : ℕ) → IfOk r (λ id. top_of s id ≡ Some (Terminal t)) → IfOk r (λ id. Means s id (λ _. t))
means_terminal_ok r s t =
    IfOk-weaker r (λ id. top_of s id ≡ Some (Terminal t)) (λ id. Means s id (λ _. t))
    (λ id e. record { live = rw e refl; value = λ a. eval-terminal s id t e a })

-- a canonical store keeps what it has
pub Keeps_refl : (s : Diagrams) → IsCanonical s → Keeps s s
Keeps_refl s c = record { was = c; now = c; extends = Extends_refl s }

-- what two steps in a row keep is kept by both together
pub Keeps_trans : (r s t : Diagrams) → Keeps r s → Keeps s t → Keeps r t
Keeps_trans r s t x y = record { was = x.was; now = y.now; extends = Extends_trans r s t x.extends y.extends }

-- what is equal to an id's top is its top
pub top_is : (s : Diagrams) (f : Id) (t u : Look) → top_of s f ≡ Some t → t ≡ u → top_of s f ≡ Some u
top_is s f t u e q = e ∙ ap (λ w. Some w) q

-- slots that are filled by two calls in a row are so by both together
pub fills_on : (r s t : Diagrams) → Keeps s t → Fills r s → Fills s t → Fills r t
fills_on r s t k x y = Fills_trans r s t k.extends x y

-- a diagram of terminals 0 and 1 stays one
pub truth_lasts : (s n : Diagrams) → Keeps s n → (f : Id) → IsTruth s f → IsTruth n f
truth_lasts s n k f t = record {
  live = live_lasts s n k.extends f t.live;
  truth = λ a. rw (eval-lasts s n k.was k.now k.extends f t.live a) (t.truth a);
}

-- an id that names a function names it still as the store grows
pub means_lasts : (s n : Diagrams) → Keeps s n → (i : Id) (f : Assignment → ℕ) → Means s i f → Means n i f
means_lasts s n k i f m = record { live = live_lasts s n k.extends i m.live; value = λ a. eval-lasts s n k.was k.now k.extends i m.live a ∙ m.value a }

-- the node of the constants 0 and 1 is the literal of its variable
pub means_literal_ok : {E : Type 0} (r : Result Id E) (s0 s n : Diagrams) → Keeps s0 s → (v : ℕ) (lo hi : Id) → Means s0 lo (λ _. 0) → Means s hi (λ _. 1)
    → IfOk r (λ id. Means n id (split_value s v lo hi)) → IfOk r (λ id. Means n id (literal_value v))
means_literal_ok r s0 s n k v lo hi l h =
    IfOk-weaker r (λ id. Means n id (split_value s v lo hi)) (λ id. Means n id (literal_value v))
    (λ id m. record { live = m.live; value = λ a. m.value a ∙ (rw (h.value a, eval-lasts s0 s k.was k.now k.extends lo l.live a, l.value a) refl) })
