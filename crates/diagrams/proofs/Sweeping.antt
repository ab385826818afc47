-- A store after a sweep.
use Rattle.std.proofs.Common.{◌≡◌, ℕ, zero, suc, ◌<◌, true, false, refl, sym, ◌∙◌, ap, subst, arith, inl, inr, Option, Some, None, List, length, eqb}
use Rattle.std.proofs.lemmas.Bool.Decides.{eqb_tells}
use Rattle.std.proofs.lemmas.Option.{none-some}
use Rattle.std.proofs.lemmas.List.{length-map}
use Rattle.diagrams.specs.declared.top.Id.{Id}
use Rattle.diagrams.specs.declared.top.Look.{Look}
use Rattle.diagrams.specs.declared.top.Look.TheVariants.{Terminal, Node}
use Rattle.diagrams.specs.Tree.{Branch, Assignment, value_at}
use Rattle.diagrams.specs.Eval.{Diagrams, top_of, tree_from, tree_to, limit, tree, eval, id_at}
use Rattle.diagrams.specs.Live.{IsLive, StandsAbove, IsCanonical}
use Rattle.diagrams.specs.Tops.{top_of_key, key_of, MarksAll, Frees, FreesAll}
use Rattle.diagrams.specs.Inside.{of_keys}
use Rattle.diagrams.specs.Swept.{IsChild, IsReachedIn, IsReached, IsSwept}
use Rattle.diagrams.proofs.Meaning.{live_some, live-above}
use Rattle.diagrams.proofs.Keys.{key_in, id_same, top_in, some_in, live_in, key_is, free_none}
use Rattle.unique_table.specs.declared.slots.Key.{Key}
use Rattle.unique_table.specs.declared.slots.Slot.{Slot}
use Rattle.unique_table.specs.Slots.{is_free, keys, key_at}
use Rattle.unique_table.specs.Marks.{Leads, ReachesIn, AreWithin, IsSeen}
use Rattle.unique_table.proofs.SlotLemmas.{key_at-keys}
use Rattle.unique_table.proofs.MarkLemmas.{length-keys}
use Rattle.unique_table.proofs.LinkLemmas.{same_or_not}
use Rattle.unique_table.specs.Slots.{next_at}

-- what is reached from a live id is live
child_live : (s : Diagrams) → IsCanonical s → (f i : Id) → IsChild s f i → IsLive s i
child_live s c f i h = let k = c.nodes f h.var h.lo h.hi h.top in elim h.one [
  | inl q ↦ rw q (live-above h.var (top_of s h.lo) k.lo_above)
  | inr q ↦ rw q (live-above h.var (top_of s h.hi) k.hi_above)
]

-- and in any number of steps
pub reached_live : (s : Diagrams) → IsCanonical s → (n : ℕ) (f i : Id) → IsLive s f → IsReachedIn n s f i → IsLive s i
reached_live s c zero f i l r = rw r l
reached_live s c (suc n) f i l r = child_live s c r.0 i r.2

-- a key that leads somewhere keeps a node
lead_node : (k : Key) (i : ℕ) → Leads k i → top_of_key k ≡ Some (Node k.var (record { 0 = k.lo }) (record { 0 = k.hi }))
lead_node k i l = let f : eqb k.lo k.hi ≡ false = elim (eqb_tells k.lo k.hi) [ inl t ↦ absurd (l.differ t.1) | inr ne ↦ ne.0 ] in rw f refl

-- and a node leads to its children
child_lead : (s : Diagrams) (p : ℕ) (ks : List Key) → s ≡ of_keys p ks → IsCanonical s → (f i : Id) → IsChild s f i → (f.0 < length ks) × Leads (key_in ks f.0) i.0
child_lead s p ks e c f i h =
    let top : top_of (of_keys p ks) f ≡ Some (Node h.var h.lo h.hi) = ap (λ t. top_of t f) (sym e) ∙ h.top in
    let l = some_in p ks f (Node h.var h.lo h.hi) top in
    let k : key_in ks f.0 ≡ key_of (Node h.var h.lo h.hi) = key_is (key_in ks f.0) (Node h.var h.lo h.hi) (sym (top_in p ks f l) ∙ top) in
    let d = (c.nodes f h.var h.lo h.hi h.top).differ in
    (l, rw k (record { differ = λ q. d (id_same h.lo h.hi q); to = elim h.one [ inl q ↦ inl (ap (λ x. x.0) q) | inr q ↦ inr (ap (λ x. x.0) q) ] }))

-- each key of a canonical store leads to slots that are there
pub are_within : (p : ℕ) (ks : List Key) → IsCanonical (of_keys p ks) → AreWithin ks
are_within p ks c i j h l =
    let k = key_in ks i in
    let e = top_in p ks (record { 0 = i }) h ∙ lead_node k j l in
    let n = c.nodes (record { 0 = i }) k.var (record { 0 = k.lo }) (record { 0 = k.hi }) e in
    elim l.to [
      | inl q ↦ rw q (live_in p ks (record { 0 = k.lo }) (live-above k.var (top_of (of_keys p ks) (record { 0 = k.lo })) n.lo_above))
      | inr q ↦ rw q (live_in p ks (record { 0 = k.hi }) (live-above k.var (top_of (of_keys p ks) (record { 0 = k.hi })) n.hi_above))
    ]

-- what the steps of a sweep do to the slots
pub frees_all : (first marked freed last : List Slot) (roots : List Id) → keys marked ≡ keys first → MarksAll marked roots → length freed ≡ length marked
    → ((i : ℕ) → i < length marked → IsSeen marked i → key_at freed i ≡ key_at marked i) → ((i : ℕ) → i < length marked → next_at marked i ≡ 4294967295 → is_free (key_at freed i) ≡ true)
    → keys last ≡ keys freed → FreesAll (keys first) (keys last) roots
frees_all first marked freed last roots same m long seen unseen end =
    let long1 = length-map first (λ s. s.key) in
    let long2 = length-map last (λ s. s.key) in
    let long3 = length-keys marked first same in
    let long4 = length-keys last freed end in
    record {
      marks = marked;
      frees = record {
        long = omega (arith, long1, long2, long3, long4, long);
        cases = λ i h. elim (same_or_not (next_at marked i) 4294967295) [
          | inl u ↦ inr (ap is_free (ap (λ ks. key_in ks i) end ∙ sym (key_at-keys freed i)) ∙ unseen i (omega (arith, h, long1, long3)) u)
          | inr s ↦ inl s
        ];
        same = λ i h s. ap (λ ks. key_in ks i) end ∙ sym (key_at-keys freed i) ∙ seen i (omega (arith, h, long1, long3)) s ∙ key_at-keys marked i ∙ ap (λ ks. key_in ks i) same;
        closed = λ i j h s l. m.closed i j (omega (arith, h, long1, long3)) s (rw (key_at-keys marked i, same) l);
        all = m.all;
        reached = λ i h s. let r = m.reached i (omega (arith, h, long1, long3)) s in (let P : List Key → Type 0 = (λ ks. ReachesIn r.2.0 ks (id_at roots r.0).0 i) in (r.0, r.1, (r.2.0, subst P same r.2.1)));
      };
    }

module _ (p : ℕ) (old new : List Key) (roots : List Id) (seen : ℕ → Type 0) (c : IsCanonical (of_keys p old)) (f : Frees old new roots seen)
    (lives : (k : ℕ) → k < length roots → IsLive (of_keys p old) (id_at roots k)) where
  seen_down : (n : ℕ) (r i : Id) → seen r.0 → IsReachedIn n (of_keys p old) r i → seen i.0
  seen_down zero r i s h = rw h s
  seen_down (suc n) r i s h = let l = child_lead (of_keys p old) p old refl c h.0 i h.2 in f.closed h.0.0 i.0 l.0 (seen_down n r h.0 s h.1) l.1

  seen_all : (i : Id) → IsReached (of_keys p old) roots i → seen i.0
  seen_all i r = seen_down r.2.0 (id_at roots r.0) i (f.all r.0 r.1) r.2.1

  live_all : (i : Id) → IsReached (of_keys p old) roots i → IsLive (of_keys p old) i
  live_all i r = reached_live (of_keys p old) c r.2.0 (id_at roots r.0) i (lives r.0 r.1) r.2.1

  top_same : (i : Id) → i.0 < length old → seen i.0 → top_of (of_keys p new) i ≡ top_of (of_keys p old) i
  top_same i h s = top_in p new i (rw f.long h) ∙ ap top_of_key (f.same i.0 h s) ∙ sym (top_in p old i h)

  up : (n r i : ℕ) → ReachesIn n old r i → IsReachedIn n (of_keys p old) (record { 0 = r }) (record { 0 = i })
  up zero r i h = id_same (record { 0 = i }) (record { 0 = r }) h
  up (suc n) r i h = let k = key_in old h.0 in (
    record { 0 = h.0 },
    up n r h.0 h.2,
    record {
      var = k.var;
      lo = record { 0 = k.lo };
      hi = record { 0 = k.hi };
      top = top_in p old (record { 0 = h.0 }) h.1 ∙ lead_node k i h.3;
      one = elim h.3.to [ inl q ↦ inl (id_same (record { 0 = i }) (record { 0 = k.lo }) q) | inr q ↦ inr (id_same (record { 0 = i }) (record { 0 = k.hi }) q) ];
    },
  )

  -- a live id of the new store was seen
  live_seen : (i : Id) → IsLive (of_keys p new) i → (i.0 < length old) × seen i.0
  live_seen i l = let h : i.0 < length old = let x = live_in p new i l in rw f.long at x in (
    h,
    elim (f.cases i.0 h) [
      | inl s ↦ s
      | inr free ↦ let t = live_some (top_of (of_keys p new) i) l in absurd (none-some t.0 (sym (free_none (key_in new i.0) free) ∙ sym (top_in p new i (rw f.long h)) ∙ t.1))
    ],
  )

  from_same : (n : ℕ) (i : Id) (o : Option Look) → top_of (of_keys p old) i ≡ o → i.0 < length old → seen i.0 → tree_from (tree_to n (of_keys p new)) o ≡ tree_from (tree_to n (of_keys p old)) o
  from_same n i None e h s = refl
  from_same n i (Some (Terminal t)) e h s = refl
  from_same zero i (Some (Node v lo hi)) e h s = refl
  from_same (suc n) i (Some (Node v lo hi)) e h s =
      let a : IsChild (of_keys p old) i lo = record { var = v; lo = lo; hi = hi; top = e; one = inl refl } in
      let b : IsChild (of_keys p old) i hi = record { var = v; lo = lo; hi = hi; top = e; one = inr refl } in
      let seen_lo = f.closed i.0 lo.0 h s (child_lead (of_keys p old) p old refl c i lo a).1 in
      let seen_hi = f.closed i.0 hi.0 h s (child_lead (of_keys p old) p old refl c i hi b).1 in
      let in_lo = live_in p old lo (child_live (of_keys p old) c i lo a) in
      let in_hi = live_in p old hi (child_live (of_keys p old) c i hi b) in
      let x : tree_to (suc n) (of_keys p new) lo ≡ tree_to (suc n) (of_keys p old) lo =
      ap (tree_from (tree_to n (of_keys p new))) (top_same lo in_lo seen_lo) ∙ from_same n lo (top_of (of_keys p old) lo) refl in_lo seen_lo in
      let y : tree_to (suc n) (of_keys p new) hi ≡ tree_to (suc n) (of_keys p old) hi =
      ap (tree_from (tree_to n (of_keys p new))) (top_same hi in_hi seen_hi) ∙ from_same n hi (top_of (of_keys p old) hi) refl in_hi seen_hi in
      ap (λ t. Branch v t (tree_to (suc n) (of_keys p new) hi)) x ∙ ap (Branch v (tree_to (suc n) (of_keys p old) lo)) y

  value_same : (i : Id) → IsReached (of_keys p old) roots i → (a : Assignment) → eval (of_keys p new) i a ≡ eval (of_keys p old) i a
  unfolding eval tree
  value_same i r a =
      let h = live_in p old i (live_all i r) in
      ap (λ t. value_at t a) (ap (tree_from (tree_to limit (of_keys p new))) (top_same i h (seen_all i r)) ∙ from_same limit i (top_of (of_keys p old) i) refl h (seen_all i r))

  back : (i : Id) (n : Look) → top_of (of_keys p new) i ≡ Some n → (i.0 < length old) × seen i.0 × (top_of (of_keys p old) i ≡ Some n)
  back i n e = let l = live_seen i (rw e refl) in (l.0, l.1, sym (top_same i l.0 l.1) ∙ e)

  above_same : (v : ℕ) (i : Id) → seen i.0 → StandsAbove (of_keys p old) v i → StandsAbove (of_keys p new) v i
  above_same v i s h = rw (top_same i (live_in p old i (live-above v (top_of (of_keys p old) i) h)) s) h

  now_canonical : IsCanonical (of_keys p new)
  now_canonical = record {
    nodes = λ i v lo hi e.
        let b = back i (Node v lo hi) e in
        let k = c.nodes i v lo hi b.2 in
        let x : IsChild (of_keys p old) i lo = record { var = v; lo = lo; hi = hi; top = b.2; one = inl refl } in
        let y : IsChild (of_keys p old) i hi = record { var = v; lo = lo; hi = hi; top = b.2; one = inr refl } in
        record {
          small = k.small;
          lo_above = above_same v lo (f.closed i.0 lo.0 b.0 b.1 (child_lead (of_keys p old) p old refl c i lo x).1) k.lo_above;
          hi_above = above_same v hi (f.closed i.0 hi.0 b.0 b.1 (child_lead (of_keys p old) p old refl c i hi y).1) k.hi_above;
          differ = k.differ;
        };
    unique = λ i j n e q. c.unique i j n (back i n e).2 (back j n q).2;
  }

  -- the store whose unseen slots are freed is swept
  pub swept : IsSwept (of_keys p old) (of_keys p new) roots
  swept = record {
    was = c;
    now = now_canonical;
    props = refl;
    slots = length-map new top_of_key ∙ f.long ∙ sym (length-map old top_of_key);
    tops = λ i r. top_same i (live_in p old i (live_all i r)) (seen_all i r);
    live = λ i r. let l = live_all i r in rw (top_same i (live_in p old i l) (seen_all i r)) l;
    value = value_same;
    ended = λ i l. let x = live_seen i l in let r = f.reached i.0 x.0 x.1 in (r.0, r.1, (r.2.0, up r.2.0 (id_at roots r.0).0 i.0 r.2.1));
  }
