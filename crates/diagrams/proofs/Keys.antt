-- The fields of a store: keys and the tops that they keep.
use Rattle.std.proofs.Common.{◌≡◌, ◌≢◌, ℕ, ◌<◌, ◌≤◌, ◌+◌, Bool, true, false, not, cond, refl, sym, ◌∙◌, ap, arith, inl, inr, IsSome, Option, Some, None, List, [], ◌∷◌, ◌++◌, length, eqb, get_or, set}
use Rattle.std.specs.Prelude.{slice_get, ◌&&◌}
use Rattle.std.specs.Option.{option_flatten, option_map}
use Rattle.std.proofs.lemmas.Bool.{cases_Bool, cases_lt, eqb-true}
use Rattle.std.proofs.lemmas.Bool.Decides.{eqb_tells}
use Rattle.std.proofs.lemmas.List.{get_or-set_same, get_or-set_other, length-set, length-map, length-append}
use Rattle.std.proofs.lemmas.Option.{none-some, same_Some, slice_get-map, slice_get-get_or, slice_get_read, slice_get_past, get_or_from_slice_get}
use Rattle.diagrams.specs.declared.top.Id.{Id}
use Rattle.diagrams.specs.declared.top.Look.{Look}
use Rattle.diagrams.specs.declared.top.Look.TheVariants.{Terminal, Node}
use Rattle.diagrams.specs.Branch.{IsFit}
use Rattle.diagrams.specs.Eval.{Diagrams, top_of}
use Rattle.diagrams.specs.Live.{IsLive, Extends, Fills}
use Rattle.diagrams.specs.Tops.{top_of_key, key_of, IsSmall}
use Rattle.diagrams.specs.Inside.{of_keys, store_of, HasUniqueTable}
use Rattle.diagrams.specs.declared.store.Store.TheInside.{Inside}
use Rattle.diagrams.proofs.Counts.{live_count-all}
use Rattle.diagrams.proofs.Meaning.{live_some, live-above}
use Rattle.diagrams.proofs.Growth.{Adds, adds_canonical}
use Rattle.diagrams.proofs.Table.{get-append, get-append_next}
use Rattle.unique_table.specs.declared.slots.Key.{Key}
use Rattle.unique_table.specs.declared.slots.Slot.{Slot}
use Rattle.unique_table.specs.Slots.{is_free, keys, kept_count, key_at, no_slot, head_at, IsLinked}
use Rattle.unique_table.proofs.SlotLemmas.{key_at-keys, all_kept, count-set, count-push}
use Rattle.unique_table.proofs.LinkLemmas.{same_or_not}

-- the key with zeros
abbrev pub zeros : Key
zeros = record { var = 0; lo = 0; hi = 0 }

-- the key at a place, or zeros
abbrev pub key_in : List Key → ℕ → Key
key_in ks i = get_or ks i zeros

-- ids of one number are one
pub id_same : (i j : Id) → i.0 ≡ j.0 → i ≡ j
id_same i j e = ap (λ k. record { 0 = k }) e

-- the top of an id is what its key keeps
pub top_in : (p : ℕ) (ks : List Key) (i : Id) → i.0 < length ks → top_of (of_keys p ks) i ≡ top_of_key (key_in ks i.0)
unfolding top_of
top_in p ks i h = rw (slice_get-map top_of_key ks i.0, slice_get-get_or ks i.0 zeros h) refl

top_past : (p : ℕ) (ks : List Key) (i : Id) → length ks ≤ i.0 → top_of (of_keys p ks) i ≡ None
unfolding top_of
top_past p ks i h = rw (slice_get-map top_of_key ks i.0, slice_get_past ks i.0 h) refl

-- an id with a top has a key
pub some_in : (p : ℕ) (ks : List Key) (i : Id) (n : Look) → top_of (of_keys p ks) i ≡ Some n → i.0 < length ks
some_in p ks i n e = elim (cases_lt i.0 (length ks)) [
  | inl h ↦ h
  | inr h ↦ absurd (none-some n (sym (top_past p ks i h) ∙ e))
]

-- and so has a live id
pub live_in : (p : ℕ) (ks : List Key) (i : Id) → IsLive (of_keys p ks) i → i.0 < length ks
live_in p ks i l = let s = live_some (top_of (of_keys p ks) i) l in some_in p ks i s.0 s.1

-- a key that is free keeps nothing
pub free_none : (k : Key) → is_free k ≡ true → top_of_key k ≡ None
free_none k e = rw e refl

-- and any other keeps a top
pub kept_some : (k : Key) → is_free k ≡ false → IsSome (top_of_key k)
kept_some k e = rw e (elim (cases_Bool (eqb k.lo k.hi)) [ inl t ↦ rw t refl | inr f ↦ rw f refl ])

key_equal : (v l h m g : ℕ) → l ≡ m → h ≡ g → (let a : Key = record { var = v; lo = l; hi = h } in let b : Key = record { var = v; lo = m; hi = g } in a ≡ b)
key_equal v l h m g a b = rw (a, b) refl

key_by : (k : Key) (n : Look) (free : Bool) (same zero_lo : Bool) → (eqb k.lo k.hi ≡ same) → (eqb k.lo 0 ≡ zero_lo)
    → cond (same && not zero_lo) None (cond same (Some (Terminal k.var)) (Some (Node k.var (record { 0 = k.lo }) (record { 0 = k.hi })))) ≡ Some n → k ≡ key_of n
key_by k n free true true e z q = let same = eqb-true k.lo k.hi e in let zero_is = eqb-true k.lo 0 z in let t = same_Some (Terminal k.var) n q in rw (← t) (let hi : k.hi ≡ 0 = sym same ∙ zero_is in key_equal k.var k.lo k.hi 0 0 zero_is hi)
key_by k n free true false e z q = absurd (none-some n q)
key_by k n free false true e z q = let t = same_Some (Node k.var (record { 0 = k.lo }) (record { 0 = k.hi })) n q in rw (← t) refl
key_by k n free false false e z q = let t = same_Some (Node k.var (record { 0 = k.lo }) (record { 0 = k.hi })) n q in rw (← t) refl

-- a key is told by the top that it keeps
pub key_is : (k : Key) (n : Look) → top_of_key k ≡ Some n → k ≡ key_of n
key_is k n e = key_by k n true (eqb k.lo k.hi) (eqb k.lo 0) refl refl e

-- the key of a top that fits keeps it
pub key_keeps : (n : Look) → ((v : ℕ) (lo hi : Id) → n ≡ Node v lo hi → lo ≢ hi) → (is_free (key_of n) ≡ false) × (top_of_key (key_of n) ≡ Some n)
key_keeps (Terminal t) h = (refl, refl)
key_keeps (Node v lo hi) h = let f : eqb lo.0 hi.0 ≡ false = elim (eqb_tells lo.0 hi.0) [ inl t ↦ absurd (h v lo hi refl (id_same lo hi t.1)) | inr ne ↦ ne.0 ] in (rw f refl, rw f refl)

-- a top in a slot that was free
pub set_adds : (p : ℕ) (ks : List Key) (i : ℕ) (n : Look) → i < length ks → is_free (key_in ks i) ≡ true → top_of_key (key_of n) ≡ Some n
    → Adds (of_keys p ks) (of_keys p (set ks i (key_of n))) (record { 0 = i }) n
set_adds p ks i n h free k = record {
  extends = record {
    props = refl;
    tops = λ j m e.
        let l = some_in p ks j m e in
        top_in p (set ks i (key_of n)) j (rw (length-set ks i (key_of n)) l)
        ∙ ap top_of_key (get_or-set_other ks i j.0 (key_of n) zeros (λ q. none-some m (sym (free_none (key_in ks i) free) ∙ ap (λ x. top_of_key (key_in ks x)) (sym q) ∙ sym (top_in p ks j l) ∙ e)))
        ∙ sym (top_in p ks j l) ∙ e;
  };
  at = top_in p (set ks i (key_of n)) (record { 0 = i }) (rw (length-set ks i (key_of n)) h) ∙ ap top_of_key (get_or-set_same ks i (key_of n) zeros h) ∙ k;
  only = λ j m e.
      let l : j.0 < length ks = let x = some_in p (set ks i (key_of n)) j m e in rw (length-set ks i (key_of n)) at x in
      elim (same_or_not j.0 i) [
        | inl q ↦ inr (
          id_same j (record { 0 = i }) q,
          same_Some m n (sym e ∙ top_in p (set ks i (key_of n)) j (rw (length-set ks i (key_of n)) l) ∙ ap (λ x. top_of_key (key_in (set ks i (key_of n)) x)) q ∙ ap top_of_key (get_or-set_same ks i (key_of n) zeros h) ∙ k),
        )
        | inr ne ↦ inl (top_in p ks j l ∙ sym (ap top_of_key (get_or-set_other ks i j.0 (key_of n) zeros ne)) ∙ sym (top_in p (set ks i (key_of n)) j (rw (length-set ks i (key_of n)) l)) ∙ e)
      ];
}

-- the top of an id by what stands at its place
pub top_get : (p : ℕ) (ks : List Key) (i : Id) → top_of (of_keys p ks) i ≡ option_flatten (option_map top_of_key (slice_get ks i.0))
unfolding top_of
top_get p ks i = rw (slice_get-map top_of_key ks i.0) refl

-- and no slot is added
pub set_fills : (p : ℕ) (ks : List Key) (i : ℕ) (k : Key) → Fills (of_keys p ks) (of_keys p (set ks i k))
set_fills p ks i k =
    let long = length-map (set ks i k) top_of_key ∙ length-set ks i k ∙ sym (length-map ks top_of_key) in
    record { slots = omega (arith, long); full = λ h. absurd (omega (arith, long)) }

-- a top in a slot of its own, where each slot is live
module _ (p : ℕ) (ks : List Key) (n : Look) (k : top_of_key (key_of n) ≡ Some n) (all : (i : Id) → i.0 < length ks → IsLive (of_keys p ks) i) where
  abbrev more : List Key
  more = ks ++ key_of n ∷ []

  long : length more ≡ length ks + 1
  long = length-append ks (key_of n ∷ [])

  old_same : (j : Id) → j.0 < length ks → top_of (of_keys p more) j ≡ top_of (of_keys p ks) j
  old_same j l = top_get p more j ∙ ap (λ o. option_flatten (option_map top_of_key o)) (get-append ks (key_of n ∷ []) j.0 l) ∙ sym (top_get p ks j)

  new_at : top_of (of_keys p more) (record { 0 = length ks }) ≡ Some n
  new_at = top_get p more (record { 0 = length ks }) ∙ ap (λ o. option_flatten (option_map top_of_key o)) (get-append_next ks [] (key_of n)) ∙ k

  live_by : (o : Option Look) (q : Option Look) → q ≡ o → IsSome o → IsSome q
  live_by o q e h = rw e h

  full_by : (i : Id) → i.0 < length more → IsSome (top_of (of_keys p more) i)
  full_by i h = elim (same_or_not i.0 (length ks)) [
    | inl q ↦ live_by (Some n) _ (ap (top_of (of_keys p more)) (id_same i (record { 0 = length ks }) q) ∙ new_at) refl
    | inr ne ↦ let l : i.0 < length ks = omega (arith, long) in live_by _ _ (old_same i l) (all i l)
  ]

  -- it adds the top
  pub push_adds : Adds (of_keys p ks) (of_keys p more) (record { 0 = length ks }) n
  push_adds = record {
    extends = record {
      props = refl;
      tops = λ j m e. old_same j (some_in p ks j m e) ∙ e;
    };
    at = new_at;
    only = λ j m e. elim (same_or_not j.0 (length ks)) [
      | inl q ↦ let s = id_same j (record { 0 = length ks }) q in inr (s, same_Some m n (sym e ∙ ap (top_of (of_keys p more)) s ∙ new_at))
      | inr ne ↦ let l : j.0 < length ks = omega (arith, long, some_in p more j m e) in inl (sym (old_same j l) ∙ e)
    ];
  }

  -- and all slots are live
  pub push_fills : Fills (of_keys p ks) (of_keys p more)
  push_fills = record {
    slots = omega (arith, length-map ks top_of_key, length-map more top_of_key, long);
    full = λ q. live_count-all (of_keys p more) (λ i h. full_by i (omega (arith, h, length-map more top_of_key)));
  }

-- a top that fits has children that differ
pub fit_differ : (s : Diagrams) (n : Look) → IsFit s n → (v : ℕ) (lo hi : Id) → n ≡ Node v lo hi → lo ≢ hi
fit_differ s (Terminal t) f v lo hi e = absurd (cc)
fit_differ s (Node w l h) f v lo hi e = let a : l ≡ lo = cc in let b : h ≡ hi = cc in rw (← a, ← b) f.differ

-- and children that a slot can name
pub fit_small : (p : ℕ) (ks : List Key) (n : Look) → length ks < 4294967295 → IsFit (of_keys p ks) n → IsSmall n
fit_small p ks (Terminal t) few f = tt
fit_small p ks (Node v lo hi) few f =
    (omega (arith, live_in p ks lo (live-above v (top_of (of_keys p ks) lo) f.lo_above), few), omega (arith, live_in p ks hi (live-above v (top_of (of_keys p ks) hi) f.hi_above), few))

slots_long : (slots : List Slot) → length (keys slots) ≡ length slots
slots_long slots = length-map slots (λ s. s.key)

kept_by_live : (k : Key) → IsSome (top_of_key k) → is_free k ≡ false
kept_by_live k l = elim (cases_Bool (is_free k)) [ inl t ↦ absurd (let x = live_some (top_of_key k) l in none-some x.0 (sym (free_none k t) ∙ x.1)) | inr f ↦ f ]

-- the slot that is read at a live id
pub slot_read : (a : Inside) (i : Id) → IsLive (store_of a) i → (i.0 < length a.slots.items)
    × ((s : Slot) → s ≡ get_or a.slots.items i.0 s → (is_free s.key ≡ false) × (top_of (store_of a) i ≡ top_of_key s.key))
slot_read a i l =
    let h = live_in a.props (keys a.slots.items) i l in
    let k : i.0 < length a.slots.items = omega (arith, h, slots_long a.slots.items) in
    let t = top_in a.props (keys a.slots.items) i h in (
      k,
      λ s e.
          let same : key_in (keys a.slots.items) i.0 ≡ s.key = sym (key_at-keys a.slots.items i.0) ∙ ap (λ x. x.key) (get_or_from_slice_get a.slots.items i.0 s no_slot (slice_get_read a.slots.items (length a.slots.items) i.0 s refl k e)) in
          let top = t ∙ ap top_of_key same in
          (kept_by_live s.key (rw top at l), top),
    )

-- the slot that is found has the top
pub found_is : (a : Inside) (i : ℕ) (n : Look) (k : Key) → IsFit (store_of a) n → k ≡ key_of n → i < length a.slots.items → key_at a.slots.items i ≡ k → top_of (store_of a) (record { 0 = i }) ≡ Some n
found_is a i n k f own h e =
    top_in a.props (keys a.slots.items) (record { 0 = i }) (omega (arith, h, slots_long a.slots.items))
    ∙ ap top_of_key (sym (key_at-keys a.slots.items i) ∙ e ∙ own) ∙ (key_keeps n (fit_differ (store_of a) n f)).1

-- and where none is found, no id has it
pub not_found : (a : Inside) (n : Look) (k : Key) → k ≡ key_of n → ((i : ℕ) → i < length a.slots.items → key_at a.slots.items i ≢ k) → (j : Id) → top_of (store_of a) j ≡ Some n → ⊥
not_found a n k own none j e =
    let h = some_in a.props (keys a.slots.items) j n e in
    none j.0 (omega (arith, h, slots_long a.slots.items))
    (key_at-keys a.slots.items j.0 ∙ key_is (key_in (keys a.slots.items) j.0) n (sym (top_in a.props (keys a.slots.items) j h) ∙ e) ∙ sym own)

-- with no list of free slots all ids are live
pub all_live : (a : Inside) → HasUniqueTable a → head_at a.heads.items 0 ≡ 0 → (i : Id) → i.0 < length (store_of a).tops → IsLive (store_of a) i
all_live a t z i h =
    let l : i.0 < length a.slots.items = omega (arith, h, length-map (keys a.slots.items) top_of_key, slots_long a.slots.items) in
    rw (top_in a.props (keys a.slots.items) i (omega (arith, l, slots_long a.slots.items)), ← (key_at-keys a.slots.items i.0))
    (kept_some (key_at a.slots.items i.0) (all_kept a.slots.items a.heads.items t.linked z i.0 l))

-- b is a with one more top, at an id
pub record Grows (a b : Inside) (top : Look) (id : ℕ) : Type 0 where
  pub kept : HasUniqueTable b
  pub extends : Extends (store_of a) (store_of b)
  pub fills : Fills (store_of a) (store_of b)
  pub at : top_of (store_of b) (record { 0 = id }) ≡ Some top

grows_by : (a b : Inside) (n : Look) (id : ℕ) → HasUniqueTable a → IsFit (store_of a) n → ((j : Id) → top_of (store_of a) j ≡ Some n → ⊥)
    → b.props ≡ a.props → IsLinked b.slots.items b.heads.items → b.live ≡ kept_count (keys b.slots.items) → Adds (store_of a) (store_of b) (record { 0 = id }) n → Fills (store_of a) (store_of b) → Grows a b n id
grows_by a b n id t f new props linked live adds fills = record {
  kept = record {
    few = rw props t.few;
    canonical = adds_canonical (store_of a) (store_of b) (record { 0 = id }) n t.canonical adds f new;
    linked = linked;
    live = live;
  };
  extends = adds.extends;
  fills = fills;
  at = adds.at;
}

-- a top in a free slot makes the store grow
pub reused : (a b : Inside) (n : Look) (id : ℕ) (k : Key) → HasUniqueTable a → IsFit (store_of a) n → ((j : Id) → top_of (store_of a) j ≡ Some n → ⊥) → k ≡ key_of n
    → id < length a.slots.items → is_free (key_at a.slots.items id) ≡ true → keys b.slots.items ≡ set (keys a.slots.items) id k
    → b.props ≡ a.props → IsLinked b.slots.items b.heads.items → b.live ≡ a.live + 1 → Grows a b n id
reused a b n id k t f new own h free ks props linked live =
    let kk = key_keeps n (fit_differ (store_of a) n f) in
    let fk : is_free (key_in (keys a.slots.items) id) ≡ true = ap is_free (sym (key_at-keys a.slots.items id)) ∙ free in
    let hk : id < length (keys a.slots.items) = omega (arith, h, slots_long a.slots.items) in
    let ks2 : keys b.slots.items ≡ set (keys a.slots.items) id (key_of n) = ks ∙ ap (set (keys a.slots.items) id) own in
    let adds : Adds (store_of a) (store_of b) (record { 0 = id }) n = rw (props, ks2) (set_adds a.props (keys a.slots.items) id n hk fk kk.1) in
    grows_by a b n id t f new props linked (live ∙ ap (λ x. x + 1) t.live ∙ sym (count-set (keys a.slots.items) id (key_of n) hk fk kk.0) ∙ ap kept_count (sym ks2)) adds (rw (props, ks2) (set_fills a.props (keys a.slots.items) id (key_of n)))

-- and so does one in a new slot
pub pushed_on : (a b : Inside) (n : Look) (id : ℕ) (k : Key) → HasUniqueTable a → IsFit (store_of a) n → ((j : Id) → top_of (store_of a) j ≡ Some n → ⊥)
    → ((i : Id) → i.0 < length (store_of a).tops → IsLive (store_of a) i) → k ≡ key_of n
    → id ≡ length a.slots.items → keys b.slots.items ≡ keys a.slots.items ++ k ∷ []
    → b.props ≡ a.props → IsLinked b.slots.items b.heads.items → b.live ≡ a.live + 1 → Grows a b n id
pushed_on a b n id k t f new all own h ks props linked live =
    let kk = key_keeps n (fit_differ (store_of a) n f) in
    let ks2 : keys b.slots.items ≡ keys a.slots.items ++ key_of n ∷ [] = ks ∙ ap (λ x. keys a.slots.items ++ x ∷ []) own in
    let at : id ≡ length (keys a.slots.items) = h ∙ sym (slots_long a.slots.items) in
    let adds : Adds (store_of a) (store_of b) (record { 0 = id }) n =
    rw (props, ks2, at) (push_adds a.props (keys a.slots.items) n kk.1 (λ i l. all i (omega (arith, l, length-map (keys a.slots.items) top_of_key)))) in
    grows_by a b n id t f new props linked (live ∙ ap (λ x. x + 1) t.live ∙ sym (count-push (keys a.slots.items) (key_of n) kk.0) ∙ ap kept_count (sym ks2)) adds (rw (props, ks2) (push_fills a.props (keys a.slots.items) n kk.1 (λ i l. all i (omega (arith, l, length-map (keys a.slots.items) top_of_key)))))

empty_by : (p : ℕ) (ks : List Key) → ks ≡ [] → (i : Id) (n : Look) → top_of (of_keys p ks) i ≡ Some n → ⊥
empty_by p ks e i n q = let h = some_in p ks i n q in absurd (omega (arith, h, ap length e))

-- a store without slots
pub empty_table : (a : Inside) → a.props ≤ 32 → keys a.slots.items ≡ [] → IsLinked a.slots.items a.heads.items → a.live ≡ kept_count (keys a.slots.items) → HasUniqueTable a
empty_table a few none linked live = record {
  few = few;
  canonical = record {
    nodes = λ i v lo hi e. absurd (empty_by a.props (keys a.slots.items) none i (Node v lo hi) e);
    unique = λ i j n e q. absurd (empty_by a.props (keys a.slots.items) none i n e);
  };
  linked = linked;
  live = live;
}

-- the first of a list as it is read
pub first_read : (xs : List ℕ) (x : ℕ) → 0 < length xs → x ≡ get_or xs 0 x → get_or xs 0 0 ≡ x
first_read xs x h e = get_or_from_slice_get xs 0 x 0 (slice_get_read xs (length xs) 0 x refl h e)
