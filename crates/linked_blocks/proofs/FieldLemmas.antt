-- The fields of blocks.
use Rattle.std.proofs.Common.{add-one, replicate, nat_lt, ◌-◌, ◌≡◌, ◌≢◌, ◌<◌, ◌≤◌, ◌+◌, ◌*◌, ◌++◌, ◌^◌, ◌==◌, ℕ, suc, List, [], ◌∷◌, Option, Some, None, refl, sym, ◌∙◌, ap, subst, arith, length, map, if◌then◌else◌}
use Rattle.std.specs.Prelude.{slice_get, slice_index, slice_index_or, slice_set}
use Rattle.std.proofs.lemmas.Bool.{eq-eqb, ne_eqb, lt-ltb, le-ltb}
use Rattle.std.proofs.lemmas.List.{length-replicate, get_or-replicate, length-set, get_or_read, get_or-set_same, get_or-set_other, same_lists}
use Rattle.std.specs.List.{range_with_len}
use Rattle.std.proofs.lemmas.List.FromFn.{length-map-range_with_len, get_or-map-range_with_len, map-range_with_len_more}
use Rattle.linked_blocks.specs.Lists.{Lists, list_of, block_in, IsThere, shifted, HoldEach}
use Rattle.linked_blocks.specs.Links.{chain, GoBy, list_at, lists_of, AreLinkedUp, forth_without, back_without, forth_with, back_with, counts_after}
use Rattle.linked_blocks.specs.declared.lists.Blocks.TheInside.{Inside}
use Rattle.linked_blocks.proofs.ListLemmas.{block_is, there_small, hold_each, list_of-map, list_after, CanShift, goes_on, goes_same, view_shifted, first_is, next_is, goes_more, goes_first, list_in, list_in-is, goes_own}

module _ (a : Inside) (v : Lists) (is : lists_of a ≡ v) (i : AreLinkedUp a) where
  pub lists-is : map (list_at a) (range_with_len 0 a.used) ≡ v.lists
  lists-is = ap (λ z. z.lists) is

  pub moves-is : a.moves ≡ v.moves
  moves-is = ap (λ z. z.moves) is

  pub number-is : length v.lists ≡ a.used
  number-is = ap length (sym lists-is) ∙ length-map-range_with_len (list_at a) 0 a.used

  pub list-is : (b : ℕ) → b < a.used → list_of v.lists b ≡ list_at a b
  list-is b h = ap (λ z. list_of z b) (sym lists-is) ∙ list_of-map a.used (list_at a) b h

  pub small-is : (x : ℕ) → IsThere v.lists x → x < length a.block.items
  small-is = there_small (length a.block.items) a.used (slice_index a.block.items) (slice_index a.next.items) (slice_index a.prev.items) (slice_index a.count.items) (list_at a) i.goes v.lists number-is list-is

  pub block-is : (x : ℕ) → IsThere v.lists x → block_in v.lists x ≡ slice_index a.block.items x
  block-is x h =
      block_is (length a.block.items) a.used (slice_index a.block.items) (slice_index a.next.items) (slice_index a.prev.items) (slice_index a.count.items) (list_at a) i.goes v.lists number-is list-is x
      (small-is x h)

  pub each-is : HoldEach (length a.block.items) v.lists
  each-is = hold_each (length a.block.items) a.used (slice_index a.block.items) (slice_index a.next.items) (slice_index a.prev.items) (slice_index a.count.items) (list_at a) i.goes v.lists number-is list-is

  pub can_shift : (at into : ℕ) → IsThere v.lists at → into < length v.lists → block_in v.lists at ≢ into
      → CanShift (length a.block.items) a.used a.block.items a.next.items a.prev.items a.count.items (list_at a) at into
  can_shift at into h l n = record {
    goes = i.goes;
    blocks = refl;
    nexts = i.next;
    prevs = i.prev;
    counts = i.counts;
    few = i.few;
    here = small-is at h;
    there = rw (← number-is) l;
    other = λ e. n (block-is at h ∙ e);
  }

-- the fields after a shift
pub record IsShift (block next prev count block2 next2 prev2 count2 : List ℕ) (at into : ℕ) : Type 0 where
  pub blocks : block2 ≡ slice_set block at into
  pub nexts : next2 ≡ forth_with (forth_without next prev at) (back_without next prev at) at (length block + into)
  pub prevs : prev2 ≡ back_with (forth_without next prev at) (back_without next prev at) at (length block + into)
  pub counts : count2 ≡ counts_after count (slice_index block at) into

module _ (size used : ℕ) (block next prev count block2 next2 prev2 count2 : List ℕ) (list : ℕ → List ℕ) (at into : ℕ)
    (e : length block ≡ size) (s : CanShift size used block next prev count list at into) (d : IsShift block next prev count block2 next2 prev2 count2 at into) where
  pub long-shifted : length block2 ≡ size
  long-shifted = ap length d.blocks ∙ length-set block at into ∙ e

  goes-lists : GoBy size used (slice_index block2) (slice_index next2) (slice_index prev2) (slice_index count2) (list_after list at into)
  goes-lists = rw (d.blocks, d.nexts, d.prevs, d.counts, e) (goes_on size used block next prev count list at into s)

  pub goes-shifted : GoBy (length block2) used (slice_index block2) (slice_index next2) (slice_index prev2) (slice_index count2) (list_in block2 next2 count2)
  goes-shifted = goes_own size used block2 next2 prev2 count2 (list_after list at into) long-shifted goes-lists

  pub lists-shifted : map (list_in block2 next2 count2) (range_with_len 0 used) ≡ shifted (map list (range_with_len 0 used)) at into
  lists-shifted = view_shifted used list (list_in block2 next2 count2) at into s.there (list_in-is size used block2 next2 prev2 count2 (list_after list at into) long-shifted goes-lists)

pub long-forth_with : (next prev : List ℕ) (at end : ℕ) → length (forth_with (forth_without next prev at) (back_without next prev at) at end) ≡ length next
long-forth_with next prev at end = length-set _ at end ∙ length-set _ _ at ∙ length-set next _ _

pub long-back_with : (next prev : List ℕ) (at end : ℕ) → length (back_with (forth_without next prev at) (back_without next prev at) at end) ≡ length prev
long-back_with next prev at end = length-set _ end at ∙ length-set _ at _ ∙ length-set prev _ _

pub long-counts : (count : List ℕ) (from into : ℕ) → length (counts_after count from into) ≡ length count
long-counts count from into = length-set _ into _ ∙ length-set count from _

-- what reading the fields gives
module _ (a : Inside) (v : Lists) (is : lists_of a ≡ v) (i : AreLinkedUp a) where
  pub block-read : (at x : ℕ) → IsThere v.lists at → x ≡ slice_index_or a.block.items at x → x ≡ block_in v.lists at
  block-read at x h e = get_or_read a.block.items at x (small-is a v is i at h) e 0 ∙ sym (block-is a v is i at h)

  pub block-small : (b : ℕ) → b < length v.lists → b < length a.count.items
  block-small b h =
      let l : b < a.used = rw (← number-is a v is i) h in
      let f = i.few in
      rw (i.counts) (omega (arith, l, f))

  pub count-read : (b x : ℕ) → b < length v.lists → x ≡ slice_index_or a.count.items b x → x ≡ length (list_of v.lists b)
  count-read b x h e =
      let l : b < a.used = rw (← number-is a v is i) h in
      get_or_read a.count.items b x (block-small b h) e 0 ∙ i.goes.long b l ∙ ap length (sym (list-is a v is i b l))

  pub end-small : (b n : ℕ) → b < length v.lists → n ≡ length a.block.items → n + b < length a.next.items
  end-small b n h e =
      let l : b < a.used = rw (← number-is a v is i) h in
      let f = i.few in
      rw (i.next) (omega (arith, l, f, e))

  pub place-small : (at : ℕ) → IsThere v.lists at → at < length a.next.items
  place-small at h = let l = small-is a v is i at h in rw (i.next) (omega (arith, l))

  pub first-read : (b n x : ℕ) → b < length v.lists → n ≡ length a.block.items → x ≡ slice_index_or a.next.items (n + b) x
      → (x < n → Some x ≡ slice_get (list_of v.lists b) 0) × (n ≤ x → None ≡ slice_get (list_of v.lists b) 0)
  first-read b n x h e r =
      let l : b < a.used = rw (← number-is a v is i) h in
      let size = length a.block.items in
      let q : x ≡ slice_index a.next.items (size + b) = get_or_read a.next.items (n + b) x (end-small b n h e) r 0 ∙ ap (λ z. slice_index a.next.items (z + b)) e in
      let f = first_is (slice_index a.next.items) (slice_index a.prev.items) size (size + b) (list_at a b) (size + b) (i.goes.ring b l) (λ y t. (i.goes.mine b y l t).0) (omega arith) in
      rw (list-is a v is i b l) (
        λ m. ap Some q ∙ sym (f.0 (rw (← q) (rw e at m))),
        λ m. sym (f.1 (rw (← q) (rw e at m))),
      )

  pub next-read : (at n x : ℕ) → IsThere v.lists at → n ≡ length a.block.items → x ≡ slice_index_or a.next.items at x → (k : ℕ)
      → slice_get (list_of v.lists (block_in v.lists at)) k ≡ Some at
      → (x < n → Some x ≡ slice_get (list_of v.lists (block_in v.lists at)) (k + 1)) × (n ≤ x → None ≡ slice_get (list_of v.lists (block_in v.lists at)) (k + 1))
  next-read at n x h e r k p =
      let b = block_in v.lists at in
      let l : b < a.used = rw (← number-is a v is i) h in
      let size = length a.block.items in
      let q : x ≡ slice_index a.next.items at = get_or_read a.next.items at x (place-small at h) r 0 in
      let f = next_is (slice_index a.next.items) (slice_index a.prev.items) size (size + b) (list_at a b) (size + b) (i.goes.ring b l) (λ y t. (i.goes.mine b y l t).0) (omega arith)
      k at (rw (list-is a v is i b l) at p) in
      rw (list-is a v is i b l, add-one k) (
        λ m. ap Some q ∙ sym (f.0 (rw (← q) (rw e at m))),
        λ m. sym (f.1 (rw (← q) (rw e at m))),
      )

  pub used_small : IsThere v.lists (length v.lists) → a.used < length a.block.items
  used_small h = rw (← number-is a v is i) (small-is a v is i (length v.lists) h)

-- the fields after an empty block is added
module _ (size used n : ℕ) (block next prev count next2 prev2 count2 : List ℕ) (list : ℕ → List ℕ)
    (g : GoBy size used (slice_index block) (slice_index next) (slice_index prev) (slice_index count) list)
    (eb : length block ≡ size) (en : length next ≡ 2 * size) (ep : length prev ≡ 2 * size) (ec : length count ≡ size) (h : used < size) (is : n ≡ size + used)
    (nn : next2 ≡ slice_set next n n) (np : prev2 ≡ slice_set prev n n) (nc : count2 ≡ slice_set count used 0) where
  goes-added : GoBy size (suc used) (slice_index block) (slice_index next2) (slice_index prev2) (slice_index count2) (λ b. if b == used then [] else list b)
  goes-added =
      rw (nn, np, nc, is)
      (goes_more size used (slice_index block) (slice_index next) (slice_index prev) (slice_index count) _ _ _ list g
      (get_or-set_same next (size + used) (size + used) 0 (rw (en) (omega (arith, h))))
      (get_or-set_same prev (size + used) (size + used) 0 (rw (ep) (omega (arith, h))))
      (get_or-set_same count used 0 0 (rw (ec) h))
      (λ k d. get_or-set_other next (size + used) k (size + used) 0 d)
      (λ k d. get_or-set_other prev (size + used) k (size + used) 0 d)
      (λ k d. get_or-set_other count used k 0 0 d))

  pub added : GoBy (length block) (used + 1) (slice_index block) (slice_index next2) (slice_index prev2) (slice_index count2) (list_in block next2 count2)
  added = rw (add-one used) (goes_own size (suc used) block next2 prev2 count2 (λ b. if b == used then [] else list b) eb goes-added)

  pub lists-added : map (list_in block next2 count2) (range_with_len 0 (used + 1)) ≡ map list (range_with_len 0 used) ++ [] ∷ []
  lists-added =
      let f : (b : ℕ) → b < suc used → list_in block next2 count2 b ≡ (if b == used then [] else list b) =
      list_in-is size (suc used) block next2 prev2 count2 (λ b. if b == used then [] else list b) eb goes-added in
      map-range_with_len_more (list_in block next2 count2) 0 used used (omega arith)
      ∙ ap (λ z. map (list_in block next2 count2) (range_with_len 0 used) ++ z ∷ []) (f used (omega arith) ∙ rw (eq-eqb used used refl) refl)
      ∙ ap (λ z. z ++ [] ∷ []) (same_lists _ (map list (range_with_len 0 used)) (length-map-range_with_len (list_in block next2 count2) 0 used ∙ sym (length-map-range_with_len list 0 used))
      (λ k d l.
      let m : k < used = rw (length-map-range_with_len (list_in block next2 count2) 0 used) at l in
      get_or-map-range_with_len (list_in block next2 count2) 0 used k k d m (omega arith) ∙ f k (omega (arith, m))
      ∙ rw (ne_eqb k used (λ e. absurd (omega (arith, m, e)))) refl ∙ sym (get_or-map-range_with_len list 0 used k k d m (omega arith))))

-- the fields of one block with all locations
module _ (size : ℕ) (block next prev count : List ℕ) (h : 0 < size) (eb : block ≡ replicate size 0) (ec : count ≡ slice_set (replicate size 0) 0 size)
    (fn : (k : ℕ) → k < 2 * size → slice_index next k ≡ (if nat_lt k size then k + 1 else if k == size then 0 else k))
    (fp : (k : ℕ) → k < 2 * size → slice_index prev k ≡ (if nat_lt size k then k else if k == 0 then size else k - 1)) where
  pub long-made : length block ≡ size
  long-made = ap length eb ∙ length-replicate size 0

  goes-made : GoBy size 1 (slice_index block) (slice_index next) (slice_index prev) (slice_index count) (λ b. range_with_len 0 size)
  goes-made = goes_first size (slice_index block) (slice_index next) (slice_index prev) (slice_index count) h
      (λ x l. ap (λ z. slice_index z x) eb ∙ get_or-replicate size x 0 0 l)
      (λ k l. fn k (omega (arith, l)) ∙ rw (lt-ltb k size l) refl)
      (fn size (omega (arith, h)) ∙ rw (le-ltb size size (omega arith), eq-eqb size size refl) refl)
      (fp 0 (omega (arith, h)) ∙ rw (le-ltb size 0 (omega arith)) refl)
      (λ k l m. fp k (omega (arith, l, m, h)) ∙ rw (le-ltb size k m, ne_eqb k 0 (λ e. absurd (omega (arith, e, l)))) refl)
      (ap (λ z. slice_index z 0) ec ∙ get_or-set_same (replicate size 0) 0 size 0 (rw (length-replicate {A = ℕ} size 0) h))

  pub made : GoBy (length block) 1 (slice_index block) (slice_index next) (slice_index prev) (slice_index count) (list_in block next count)
  made = goes_own size 1 block next prev count (λ b. range_with_len 0 size) long-made goes-made

  pub list-made : list_in block next count 0 ≡ range_with_len 0 size
  list-made = list_in-is size 1 block next prev count (λ b. range_with_len 0 size) long-made goes-made 0 (omega arith)
