-- Many shifts into one new block.
use Rattle.std.proofs.Common.{add-zero, ◌≡◌, ◌≢◌, ◌<◌, ◌+◌, ◌++◌, ℕ, zero, suc, true, false, List, [], ◌∷◌, refl, sym, ◌∙◌, ap, arith, inl, inr, length, length-append, take}
use Rattle.std.specs.Prelude.{slice_index}
use Rattle.std.proofs.lemmas.Bool.{cases_Bool, cases_lt, false≢true}
use Rattle.std.proofs.lemmas.List.{get_or_append_left, get_or_at}
use Rattle.linked_blocks.specs.Lists.{Lists, holds, list_of, block_in, shifted, IsOnce, HoldEach}
use Rattle.linked_blocks.proofs.LinkLemmas.{holds-head, holds-tail, holds-cases, lacks-cons, lacks-append, holds-append, held-apart}
use Rattle.linked_blocks.proofs.ShiftLemmas.{each_from, length-shifted, each-shifted, block-here, block-other, count-into, count-from, count-other}
use Rattle.class_laws.specs.Shifts.{AreShifted}

-- an empty block more
module _ (size : ℕ) (lists : List (List ℕ)) (e : HoldEach size lists) where
  pub length-added : length (lists ++ [] ∷ []) ≡ length lists + 1
  length-added = length-append lists ([] ∷ [])

  pub list-added : (b : ℕ) → b < length lists → list_of (lists ++ [] ∷ []) b ≡ list_of lists b
  list-added b h = get_or_append_left lists ([] ∷ []) [] b h

  pub list-new : list_of (lists ++ [] ∷ []) (length lists) ≡ []
  list-new = get_or_at lists [] [] [] (length lists) refl

  both : HoldEach size (lists ++ [] ∷ []) × ((x : ℕ) → x < size → block_in (lists ++ [] ∷ []) x ≡ block_in lists x)
  both = each_from size (lists ++ [] ∷ []) (block_in lists)
      (λ b x h t. elim (cases_lt b (length lists)) [
        | inl l ↦ e.within b x l (rw (list-added b l) at t)
        | inr l ↦
            let q : b ≡ length lists = let m = length-added in omega (arith, h, l, m) in
            absurd (false≢true (sym (ap (λ z. holds z x) (ap (list_of (lists ++ [] ∷ [])) q ∙ list-new)) ∙ t))
      ])
      (λ x h. let t = e.there x h in let a = t.0 in let m = length-added in (omega (arith, a, m), rw (list-added (block_in lists x) t.0) t.1))
      (λ b h. elim (cases_lt b (length lists)) [
        | inl l ↦ rw (list-added b l) (e.once b l)
        | inr l ↦
            let q : b ≡ length lists = let m = length-added in omega (arith, h, l, m) in
            rw (q, list-new) tt
      ])

  pub each-added : HoldEach size (lists ++ [] ∷ [])
  each-added = both.0

  pub block-added : (x : ℕ) → x < size → block_in (lists ++ [] ∷ []) x ≡ block_in lists x
  block-added = both.1

-- before the first shift
pub shifted_none : (size from : ℕ) (old new : Lists) → HoldEach size old.lists → from < length old.lists → new.lists ≡ old.lists ++ [] ∷ [] → new.moves ≡ old.moves
    → AreShifted size from old new []
shifted_none size from old new e h a m = record {
  each = rw (a) (each-added size old.lists e);
  number = ap length a ∙ length-added size old.lists e;
  moved = λ x i t. absurd (false≢true t);
  stays = λ x i t. rw (a) (block-added size old.lists e x i);
  into = rw (a) (ap length (list-new size old.lists e));
  from_less = rw (a) (add-zero _ ∙ ap length (list-added size old.lists e from h));
  others = λ b l d. rw (a) (ap length (list-added size old.lists e b l));
  moves = m ∙ sym (add-zero old.moves);
}

-- one more shift
pub shifted_more : (size from at : ℕ) (old cur new : Lists) (done : List ℕ) → AreShifted size from old cur done → HoldEach size old.lists → at < size → block_in old.lists at ≡ from
    → from < length old.lists → holds done at ≡ false → new.lists ≡ shifted cur.lists at (length old.lists) → new.moves ≡ cur.moves + 1
    → AreShifted size from old new (done ++ at ∷ [])
shifted_more size from at old cur new done s e h is l lacks a m =
    let into = length old.lists in
    let number = s.number in
    let inside : into < length cur.lists = omega (arith, number) in
    let here : block_in cur.lists at ≡ from = s.stays at h lacks ∙ is in
    let other : block_in cur.lists at ≢ into = λ z. absurd (omega (arith, here, z, l)) in
    let more = length-append done (at ∷ []) in
    record {
      each = rw (a) (each-shifted size cur.lists at into s.each h inside other);
      number = ap length a ∙ length-shifted size cur.lists at into s.each h inside other ∙ s.number;
      moved = λ x i t. elim (holds-append done (at ∷ []) x t) [
        | inl y ↦ rw (a) (block-other size cur.lists at into s.each h inside other x i (held-apart done x at y lacks) ∙ s.moved x i y)
        | inr y ↦ elim (holds-cases at x [] y) [
          | inl z ↦ rw (a, ← z) (block-here size cur.lists at into s.each h inside other)
          | inr z ↦ absurd (false≢true z)
        ]
      ];
      stays = λ x i t.
          let p = lacks-append done (at ∷ []) x t in
          rw (a) (block-other size cur.lists at into s.each h inside other x i (λ z. (lacks-cons at x [] p.1).0 (sym z)) ∙ s.stays x i p.0);
      into =
          let c = count-into size cur.lists at into s.each h inside other in
          let b = s.into in
          rw (a) (omega (arith, c, b, more));
      from_less =
          let c = count-from size cur.lists at into s.each h inside other in
          let d = rw (here) at c in
          let b = s.from_less in
          rw (a) (omega (arith, d, b, more));
      others = λ b i d. rw (a) (count-other size cur.lists at into s.each h inside other b (omega (arith, i, number)) (λ z. absurd (omega (arith, z, i))) (λ z. d (z ∙ here)) ∙ s.others b i d);
      moves = let b = s.moves in omega (arith, m, b, more);
    }

-- what stands at a place of a list of different locations doesn't stand before it
pub once-take : (xs : List ℕ) (i : ℕ) → IsOnce xs → i < length xs → holds (take i xs) (slice_index xs i) ≡ false
once-take [] i o h = absurd (omega (arith, h))
once-take (x ∷ xs) zero o h = refl
once-take (x ∷ xs) (suc i) o h =
    let r = once-take xs i o.1 (omega (arith, h)) in
    elim (cases_Bool (holds (x ∷ take i xs) (slice_index xs i))) [
      | inr f ↦ f
      | inl t ↦ elim (holds-cases x (slice_index xs i) (take i xs) t) [
        | inl e ↦ absurd (false≢true (sym o.0 ∙ ap (holds xs) e ∙ holds-at xs i (omega (arith, h))))
        | inr y ↦ absurd (false≢true (sym r ∙ y))
      ]
    ]
  where
    holds-at : (ys : List ℕ) (k : ℕ) → k < length ys → holds ys (slice_index ys k) ≡ true
    holds-at [] k l = absurd (omega (arith, l))
    holds-at (y ∷ ys) zero l = holds-head y ys
    holds-at (y ∷ ys) (suc k) l = holds-tail y (slice_index ys k) ys (holds-at ys k (omega (arith, l)))

pub holds-place : (ys : List ℕ) (k : ℕ) → k < length ys → holds ys (slice_index ys k) ≡ true
holds-place [] k l = absurd (omega (arith, l))
holds-place (y ∷ ys) zero l = holds-head y ys
holds-place (y ∷ ys) (suc k) l = holds-tail y (slice_index ys k) ys (holds-place ys k (omega (arith, l)))
