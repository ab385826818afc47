-- One look and one split.
use Rattle.std.proofs.Common.{◌≡◌, ◌<◌, ◌≤◌, ◌+◌, ℕ, suc, false, List, [], ◌∷◌, refl, sym, ◌∙◌, ap, arith, length, map}
use Rattle.std.specs.Prelude.{slice_index}
use Rattle.std.specs.List.{range_with_len}
use Rattle.std.proofs.lemmas.List.FromFn.{length-map-range_with_len}
use Rattle.diagrams.specs.declared.top.Id.{Id}
use Rattle.diagrams.specs.Eval.{Diagrams, eval, id_at}
use Rattle.diagrams.specs.Live.{Keeps}
use Rattle.diagrams.proofs.Meaning.{eval-lasts, Keeps_trans}
use Rattle.automata.specs.Moves.{Moves, IsClosed}
use Rattle.automata.specs.Table.{Table, size_of, row_of, Fits, moves_of}
use Rattle.automata.proofs.Words.{over-nil, over-cons}
use Rattle.automata.proofs.RenumberLemmas.{fits_closed}
use Rattle.automata.proofs.Lasts.{fits_lasts}
use Rattle.class_laws.specs.Divided.{IsDivided}
use Rattle.linked_blocks.specs.Lists.{Lists, holds, list_of, block_in, HoldEach}
use Rattle.linked_blocks.proofs.ListLemmas.{once_short}
use Rattle.class_laws.specs.Classes.{AreClasses, AreFull, IsPaid}
use Rattle.class_laws.specs.Splits.{IsSplit}
use Rattle.class_laws.specs.Shifts.{AreNoted}
use Rattle.class_laws.specs.Current.{AreRowsBy, LeadTo, IsRefining}
use Rattle.class_laws.specs.Laws.{IsStable}
use Rattle.class_laws.proofs.Rounds.{stable_classes, split_divides, unchanged_stable}
use Rattle.class_laws.proofs.ShiftAll.{holds-place}
use Rattle.class_laws.proofs.Parting.{holds-map, once-map}

-- there are no more blocks than locations
pub blocks_few : (size : ℕ) (lists : List (List ℕ)) → HoldEach size lists → AreFull lists → length lists ≤ size
blocks_few size lists e full =
    let first : ℕ → ℕ = λ k. slice_index (list_of lists k) 0 in
    let back : (k : ℕ) → 0 ≤ k → k < 0 + length lists → block_in lists (first k) ≡ k =
    λ k l m. let i : k < length lists = omega (arith, m) in (e.within k (first k) i (holds-place (list_of lists k) 0 (full k i))).1 in
    let s = once_short size (map first (range_with_len 0 (length lists))) (once-map first (block_in lists) 0 (length lists) back) (λ y t.
    let r = holds-map first (block_in lists) 0 (length lists) y back t in
    let k = block_in lists y in
    let m : k < length lists = let a = r.1 in omega (arith, a) in
    rw (← r.2) (e.within k (first k) m (holds-place (list_of lists k) 0 (full k m))).0) in
    let l = length-map-range_with_len first 0 (length lists) in
    omega (arith, s, l)

-- rows made from a later store are made from the first
pub rows_back : (s m n : Diagrams) (t : Table) (block : ℕ → ℕ) (key : ℕ → Id) → Keeps s m → Fits s t → AreRowsBy m n t block key → AreRowsBy s n t block key
rows_back s m n t block key k f r at h = record {
  live = (r at h).live;
  value = λ a. (r at h).value a ∙ ap block (eval-lasts s m k.was k.now k.extends (row_of t at) (f at h).live a);
}

module _ (s m n : Diagrams) (t : Table) (blocks after : Lists) (old rows : List Id) (touched changed shifted : List ℕ) (first : t.first < size_of t) (f : Fits s t)
    (v : IsRefining s m t blocks old touched) (k : Keeps m n) (long : length rows ≡ size_of t)
    (r : AreRowsBy m n t (block_in blocks.lists) (id_at rows)) (q : IsSplit (size_of t) (block_in blocks.lists) (block_in after.lists) (id_at rows))
    (w : AreNoted (size_of t) blocks.lists after.lists [] shifted) where
  grown : Keeps s n
  grown = Keeps_trans s m n v.keeps k

  back : AreRowsBy s n t (block_in blocks.lists) (id_at rows)
  back = rows_back s m n t (block_in blocks.lists) (id_at rows) v.keeps f r

  -- where nothing was shifted the blocks are the classes
  pub settled : length shifted ≡ 0 → AreClasses s.props (moves_of s t) (block_in after.lists)
  settled e i j h l =
      let kept : (x : ℕ) → x < size_of t → block_in after.lists x ≡ block_in blocks.lists x = λ x g. w.rest x g (lacks-none shifted e x) in
      let c = stable_classes s.props (moves_of s t) (suc v.words) (block_in blocks.lists) (fits_closed s t first f) v.divided
      (unchanged_stable s n t (block_in blocks.lists) (block_in after.lists) (id_at rows) grown f first back q v.words v.divided kept) i j h l in
      (λ g. c.0 (sym (kept i h) ∙ g ∙ kept j l), λ g. kept i h ∙ c.1 g ∙ sym (kept j l))
    where
      lacks-none : (xs : List ℕ) → length xs ≡ 0 → (x : ℕ) → holds xs x ≡ false
      lacks-none [] z x = refl
      lacks-none (y ∷ xs) z x = absurd (omega (arith, z))

  -- and words divide them so
  pub settled_divided : length shifted ≡ 0 → IsDivided s.props (moves_of s t) (suc v.words) (block_in after.lists)
  settled_divided e =
      let kept : (x : ℕ) → x < size_of t → block_in after.lists x ≡ block_in blocks.lists x = λ x g. w.rest x g (none shifted e x) in
      record {
        same = λ i j h l o. v.divided.same i j h l (sym (kept i h) ∙ o ∙ kept j l);
        apart = λ i j h l n. v.divided.apart i j h l (λ o. n (kept i h ∙ o ∙ sym (kept j l)));
      }
    where
      none : (xs : List ℕ) → length xs ≡ 0 → (x : ℕ) → holds xs x ≡ false
      none [] z x = refl
      none (y ∷ xs) z x = absurd (omega (arith, z))

  -- and else refinement goes on from those that lead to what was shifted
  pub goes_on : (next : List ℕ) → HoldEach (size_of t) after.lists → AreFull after.lists → IsPaid (size_of t) after.lists after.moves → LeadTo n t shifted next
      → IsRefining s n t after rows next
  goes_on next each full paid to = record {
    keeps = grown;
    each = each;
    full = full;
    paid = paid;
    words = suc v.words;
    divided = split_divides s n t (block_in blocks.lists) (block_in after.lists) (id_at rows) grown f first back q v.words v.divided;
    current = record {
      long = long;
      one = λ i j h l e. (q.same i j h l e).1;
      right = λ at h g. record {
        live = (r at h).live;
        value = λ a.
            (r at h).value a ∙ ap (block_in blocks.lists) (sym (eval-lasts m n k.was k.now k.extends (row_of t at) (fits_lasts s m v.keeps t f at h).live a))
            ∙ sym (w.rest (eval n (row_of t at) a) ((fits_lasts s n grown t f at h).targets a) (to.rest at h g a));
      };
      within = to.within;
    };
  }

-- classes are stable
pub classes_stable : (p : ℕ) (m : Moves) (block : ℕ → ℕ) → IsClosed p m → AreClasses p m block → IsStable p m block
classes_stable p m block c k = record {
  mark = λ i j h l e. (k i j h l).0 e [] (over-nil p);
  next = λ i j a h l e x. (k (m.next i a) (m.next j a) (c.next i a h x) (c.next j a l x)).1 (λ w o. (k i j h l).0 e (a ∷ w) (over-cons p a w x o));
}
