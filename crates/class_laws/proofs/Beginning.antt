-- What holds before the first look at the locations.
use Rattle.std.proofs.Common.{◌≡◌, ◌<◌, ℕ, zero, suc, true, List, [], ◌∷◌, refl, sym, ◌∙◌, ap, arith, inl, inr, length}
use Rattle.std.specs.List.{range_with_len}
use Rattle.std.proofs.lemmas.Bool.{false≢true}
use Rattle.diagrams.specs.declared.top.Id.{Id}
use Rattle.diagrams.specs.Eval.{Diagrams, eval, id_at, DependsOn, letter_truth}
use Rattle.diagrams.specs.Live.{Keeps, Means}
use Rattle.automata.specs.Table.{Table, size_of, mark_of, moves_of}
use Rattle.automata.proofs.Letters.{same_or_differ}
use Rattle.automata.proofs.Words.{over-nil}
use Rattle.linked_blocks.specs.Lists.{holds, list_of, block_in, IsOnce, HoldEach}
use Rattle.linked_blocks.proofs.ListLemmas.{holds-range, range-holds, once-range, once_short}
use Rattle.linked_blocks.proofs.ShiftLemmas.{each_from}
use Rattle.class_laws.specs.Classes.{AreFull, IsPaid}
use Rattle.class_laws.specs.Divided.{AgreeWithin, IsDivided}
use Rattle.class_laws.specs.Splits.{IsSplit}
use Rattle.class_laws.specs.Current.{AreChanges, AreCurrent}
use Rattle.class_laws.proofs.Paid.{paid_none, holds-some}

-- all locations in one block
pub each_first : (size : ℕ) → 0 < size → HoldEach size (range_with_len 0 size ∷ [])
each_first size h = (each_from size (range_with_len 0 size ∷ []) (λ _. 0) mine (λ x l. (omega arith, holds-range 0 size x (omega arith) (omega (arith, l)))) once).0
  where
    mine : (b x : ℕ) → b < 1 → holds (list_of (range_with_len 0 size ∷ []) b) x ≡ true → (x < size) × (0 ≡ b)
    mine zero x l t = let r = (range-holds 0 size x t).1 in (omega (arith, r), refl)
    mine (suc b) x l t = absurd (omega (arith, l))

    once : (b : ℕ) → b < 1 → IsOnce (list_of (range_with_len 0 size ∷ []) b)
    once zero l = once-range 0 size
    once (suc b) l = absurd (omega (arith, l))

pub full_first : (size : ℕ) → 0 < size → AreFull (range_with_len 0 size ∷ [])
full_first size h zero l = holds-some (range_with_len 0 size) 0 (holds-range 0 size 0 (omega arith) (omega (arith, h)))
full_first size h (suc b) l = absurd (omega (arith, l))

pub paid_first : (size : ℕ) → 0 < size → IsPaid size (range_with_len 0 size ∷ []) 0
paid_first size h =
    let lists = range_with_len 0 size ∷ [] in
    let e = each_first size h in
    paid_none size lists (λ x l.
    let t = e.there x l in
    once_short size (list_of lists (block_in lists x)) (e.once (block_in lists x) t.0) (λ y i. (e.within (block_in lists x) y t.0 i).0))

-- all locations may have changed
pub all_changes : (size : ℕ) (block : ℕ → ℕ) (key : ℕ → Id) → AreChanges size block key (range_with_len 0 size)
all_changes size block key = record {
  once = once-range 0 size;
  within = λ x t. (let r = (range-holds 0 size x t).1 in omega (arith, r));
  apart = λ i j t l f. absurd (false≢true (sym f ∙ holds-range 0 size j (omega arith) (omega (arith, l))));
  rest = λ i j h l t. absurd (false≢true (sym t ∙ holds-range 0 size i (omega arith) (omega (arith, h))));
}

-- one row for all locations, each of which is to be looked at
pub current_first : (n : Diagrams) (t : Table) (lists : List (List ℕ)) (rows : List Id) (c : Id) → length rows ≡ size_of t
    → ((at : ℕ) → at < size_of t → id_at rows at ≡ c) → AreCurrent n t lists rows (range_with_len 0 (size_of t))
current_first n t lists rows c long same = record {
  long = long;
  one = λ i j h l e. same i h ∙ sym (same j l);
  right = λ at h f. absurd (false≢true (sym f ∙ holds-range 0 (size_of t) at (omega arith) (omega (arith, h))));
  within = λ at h. (let r = (range-holds 0 (size_of t) at h).1 in omega (arith, r));
}

module _ (s n : Diagrams) (t : Table) (old new : ℕ → ℕ) (key : ℕ → Id) (k : Keeps s n)
    (r : (at : ℕ) → at < size_of t → Means n (key at) (λ a. mark_of t at)) (whole : (i j : ℕ) → i < size_of t → j < size_of t → old i ≡ old j)
    (q : IsSplit (size_of t) old new key) where
  agree : (i j : ℕ) → i < size_of t → j < size_of t → new i ≡ new j → AgreeWithin s.props (moves_of s t) 1 i j
  agree i j h l e [] o m =
      let z = letter_truth s.props 0 in
      sym ((r i h).value z) ∙ ap (λ f. eval n f z) (q.same i j h l e).1 ∙ (r j l).value z
  agree i j h l e (a ∷ w) o m = absurd (omega (arith, m))

  depends : (at : ℕ) → at < size_of t → DependsOn n (key at) (λ v. v < n.props)
  depends at h a b same = (r at h).value a ∙ sym ((r at h).value b)

  -- a split by marks divides by the empty word
  pub marks_divide : IsDivided s.props (moves_of s t) 1 new
  marks_divide = record {
    same = agree;
    apart = λ i j h l e. elim (same_or_differ n k.now (key i) (key j) (r i h).live (r j l).live (depends i h) (depends j l)) [
      | inl z ↦ absurd (e (q.one i j h l (whole i j h l) z))
      | inr z ↦ record {
        word = [];
        over = over-nil s.props;
        short = omega arith;
        differ = λ y. z.2.differ ((r i h).value (letter_truth n.props z.0) ∙ y ∙ sym ((r j l).value (letter_truth n.props z.0)));
      }
    ];
  }
