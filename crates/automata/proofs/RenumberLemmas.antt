-- From a search to the renumbered automaton.
use mathlib.Core.Path.{fun_ext}
use Rattle.std.proofs.Common.{◌≡◌, ◌<◌, ◌+◌, ◌^◌, ◌++◌, ℕ, List, [], ◌∷◌, refl, sym, ◌∙◌, ap, subst, arith, inl, inr, length}
use Rattle.std.specs.Prelude.{slice_index, slice_index_or, All}
use Rattle.std.proofs.lemmas.Bool.{le-ltb, cases_lt}
use Rattle.std.proofs.lemmas.List.{get_or_append_left, get_or_at, get_or_default, length_push}
use Rattle.forms.specs.Word.{Word, IsOver}
use Rattle.diagrams.specs.declared.top.Id.{Id}
use Rattle.diagrams.specs.Tree.{Assignment}
use Rattle.diagrams.specs.Eval.{Diagrams, eval, letter_truth}
use Rattle.diagrams.specs.Live.{Keeps, Means}
use Rattle.diagrams.proofs.Meaning.{eval-lasts, live_lasts}
use Rattle.automata.specs.Moves.{Moves, location_after, mark_after, HaveSameMarksOver, HaveSameMarks, IsClosed}
use Rattle.automata.specs.Table.{Table, size_of, mark_of, row_of, Fits, next_of, moves_of}
use Rattle.automata.specs.Numbering.{IsNumbered}
use Rattle.automata.specs.Subautomaton.{IsSubautomaton}
use Rattle.automata.specs.Search.{HasFound, ArePlaces, AreMarks, AreRows}
use Rattle.automata.proofs.Letters.{spelt, spelt-less, spelt-truth}
use Rattle.automata.proofs.FindingLemmas.{place_cases}
use Rattle.automata.proofs.Words.{over-nil, over-cons, mark_after-part}
use Rattle.automata.proofs.SearchLemmas.{IsRenamed, search_part, search_numbers, found-within}

-- what fits a store leads from locations to locations
pub fits_closed : (s : Diagrams) (t : Table) → t.first < size_of t → Fits s t → IsClosed s.props (moves_of s t)
fits_closed s t h f = record { first = h; next = λ at a l k. (f at l).targets (letter_truth s.props a) }

-- a row reads the bits of a letter alone, so each assignment is as a letter
pub row-spelt : (s : Diagrams) (t : Table) → Fits s t → (at : ℕ) → at < size_of t → (a : Assignment) → eval s (row_of t at) a ≡ next_of s t at (spelt a s.props)
row-spelt s t f at h a = (f at h).letters a (letter_truth s.props (spelt a s.props)) (λ v l. sym (spelt-truth a s.props v l))

-- the letter with the same bits
abbrev pub letter_of : ℕ → ℕ → ℕ
letter_of p a = spelt (letter_truth p a) p

-- the word of the letters with the same bits
abbrev pub word_of : ℕ → Word → Word
word_of p [] = []
word_of p (a ∷ w) = letter_of p a ∷ word_of p w

-- the word of those letters is over the propositions, whatever the numbers
pub over-word_of : (p : ℕ) (w : Word) → IsOver p (word_of p w)
over-word_of p [] = over-nil p
over-word_of p (a ∷ w) = over-cons p (letter_of p a) (word_of p w) (spelt-less (letter_truth p a) p) (over-word_of p w)

-- the letter with the same bits has the same propositions
pub letter_of-truth : (p a : ℕ) → letter_truth p (letter_of p a) ≡ letter_truth p a
letter_of-truth p a = fun_ext (λ i. elim (cases_lt i p) [
  | inl h ↦ spelt-truth (letter_truth p a) p i h
  | inr h ↦ rw (le-ltb i p h) refl
])

-- the word of those letters leads where the list of numbers leads
pub location_after-word_of : (s : Diagrams) (t : Table) (at : ℕ) (w : Word) → location_after (moves_of s t) at (word_of s.props w) ≡ location_after (moves_of s t) at w
location_after-word_of s t at [] = refl
location_after-word_of s t at (a ∷ w) =
    location_after-word_of s t (next_of s t at (letter_of s.props a)) w
    ∙ ap (λ x. location_after (moves_of s t) (eval s (row_of t at) x) w) (letter_of-truth s.props a)

-- the marks after words over the propositions say those after every list of numbers
pub same_marks : (s n : Diagrams) (t u : Table) → n.props ≡ s.props → HaveSameMarksOver s.props (moves_of s t) (moves_of n u) → HaveSameMarks (moves_of s t) (moves_of n u)
same_marks s n t u e same w =
    ap (mark_of t) (sym (location_after-word_of s t t.first w))
    ∙ same (word_of s.props w) (over-word_of s.props w)
    ∙ ap (λ p. mark_after (moves_of n u) u.first (word_of p w)) (sym e)
    ∙ ap (mark_of u) (location_after-word_of n u u.first w)

-- the place of a found location's target
record HasPlace (p : ℕ) (found places : List ℕ) (at : ℕ) : Type 0 where
  within : slice_index places at < length found
  there : slice_index found (slice_index places at) ≡ at

target_place : (p : ℕ) (m : Moves) (found places : List ℕ) → ArePlaces found places → HasFound p m found (length found)
    → (k a : ℕ) → k < length found → a < 2 ^ p → HasPlace p found places (m.next (slice_index found k) a)
target_place p m found places ps h k a l o =
    let t = h.searching.searched.targets k a l o in
    let e : slice_index places (m.next (slice_index found k) a) ≡ t.place = ap (slice_index places) (sym t.target) ∙ ps.place t.place t.within in
    record { within = rw (e) t.within; there = rw (e) t.target }

module _ (s n : Diagrams) (t u : Table) (found places : List ℕ) (closed : t.first < size_of t) (f : Fits s t) (k : Keeps s n)
    (ps : ArePlaces found places) (h : HasFound s.props (moves_of s t) found (length found))
    (q : AreMarks t found u.marks (length found)) (r : AreRows s n t found places u.rows (length found)) (zero_first : u.first ≡ 0) where
  here : (i : ℕ) → i < length found → slice_index found i < size_of t
  here i l = found-within s.props (moves_of s t) (slice_index found) h.word (length found) (length found) (fits_closed s t closed f) h.searching.searched i l

  -- the renumbered automaton fits its store
  pub renumbered_fits : Fits n u
  renumbered_fits i l =
      let i2 : i < length found = omega (arith, l, r.length) in
      let row = r.row i i2 in
      record {
        live = row.live;
        letters = λ a b same. row.value a
            ∙ ap (slice_index places) ((f (slice_index found i) (here i i2)).letters a b (λ v q. same v (rw k.extends.props q)))
            ∙ sym (row.value b);
        targets = λ a.
            let x = target_place s.props (moves_of s t) found places ps h i (spelt a s.props) i2 (spelt-less a s.props) in
            let e = row-spelt s t f (slice_index found i) (here i i2) a in
            let y : slice_index places (eval s (row_of t (slice_index found i)) a) < length found = rw (e) x.within in
            rw (row.value a, r.length) y;
      }

  renamed : IsRenamed s.props (moves_of s t) (moves_of n u) (slice_index found)
  renamed = record {
    closed = record {
      first = rw (zero_first, r.length) h.searching.searched.some;
      next = λ at a l o. (renumbered_fits at l).targets (letter_truth n.props a);
    };
    first = zero_first;
    mark = λ i l. q.mark i (rw r.length at l);
    next = λ i a l o.
        let i2 : i < length found = omega (arith, l, r.length) in
        let x = target_place s.props (moves_of s t) found places ps h i a i2 o in
        ap (slice_index found) ((r.row i i2).value (letter_truth n.props a) ∙ ap (λ p. slice_index places (eval s (row_of t (slice_index found i)) (letter_truth p a))) k.extends.props) ∙ x.there;
  }

  size-is : size_of u ≡ length found
  size-is = r.length

  -- the renumbered automaton is made of some of the other's locations
  pub renumbered_part : IsSubautomaton s.props (moves_of s t) (moves_of n u)
  renumbered_part =
      search_part s.props (moves_of s t) (moves_of n u) (slice_index found) h.word (fits_closed s t closed f)
      (rw (size-is) h.searching.searched) renamed

  -- the renumbered automaton is numbered by its least words
  pub renumbered_numbers : IsNumbered s.props (moves_of n u)
  renumbered_numbers =
      search_numbers s.props (moves_of s t) (moves_of n u) (slice_index found) h.word (fits_closed s t closed f)
      (rw (size-is) h.searching.searched) renamed

  -- the renumbered automaton has the other's marks after every list of numbers
  pub renumbered_marks : HaveSameMarks (moves_of n u) (moves_of s t)
  renumbered_marks w =
      sym (same_marks s n t u k.extends.props
      (λ v o. sym (mark_after-part s.props (moves_of s t) (moves_of n u) renumbered_part u.first v renumbered_part.closed.first o ∙ ap (λ z. mark_after (moves_of s t) z v) renumbered_part.first)) w)

-- the first location has its place
pub found_some : (p : ℕ) (m : Moves) (found : List ℕ) (k : ℕ) → HasFound p m found k → 0 < length found
found_some p m found k h = h.searching.searched.some

-- one more row
pub rows_more : (s n after : Diagrams) (t : Table) (found places : List ℕ) (rows : List Id) (k : ℕ) (id : Id) → Keeps s n → Keeps n after → Fits s t
    → slice_index found k < size_of t → AreRows s n t found places rows k
    → Means after id (λ a. slice_index places (eval n (row_of t (slice_index found k)) a)) → AreRows s after t found places (rows ++ id ∷ []) (k + 1)
rows_more s n after t found places rows k id keeps grows f within r m = record {
  length = length_push rows id ∙ ap (λ z. z + 1) r.length;
  row = λ i l. elim (place_cases i k l) [
    | inl x ↦
        let old = r.row i x in
        rw (get_or_append_left rows (id ∷ []) (record { 0 = 0 }) i (rw (r.length) x)) (record {
          live = live_lasts n after grows.extends _ old.live;
          value = λ a. eval-lasts n after grows.was grows.now grows.extends _ old.live a ∙ old.value a;
        })
    | inr e ↦
        let at : slice_index_or (rows ++ id ∷ []) i (record { 0 = 0 }) ≡ id = rw (e, ← r.length) (get_or_at rows id [] (record { 0 = 0 }) (length rows) refl) in
        rw (at, e) (record {
          live = m.live;
          value = λ a. m.value a ∙ ap (slice_index places) (eval-lasts s n keeps.was keeps.now keeps.extends (row_of t (slice_index found k)) (f (slice_index found k) within).live a);
        })
  ];
}

-- one more mark
pub marks_more : (t : Table) (found marks : List ℕ) (k x : ℕ) → AreMarks t found marks k → x ≡ mark_of t (slice_index found k)
    → AreMarks t found (marks ++ x ∷ []) (k + 1)
marks_more t found marks k x m e = record {
  length = length_push marks x ∙ ap (λ z. z + 1) m.length;
  mark = λ i l. elim (place_cases i k l) [
    | inl h ↦ get_or_append_left marks (x ∷ []) 0 i (rw (m.length) h) ∙ m.mark i h
    | inr h ↦ rw (h) (ap (slice_index (marks ++ x ∷ [])) (sym m.length) ∙ get_or_at marks x [] 0 (length marks) refl ∙ e)
  ];
}

-- found locations are locations
pub found_locations : (found places : List ℕ) (size : ℕ) → ArePlaces found places → length places ≡ size → All (λ at. at < size) found
found_locations found places size a e k d h =
    subst (λ z. z < size) (get_or_default found k 0 d h) (subst (λ z. slice_index found k < z) e (a.within k h))
