-- Merging the locations of each block, over a growing store.
use Rattle.std.proofs.Common.{◌≡◌, ◌<◌, ◌+◌, ◌++◌, ℕ, List, [], ◌∷◌, sym, ◌∙◌, ap, subst, arith, inl, inr, length, length-append, Result, Ok, Err}
use Rattle.std.specs.Prelude.{slice_index, IfOk}
use Rattle.std.proofs.lemmas.List.{get_or_append_left, get_or_at}
use Rattle.forms.specs.Word.{IsOver}
use Rattle.diagrams.specs.declared.top.Id.{Id}
use Rattle.diagrams.specs.Eval.{Diagrams, eval, id_at, letter_truth}
use Rattle.diagrams.specs.Live.{Keeps, Means}
use Rattle.diagrams.specs.Transformed.{Transforms, IsTableItem}
use Rattle.diagrams.proofs.Meaning.{means_lasts}
use Rattle.automata.specs.Moves.{Moves, HaveSameMarks}
use Rattle.automata.specs.Numbering.{IsNumbered}
use Rattle.automata.specs.Subautomaton.{IsSubautomaton}
use Rattle.automata.specs.Table.{Table, size_of, mark_of, row_of, IsRow, Fits, moves_of}
use Rattle.automata.proofs.FindingLemmas.{place_cases}
use Rattle.automata.proofs.Lasts.{mark_after-lasts, next_of-lasts}
use Rattle.automata.proofs.RenumberLemmas.{fits_closed, same_marks}
use Rattle.linked_blocks.specs.Lists.{list_of, block_in, IsThere, HoldEach}
use Rattle.class_laws.specs.Classes.{AreClasses, AreFull}
use Rattle.class_laws.specs.Divided.{IsDivided}
use Rattle.class_laws.specs.Laws.{IsStable}
use Rattle.class_laws.proofs.Settling.{classes_stable}
use Rattle.class_laws.proofs.ShiftAll.{holds-place}
use Rattle.looking.proofs.Looked.{looked_means}
use Rattle.minimise.specs.Minimal.{IsLeast}
use Rattle.minimise.specs.Quotient.{IsQuotient}
use Rattle.minimise.proofs.QuotientLemmas.{divided_is_least, quotient_marks}

-- the first location of a block
abbrev pub first_in : List (List ℕ) → ℕ → ℕ
first_in lists block = slice_index (list_of lists block) 0

-- it is a location of the block
pub first_member : (size : ℕ) (lists : List (List ℕ)) → HoldEach size lists → AreFull lists → (b : ℕ) → b < length lists → (first_in lists b < size) × (block_in lists (first_in lists b) ≡ b)
first_member size lists e full b h = e.within b (first_in lists b) h (holds-place (list_of lists b) 0 (full b h))

-- the first so many blocks: the mark of the first location, and its row with blocks in place of locations
pub record AreMerged (s n : Diagrams) (t : Table) (lists : List (List ℕ)) (marks : List ℕ) (rows : List Id) (count : ℕ) : Type 0 where
  pub marks_long : length marks ≡ count
  pub rows_long : length rows ≡ count
  pub mark : (b : ℕ) → b < count → slice_index marks b ≡ mark_of t (first_in lists b)
  pub row : (b : ℕ) → b < count → Means n (id_at rows b) (λ a. block_in lists (eval s (row_of t (first_in lists b)) a))

pub merged_none : (s n : Diagrams) (t : Table) (lists : List (List ℕ)) (marks : List ℕ) (rows : List Id) → marks ≡ [] → rows ≡ [] → AreMerged s n t lists marks rows 0
merged_none s n t lists marks rows e q = record {
  marks_long = ap length e;
  rows_long = ap length q;
  mark = λ b h. absurd (omega (arith, h));
  row = λ b h. absurd (omega (arith, h));
}

-- what is made of a row by the numbers of blocks
pub merged_means : (s m n : Diagrams) (t : Table) (numbers : List ℕ) (lists : List (List ℕ)) (at : ℕ) (row id : Id) → Keeps s m → Fits s t → HoldEach (size_of t) lists
    → ((x : ℕ) → IsThere lists x → slice_index numbers x ≡ block_in lists x) → at < size_of t → row ≡ row_of t at → Transforms m n (IsTableItem numbers) row id
    → Means n id (λ a. block_in lists (eval s (row_of t at) a))
merged_means s m n t numbers lists at row id k f e b h q r =
    let w = looked_means s m n t numbers at row id k f h q r in
    record { live = w.live; value = λ a. w.value a ∙ b (eval s (row_of t at) a) (e.there (eval s (row_of t at) a) ((f at h).targets a)).0 }

-- one more block
pub merged_more : (s n after : Diagrams) (t : Table) (lists : List (List ℕ)) (marks : List ℕ) (rows : List Id) (count mark : ℕ) (id : Id) → Keeps n after
    → AreMerged s n t lists marks rows count → mark ≡ mark_of t (first_in lists count) → Means after id (λ a. block_in lists (eval s (row_of t (first_in lists count)) a))
    → AreMerged s after t lists (marks ++ mark ∷ []) (rows ++ id ∷ []) (count + 1)
merged_more s n after t lists marks rows count mark id k m e r = record {
  marks_long = length-append marks (mark ∷ []) ∙ ap (λ z. z + 1) m.marks_long;
  rows_long = length-append rows (id ∷ []) ∙ ap (λ z. z + 1) m.rows_long;
  mark = λ b l. elim (place_cases b count l) [
    | inl h ↦ get_or_append_left marks (mark ∷ []) 0 b (rw (m.marks_long) h) ∙ m.mark b h
    | inr h ↦ get_or_at marks mark [] 0 b (m.marks_long ∙ sym h) ∙ e ∙ ap (λ z. mark_of t (first_in lists z)) (sym h)
  ];
  row = λ b l. elim (place_cases b count l) [
    | inl h ↦ rw (get_or_append_left rows (id ∷ []) (record { 0 = 0 }) b (rw (m.rows_long) h)) (means_lasts n after k (id_at rows b) _ (m.row b h))
    | inr h ↦
        let here : id_at (rows ++ id ∷ []) b ≡ id = get_or_at rows id [] (record { 0 = 0 }) b (m.rows_long ∙ sym h) in
        subst (λ z. Means after z (λ a. block_in lists (eval s (row_of t (first_in lists b)) a))) (sym here)
        (subst (λ z. Means after id (λ a. block_in lists (eval s (row_of t (first_in lists z)) a))) (sym h) r)
  ];
}

module _ (s n : Diagrams) (t q : Table) (lists : List (List ℕ)) (inside : t.first < size_of t) (f : Fits s t) (k : Keeps s n) (e : HoldEach (size_of t) lists) (full : AreFull lists)
    (c : AreClasses s.props (moves_of s t) (block_in lists)) (m : AreMerged s n t lists q.marks q.rows (length lists)) (first : q.first ≡ block_in lists t.first) where
  member : (b : ℕ) → b < length lists → (first_in lists b < size_of t) × (block_in lists (first_in lists b) ≡ b)
  member = first_member (size_of t) lists e full

  there : (i : ℕ) → i < size_of t → block_in lists i < length lists
  there i h = (e.there i h).0

  stable : IsStable s.props (moves_of s t) (block_in lists)
  stable = classes_stable s.props (moves_of s t) (block_in lists) (fits_closed s t inside f) c

  row-fits : (b : ℕ) → b < length lists → IsRow n (size_of q) (row_of q b)
  row-fits b h =
      let r = m.row b h in
      let at = first_in lists b in
      let l = (member b h).0 in
      record {
        live = r.live;
        letters = λ x y same. r.value x ∙ ap (block_in lists) ((f at l).letters x y (λ v z. same v (rw k.extends.props z))) ∙ sym (r.value y);
        targets = λ a. rw (r.value a, m.rows_long) (there (eval s (row_of t at) a) ((f at l).targets a));
      }

  -- the merged automaton fits the store
  pub merged_fits : Fits n q
  merged_fits b h = row-fits b (rw m.rows_long at h)

  -- and is the quotient by the blocks
  pub merged_quotient : IsQuotient s.props (moves_of s t) (moves_of n q) (block_in lists)
  merged_quotient = record {
    first = first;
    mark = λ i h.
        let b = block_in lists i in
        let l = there i h in
        let w = member b l in
        m.mark b l ∙ stable.mark (first_in lists b) i w.0 h w.1;
    next = λ i a h o.
        let b = block_in lists i in
        let l = there i h in
        let w = member b l in
        let at = first_in lists b in
        (m.row b l).value (letter_truth n.props a)
        ∙ ap (λ p. block_in lists (eval s (row_of t at) (letter_truth p a))) k.extends.props
        ∙ stable.next at i a w.0 h w.1 o;
    member = λ b h. let w = member b (rw m.rows_long at h) in (first_in lists b, w.0, w.1);
  }

-- a quotient over a later store is one over the earlier store
pub quotient_back : (s n : Diagrams) (t : Table) (q : Moves) (block : ℕ → ℕ) → Keeps s n → Fits s t → IsQuotient n.props (moves_of n t) q block → IsQuotient s.props (moves_of s t) q block
quotient_back s n t q block k f c = record {
  first = c.first;
  mark = c.mark;
  next = λ i a h o. c.next i a h (rw (k.extends.props) o) ∙ ap block (next_of-lasts s n k t f i a h);
  member = c.member;
}

-- classes over a store are classes over a later one
pub classes_now : (s n : Diagrams) (t : Table) (block : ℕ → ℕ) → Keeps s n → Fits s t → AreClasses s.props (moves_of s t) block → AreClasses n.props (moves_of n t) block
classes_now s n t block g f c i j h l = (
  λ e w o. mark_after-lasts s n g t f i w h ∙ (c i j h l).0 e w (subst (λ p. IsOver p w) g.extends.props o) ∙ sym (mark_after-lasts s n g t f j w l),
  λ y. (c i j h l).1 (λ w o. sym (mark_after-lasts s n g t f i w h) ∙ y w (subst (λ p. IsOver p w) (sym g.extends.props) o) ∙ mark_after-lasts s n g t f j w l),
)

-- what is renumbered is least, with the marks of the automaton that was divided
pub least_ok : {E : Type 0} (s n after : Diagrams) (t q : Table) (block : ℕ → ℕ) (words : ℕ) → t.first < size_of t → Fits s t → Keeps s n
    → IsDivided s.props (moves_of s t) words block → IsQuotient s.props (moves_of s t) (moves_of n q) block → (r : Result Table E)
    → IfOk r (λ u. IsSubautomaton n.props (moves_of n q) (moves_of after u)) → IfOk r (λ u. IsNumbered n.props (moves_of after u))
    → IfOk r (λ u. IsLeast s.props (moves_of after u))
least_ok s n after t q block words first f k d c (Err e) a b = tt
least_ok s n after t q block words first f k d c (Ok u) a b =
    divided_is_least s.props (moves_of s t) (moves_of n q) (moves_of after u) words block (fits_closed s t first f) d c
    (subst (λ p. IsSubautomaton p (moves_of n q) (moves_of after u)) k.extends.props a)
    (subst (λ p. IsNumbered p (moves_of after u)) k.extends.props b)

-- what is renumbered has the marks of the automaton that was divided
pub marks_ok : {E : Type 0} (s n after : Diagrams) (t q : Table) (block : ℕ → ℕ) → t.first < size_of t → q.first < size_of q → Fits s t → Fits n q → Keeps s n
    → IsQuotient s.props (moves_of s t) (moves_of n q) block → (r : Result Table E)
    → IfOk r (λ u. HaveSameMarks (moves_of after u) (moves_of n q)) → IfOk r (λ u. HaveSameMarks (moves_of after u) (moves_of s t))
marks_ok s n after t q block first last f g k c (Err e) a = tt
marks_ok s n after t q block first last f g k c (Ok u) a = λ w.
    a w ∙ sym (same_marks s n t q k.extends.props (λ v o. sym (quotient_marks s.props (moves_of s t) (moves_of n q) block (fits_closed s t first f) c v o)) w)
