-- What refinement begins with: all locations, and their marks as constants.
use Rattle.std.proofs.Common.{◌≡◌, ◌<◌, ◌+◌, ◌++◌, ℕ, zero, suc, List, [], ◌∷◌, sym, ◌∙◌, ap, subst, arith, inl, inr, length, length-append}
use Rattle.std.specs.List.{range_with_len}
use Rattle.std.proofs.lemmas.List.{get_or_append_left, get_or_at}
use Rattle.forms.specs.Word.{IsOver}
use Rattle.diagrams.specs.declared.top.Id.{Id}
use Rattle.diagrams.specs.Eval.{Diagrams, id_at}
use Rattle.diagrams.specs.Live.{IsCanonical, Keeps, Means}
use Rattle.diagrams.proofs.Meaning.{Keeps_refl, means_lasts}
use Rattle.automata.specs.Table.{Table, size_of, mark_of, Fits, moves_of}
use Rattle.automata.proofs.FindingLemmas.{place_cases}
use Rattle.automata.proofs.Lasts.{mark_after-lasts}
use Rattle.linked_blocks.specs.Lists.{Lists, block_in, HoldEach}
use Rattle.class_laws.specs.Classes.{AreClasses, AreFull, IsPaid}
use Rattle.class_laws.specs.Divided.{IsDivided}
use Rattle.class_laws.specs.Splits.{IsSplit}
use Rattle.class_laws.specs.Current.{IsRefining}
use Rattle.class_laws.proofs.Beginning.{each_first, current_first, marks_divide}

-- the marks of the first so many locations
pub record AreMarks (n : Diagrams) (t : Table) (found : List Id) (count : ℕ) : Type 0 where
  pub long : length found ≡ count
  pub mark : (at : ℕ) → at < count → Means n (id_at found at) (λ _. mark_of t at)

pub marks_none : (n : Diagrams) (t : Table) (found : List Id) → found ≡ [] → AreMarks n t found 0
marks_none n t found e = record { long = ap length e; mark = λ at h. absurd (omega (arith, h)) }

-- one more mark
pub marks_more : (n after : Diagrams) (t : Table) (found : List Id) (count value : ℕ) (id : Id) → Keeps n after → AreMarks n t found count → value ≡ mark_of t count
    → Means after id (λ _. value) → AreMarks after t (found ++ id ∷ []) (count + 1)
marks_more n after t found count value id k r e m = record {
  long = length-append found (id ∷ []) ∙ ap (λ z. z + 1) r.long;
  mark = λ i l. elim (place_cases i count l) [
    | inl h ↦ rw (get_or_append_left found (id ∷ []) (record { 0 = 0 }) i (rw (r.long) h)) (means_lasts n after k (id_at found i) _ (r.mark i h))
    | inr h ↦
        let at : id_at (found ++ id ∷ []) i ≡ id = get_or_at found id [] (record { 0 = 0 }) i (r.long ∙ sym h) in
        subst (λ z. Means after z (λ _. mark_of t i)) (sym at) (record { live = m.live; value = λ a. m.value a ∙ e ∙ ap (mark_of t) (sym h) })
  ];
}

range_more : (a n : ℕ) → range_with_len a (suc n) ≡ range_with_len a n ++ (a + n) ∷ []
range_more a zero = ap (λ z. z ∷ []) (omega arith)
range_more a (suc n) =
    let e : (a + 1) + n ≡ a + suc n = omega arith in
    ap (λ xs. a ∷ xs) (range_more (a + 1) n ∙ ap (λ z. range_with_len (a + 1) n ++ z ∷ []) e)

-- one more location
pub range_push : (n : ℕ) → range_with_len 0 (n + 1) ≡ range_with_len 0 n ++ n ∷ []
range_push n =
    let e : n + 1 ≡ suc n = omega arith in
    let z : 0 + n ≡ n = omega arith in
    ap (range_with_len 0) e ∙ range_more 0 n ∙ ap (λ k. range_with_len 0 n ++ k ∷ []) z

-- after the split by marks, with one row for all locations, refinement can begin
pub begun : (n : Diagrams) (t : Table) (old new : Lists) (marks rows : List Id) (c : Id) → IsCanonical n → 0 < size_of t → old.lists ≡ range_with_len 0 (size_of t) ∷ []
    → ((at : ℕ) → at < size_of t → Means n (id_at marks at) (λ _. mark_of t at)) → HoldEach (size_of t) new.lists → AreFull new.lists → IsPaid (size_of t) new.lists new.moves
    → IsSplit (size_of t) (block_in old.lists) (block_in new.lists) (id_at marks) → length rows ≡ size_of t → ((at : ℕ) → at < size_of t → id_at rows at ≡ c)
    → IsRefining n n t new rows (range_with_len 0 (size_of t))
begun n t old new marks rows c canonical some first r each full paid q long same = record {
  keeps = Keeps_refl n canonical;
  each = each;
  full = full;
  paid = paid;
  words = 0;
  divided = marks_divide n n t (block_in old.lists) (block_in new.lists) (id_at marks) (Keeps_refl n canonical) r whole q;
  current = current_first n t new.lists rows c long same;
}
  where
    whole : (i j : ℕ) → i < size_of t → j < size_of t → block_in old.lists i ≡ block_in old.lists j
    whole i j h l =
        let e = each_first (size_of t) some in
        let a : block_in (range_with_len 0 (size_of t) ∷ []) i < 1 = (e.there i h).0 in
        let b : block_in (range_with_len 0 (size_of t) ∷ []) j < 1 = (e.there j l).0 in
        rw (first) (omega (arith, a, b))

-- what words divide over a later store they divide over the earlier one
pub divided_back : (s n : Diagrams) (t : Table) (k : ℕ) (block : ℕ → ℕ) → Keeps s n → Fits s t → IsDivided n.props (moves_of n t) k block → IsDivided s.props (moves_of s t) k block
divided_back s n t k block g f d = record {
  same = λ i j h l e w o m.
      sym (mark_after-lasts s n g t f i w h) ∙ d.same i j h l e w (subst (λ p. IsOver p w) (sym g.extends.props) o) m ∙ mark_after-lasts s n g t f j w l;
  apart = λ i j h l e.
      let x = d.apart i j h l e in
      record {
        word = x.word;
        over = subst (λ p. IsOver p x.word) g.extends.props x.over;
        short = x.short;
        differ = λ z. x.differ (mark_after-lasts s n g t f i x.word h ∙ z ∙ sym (mark_after-lasts s n g t f j x.word l));
      };
}

-- and classes over a later store are classes over the earlier one
pub classes_back : (s n : Diagrams) (t : Table) (block : ℕ → ℕ) → Keeps s n → Fits s t → AreClasses n.props (moves_of n t) block → AreClasses s.props (moves_of s t) block
classes_back s n t block g f c i j h l = (
  λ e w o. sym (mark_after-lasts s n g t f i w h) ∙ (c i j h l).0 e w (subst (λ p. IsOver p w) (sym g.extends.props) o) ∙ mark_after-lasts s n g t f j w l,
  λ y. (c i j h l).1 (λ w o. mark_after-lasts s n g t f i w h ∙ y w (subst (λ p. IsOver p w) g.extends.props o) ∙ sym (mark_after-lasts s n g t f j w l)),
)
