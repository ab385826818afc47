-- What the empty word tells apart.
use Rattle.std.proofs.Common.{◌≡◌, ◌≢◌, ◌<◌, ℕ, zero, suc, List, [], ◌∷◌, refl, sym, ◌∙◌, ap, arith, inl, inr, length, true}
use Rattle.std.specs.Prelude.{slice_index, slice_index_or}
use Rattle.std.proofs.lemmas.Bool.{true≢false}
use Rattle.std.proofs.lemmas.List.Elements.{All-nil, All-cons}
use Rattle.forms.specs.Word.{Word}
use Rattle.forms.specs.Shortlex.{has_lesser_letters, comes_before}
use Rattle.forms.proofs.ShortlexLemmas.{before-cases}
use Rattle.automata.specs.Moves.{Moves, mark_after, IsClosed}
use Rattle.automata.specs.Table.{Table, size_of, mark_of, moves_of}
use Rattle.automata.proofs.Letters.{agree_or_differ}
use Rattle.automata.proofs.Words.{over-nil}
use Rattle.diagrams.specs.Eval.{Diagrams}
use Rattle.class_laws.specs.Divided.{IsDivided}
use Rattle.distinguish.specs.Telling.{IsLeastDistinguishing, IsLeastForSome}
use Rattle.distinguish.specs.Columns.{IsColumn}
use Rattle.distinguish.specs.Rounds.{IsDividedByWords, IsByMarks}

-- nothing comes before the empty word
none_before : (v : Word) → comes_before v [] ≡ true → length v < 0
none_before v h = elim (before-cases v [] h) [ inl g ↦ g | inr g ↦ absurd (empty v g.0 g.1) ]
  where
    empty : (u : Word) → length u ≡ 0 → has_lesser_letters u [] ≡ true → ⊥
    empty [] e q = true≢false (sym q)
    empty (a ∷ u) e q = absurd (omega (arith, e))

-- the empty word tells locations of different marks apart
empty_least : (p : ℕ) (m : Moves) (i j : ℕ) → m.mark i ≢ m.mark j → IsLeastDistinguishing p m i j []
empty_least p m i j n = record { over = over-nil p; differ = n; least = λ v o b. absurd (omega (arith, none_before v b)) }

module _ (s : Diagrams) (t : Table) (blocks : List ℕ) (c : IsClosed s.props (moves_of s t)) (b : IsByMarks t blocks) where
  one_mark : (i j : ℕ) → i < size_of t → j < size_of t → slice_index blocks i ≡ slice_index blocks j → mark_of t i ≡ mark_of t j
  one_mark i j h k e = sym (b.mark i h) ∙ ap (mark_of t) e ∙ b.mark j k

  own : (at : ℕ) → at < size_of t → slice_index blocks (slice_index blocks at) ≡ slice_index blocks at
  own at h = let low = b.low at h in b.one (slice_index blocks at) at (omega (arith, low, h)) h (b.mark at h)

  divided : IsDivided s.props (moves_of s t) 1 (slice_index blocks)
  divided = record {
    same = λ i j h k e w o l. short i j h k e w l;
    apart = λ i j h k n. record { word = []; over = over-nil s.props; short = omega arith; differ = λ e. n (b.one i j h k e) };
  }
    where
      short : (i j : ℕ) → i < size_of t → j < size_of t → slice_index blocks i ≡ slice_index blocks j → (w : Word) → length w < 1 → mark_after (moves_of s t) i w ≡ mark_after (moves_of s t) j w
      short i j h k e [] l = one_mark i j h k e
      short i j h k e (a ∷ w) l = absurd (omega (arith, l))

  -- all marks are one
  pub begins_none : ((k : ℕ) → k < length blocks → slice_index blocks k ≡ 0) → (words : List Word) (columns : List (List ℕ)) → words ≡ [] → columns ≡ []
      → IsDividedByWords s.props (moves_of s t) blocks words columns
  begins_none zeros words columns e q = rw (e, q) (record {
    closed = c;
    letters = 1;
    some = omega arith;
    size = b.size;
    low = b.low;
    own = own;
    divided = divided;
    order = λ i j d h k. absurd (omega (arith, k));
    needed = All-nil (IsLeastForSome s.props (moves_of s t));
    short = All-nil (λ w. length w < 1);
    whole = λ i j h k n. absurd (n (zeros i (rw (b.size) h) ∙ sym (zeros j (rw (b.size) k))));
    marks = record { size = refl; column = λ k h. absurd (omega (arith, h)) };
  })

  -- two marks are different
  pub begins_some : (((k : ℕ) → k < length blocks → slice_index blocks k ≡ 0) → ⊥) → (words : List Word) (columns : List (List ℕ)) (column : List ℕ)
      → words ≡ [] ∷ [] → columns ≡ column ∷ [] → length column ≡ size_of t → ((at : ℕ) → at < size_of t → slice_index column at ≡ mark_of t at)
      → IsDividedByWords s.props (moves_of s t) blocks words columns
  begins_some other words columns column e q size marks = rw (e, q) (record {
    closed = c;
    letters = 1;
    some = omega arith;
    size = b.size;
    low = b.low;
    own = own;
    divided = divided;
    order = λ i j d h k. absurd (omega (arith, h, k));
    needed = All-cons (IsLeastForSome s.props (moves_of s t)) [] [] needed (All-nil (IsLeastForSome s.props (moves_of s t)));
    short = All-cons (λ w. length w < 1) [] [] (omega arith) (All-nil (λ w. length w < 1));
    whole = λ i j h k n. (0, [], omega arith, refl, empty_least s.props (moves_of s t) i j (λ z. n (b.one i j h k z)));
    marks = record { size = refl; column = λ k h. only k h };
  })
    where
      needed : IsLeastForSome s.props (moves_of s t) []
      needed = elim (agree_or_differ (slice_index blocks) (λ _. 0) (length blocks)) [
        | inl z ↦ absurd (other z)
        | inr z ↦
            let h : z.0 < size_of t = rw (← b.size) z.1 in
            let first : 0 < size_of t = omega (arith, h) in
            let zero-block : slice_index blocks 0 ≡ 0 = omega (arith, b.low 0 first) in
            record {
              one = z.0;
              other = 0;
              one_within = h;
              other_within = first;
              least = empty_least s.props (moves_of s t) z.0 0 (λ w. z.2.differ (b.one z.0 0 h first w ∙ zero-block));
            }
      ]

      only : (k : ℕ) → k < 1 → IsColumn (moves_of s t) (slice_index_or ([] ∷ []) k []) (slice_index_or (column ∷ []) k [])
      only zero h = record { size = size; mark = marks }
      only (suc k) h = absurd (omega (arith, h))
