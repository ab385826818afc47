-- Lists of found locations.
use Rattle.std.proofs.Common.{◌≡◌, ◌≢◌, ◌<◌, ◌≤◌, ◌+◌, ◌⊎◌, ◌++◌, ℕ, zero, suc, List, [], ◌∷◌, refl, sym, ◌∙◌, ap, subst, arith, length, length-append, inl, inr, get_or-set_other, get_or-set_same}
use Rattle.std.specs.Prelude.{slice_index, slice_set, Contains}
use Rattle.std.proofs.Math.ListN.{length-set}
use Rattle.std.proofs.lemmas.Bool.{cases_lt, cases_eq}
use Rattle.std.proofs.lemmas.List.{get_or_append_left, get_or_at}
use Rattle.forms.specs.Word.{Word}
use Rattle.diagrams.specs.declared.top.Id.{Id}
use Rattle.diagrams.specs.Eval.{Diagrams, eval, letter_truth}
use Rattle.diagrams.specs.Terminals.{IsLeastLetter, AreTerminals}
use Rattle.automata.specs.Moves.{Moves}
use Rattle.automata.specs.Table.{Table, size_of, row_of, Fits, moves_of}
use Rattle.automata.specs.Search.{HasFound, ArePlaces, IsNoted, nowhere}
use Rattle.automata.proofs.Pigeon.{no_more_than}
use Rattle.automata.proofs.FindingLemmas.{IsFinding, AreTargets, finding_begins, finding_has, finding_new, finding_ends, search_begins, place_cases, with_word}

-- no more locations are found than there are
pub places_few : (found places : List ℕ) → ArePlaces found places → length found ≤ length places
places_few found places a =
    no_more_than (length places) (length found) (slice_index found) a.within
    (λ i j h l e. absurd (omega (arith, h, sym (a.place i (omega (arith, h, l))) ∙ ap (slice_index places) e ∙ a.place j l)))

-- of the targets of location k the first j are found
pub record IsFollowing (p : ℕ) (m : Moves) (found : List ℕ) (k : ℕ) (xs : List ℕ) (j : ℕ) : Type 0 where
  pub letters : ℕ → ℕ
  pub word : ℕ → Word
  pub targets : AreTargets p m (slice_index found k) letters (length xs)
  pub values : (e : ℕ) → e < length xs → m.next (slice_index found k) (letters e) ≡ slice_index xs e
  pub finding : IsFinding p m (slice_index found) word (length found) k letters (length xs) j

following_new : (p : ℕ) (m : Moves) (found : List ℕ) (k : ℕ) (xs : List ℕ) (j : ℕ) → j < length xs → IsFollowing p m found k xs j
    → ((i : ℕ) → i < length found → slice_index found i ≢ slice_index xs j) → IsFollowing p m (found ++ slice_index xs j ∷ []) k xs (j + 1)
following_new p m found k xs j h f new =
    let x = slice_index xs j in
    let here = get_or_append_left found (x ∷ []) 0 k f.finding.here in
    record {
      letters = f.letters;
      word = with_word f.word (length found) (f.word k ++ f.letters j ∷ []);
      targets = subst (λ z. AreTargets p m z f.letters (length xs)) (sym here) f.targets;
      values = λ e l. ap (λ z. m.next z (f.letters e)) here ∙ f.values e l;
      finding = subst (λ z. IsFinding p m (slice_index (found ++ x ∷ [])) (with_word f.word (length found) (f.word k ++ f.letters j ∷ [])) z k f.letters (length xs) (j + 1)) (sym (length-append found (x ∷ [])))
          (finding_new p m (slice_index found) (slice_index (found ++ x ∷ [])) f.word (length found) k f.letters (length xs) j f.targets f.finding h
          (get_or_append_left found (x ∷ []) 0)
          (get_or_at found x [] 0 (length found) refl ∙ sym (f.values j h))
          (λ i l e. new i l (e ∙ get_or_at found x [] 0 (length found) refl)));
    }

-- one target noted
pub following_more : (p : ℕ) (m : Moves) (old new : List ℕ) (k : ℕ) (xs : List ℕ) (j : ℕ) → j < length xs → IsFollowing p m old k xs j
    → IsNoted old new (slice_index xs j) → IsFollowing p m new k xs (j + 1)
following_more p m old new k xs j h f n =
    elim n [
      | inl q ↦ rw (q.0) (record {
        letters = f.letters;
        word = f.word;
        targets = f.targets;
        values = f.values;
        finding = finding_has p m (slice_index old) f.word (length old) k f.letters (length xs) j q.1.0 f.finding h q.1.1 (q.1.2 ∙ sym (f.values j h));
      })
      | inr q ↦ rw (q.0) (following_new p m old k xs j h f q.1)
    ]

-- the least letters to the terminals of a row
abbrev letter_to : (s : Diagrams) (f : Id) (xs : List ℕ) → AreTerminals s f xs → ℕ → ℕ
letter_to s f xs t e = elim (cases_lt e (length xs)) [ inl h ↦ (t.each e h).0 | inr h ↦ 0 ]

letter_to-is : (s : Diagrams) (f : Id) (xs : List ℕ) (t : AreTerminals s f xs) (e : ℕ) → e < length xs → IsLeastLetter s f (slice_index xs e) (letter_to s f xs t e)
letter_to-is s f xs t e l = by (cases_lt e (length xs))
  where
    by : (c : (e < length xs) ⊎ (length xs ≤ e)) → IsLeastLetter s f (slice_index xs e) (elim c [ inl h ↦ (t.each e h).0 | inr h ↦ 0 ])
    by (inl h) = (t.each e h).1
    by (inr h) = absurd (omega (arith, h, l))

-- a least letter is no greater than any other with its value
least_letter-le : (s : Diagrams) (f : Id) (x l a : ℕ) → IsLeastLetter s f x l → eval s f (letter_truth s.props a) ≡ x → l ≤ a
least_letter-le s f x l a h e = elim (cases_lt a l) [ inl k ↦ absurd (h.least a k e) | inr k ↦ k ]

-- what a list contains stands at some place of it
pub contains_place : (xs : List ℕ) (x : ℕ) → Contains xs x → (k : ℕ) × (k < length xs) × (slice_index xs k ≡ x)
contains_place [] x (k, l, e) = absurd (omega (arith, l))
contains_place (y ∷ xs) x (zero, l, e) = (0, l, e)
contains_place (y ∷ xs) x (suc k, l, e) = let r = contains_place xs x (k, omega (arith, l), e) in (suc r.0, omega (arith, r.1), r.2)

row_targets : (s : Diagrams) (t : Table) (at : ℕ) (xs : List ℕ) (a : AreTerminals s (row_of t at) xs)
    → AreTargets s.props (moves_of s t) at (letter_to s (row_of t at) xs a) (length xs)
row_targets s t at xs a = record {
  over = λ e h. (letter_to-is s (row_of t at) xs a e h).within;
  rise = λ d e h l. a.order d e _ _ h l (letter_to-is s (row_of t at) xs a d (omega (arith, h, l))) (letter_to-is s (row_of t at) xs a e l);
  all = λ b l.
      let r = contains_place xs _ (a.all b l) in
      let i = letter_to-is s (row_of t at) xs a r.0 r.1 in
      (r.0, r.1, least_letter-le s (row_of t at) (slice_index xs r.0) _ b i (sym r.2), i.value ∙ r.2);
}

-- before the first target
pub following_begins : (s : Diagrams) (t : Table) (found : List ℕ) (k : ℕ) (xs : List ℕ) → k < length found → HasFound s.props (moves_of s t) found k
    → AreTerminals s (row_of t (slice_index found k)) xs → IsFollowing s.props (moves_of s t) found k xs 0
following_begins s t found k xs h f a =
    let row = row_of t (slice_index found k) in
    record {
      letters = letter_to s row xs a;
      word = f.word;
      targets = row_targets s t (slice_index found k) xs a;
      values = λ e l. (letter_to-is s row xs a e l).value;
      finding = finding_begins s.props (moves_of s t) (slice_index found) f.word (length found) k (letter_to s row xs a) (length xs) h f.searching;
    }

-- after the last
pub following_ends : (p : ℕ) (m : Moves) (found : List ℕ) (k : ℕ) (xs : List ℕ) → IsFollowing p m found k xs (length xs) → HasFound p m found (k + 1)
following_ends p m found k xs f = record {
  word = f.word;
  searching = finding_ends p m (slice_index found) f.word (length found) k f.letters (length xs) f.targets f.finding;
}

-- what a search has found at its start
pub has_begun : (p : ℕ) (m : Moves) (found : List ℕ) → found ≡ m.first ∷ [] → HasFound p m found 0
has_begun p m found e = rw (e) (record { word = λ i. []; searching = search_begins p m (slice_index (m.first ∷ [])) refl })

-- a location that has no place is not among those found
pub no_place : (found places : List ℕ) → ArePlaces found places → (at : ℕ) → slice_index places at ≡ nowhere
    → (i : ℕ) → i < length found → slice_index found i ≢ at
no_place found places a at n i l e =
    let few = places_few found places a in
    omega (arith, l, few, a.few, sym (a.place i l) ∙ ap (slice_index places) e ∙ n)

-- the places with one more
pub places_noted : (found places : List ℕ) → ArePlaces found places → (at : ℕ) → at < length places → slice_index places at ≡ nowhere
    → ArePlaces (found ++ at ∷ []) (slice_set places at (length found))
places_noted found places a at h n = record {
  few = rw (length-set places at (length found)) a.few;
  within = λ i l. rw (length-set places at (length found)) (within i l);
  place = place;
  back = back;
}
  where
    split : (i : ℕ) → i < length (found ++ at ∷ []) → (i < length found) ⊎ (i ≡ length found)
    split i l = place_cases i (length found) (rw (length-append found (at ∷ [])) at l)

    within : (i : ℕ) → i < length (found ++ at ∷ []) → slice_index (found ++ at ∷ []) i < length places
    within i l = elim (split i l) [
      | inl x ↦ rw (get_or_append_left found (at ∷ []) 0 i x) (a.within i x)
      | inr x ↦ rw (x, get_or_at found at [] 0 (length found) refl) h
    ]

    place : (i : ℕ) → i < length (found ++ at ∷ []) → slice_index (slice_set places at (length found)) (slice_index (found ++ at ∷ []) i) ≡ i
    place i l = elim (split i l) [
      | inl x ↦ rw (get_or_append_left found (at ∷ []) 0 i x) (get_or-set_other places at (slice_index found i) (length found) 0 (no_place found places a at n i x) ∙ a.place i x)
      | inr x ↦ rw (x, get_or_at found at [] 0 (length found) refl) (get_or-set_same places at (length found) 0 h)
    ]

    back : (q : ℕ) → q < length (slice_set places at (length found)) → slice_index (slice_set places at (length found)) q ≢ nowhere
        → (slice_index (slice_set places at (length found)) q < length (found ++ at ∷ []))
        × (slice_index (found ++ at ∷ []) (slice_index (slice_set places at (length found)) q) ≡ q)
    back q l z = elim (cases_eq q at) [
      | inl e ↦
          let s : slice_index (slice_set places at (length found)) q ≡ length found = rw (e) (get_or-set_same places at (length found) 0 h) in
          rw (s) (omega (arith, length-append found (at ∷ [])), get_or_at found at [] 0 (length found) refl ∙ sym e)
      | inr e ↦
          let s : slice_index (slice_set places at (length found)) q ≡ slice_index places q = get_or-set_other places at q (length found) 0 e in
          let b = a.back q (rw (length-set places at (length found)) at l) (λ w. z (s ∙ w)) in
          rw (s) (omega (arith, length-append found (at ∷ []), b.0), get_or_append_left found (at ∷ []) 0 (slice_index places q) b.0 ∙ b.1)
    ]

-- targets are locations
pub following_within : (s : Diagrams) (t : Table) (found places xs : List ℕ) (k j : ℕ) → Fits s t → ArePlaces found places → length places ≡ size_of t
    → IsFollowing s.props (moves_of s t) found k xs j → j < length xs → slice_index xs j < length places
following_within s t found places xs k j f a e w h =
    let here : slice_index found k < size_of t = rw (e) at (a.within k w.finding.here) in
    let l = (f (slice_index found k) here).targets (letter_truth s.props (w.letters j)) in
    rw (e) (subst (λ z. z < size_of t) (w.values j h) l)
