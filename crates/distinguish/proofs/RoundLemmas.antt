-- A round of division, with the words that it finds.
use Rattle.std.proofs.Common.{◌≡◌, ◌≢◌, ◌<◌, ◌≤◌, ◌++◌, ◌⊎◌, ℕ, suc, Bool, List, [], ◌∷◌, sym, ◌∙◌, arith, inl, inr, length, map, get_or, true, All}
use Rattle.std.specs.declared.cmp.Ordering.TheVariants.{Less}
use Rattle.std.specs.Prelude.{AllPairs, Any, slice_index}
use Rattle.std.specs.List.Sorted.{IsStrictlySortedBy}
use Rattle.std.proofs.lemmas.Bool.{cases_eq, cases_order, and_parts, eqb-true}
use Rattle.std.proofs.lemmas.Bool.Decides.{nat_tests}
use Rattle.std.proofs.lemmas.List.Elements.{All-append, All-map, All-weaker}
use Rattle.std.proofs.lemmas.Map.Keys.{Less-from_sorted}
use Rattle.forms.specs.Word.{Word, IsOver}
use Rattle.forms.specs.Shortlex.{comes_before}
use Rattle.forms.proofs.ShortlexLemmas.{before-shorter, before-lesser, before-cases, lesser-less, lesser-more}
use Rattle.automata.specs.Moves.{Moves, mark_after, AreDistinguished}
use Rattle.automata.proofs.Words.{over-head, over-tail}
use Rattle.class_laws.specs.Divided.{IsDivided}
use Rattle.dividing.proofs.RoundLemmas.{IsRound, round_divides, round_is_finer}
use Rattle.distinguish.specs.declared.steps.Step.{Step}
use Rattle.distinguish.specs.contracts.steps.StepPartialEq.TheImpl as step_eq
use Rattle.distinguish.specs.Telling.{IsLeastDistinguishing, IsLeastForSome, IsTellingList}
use Rattle.distinguish.specs.Columns.{AreColumns}
use Rattle.distinguish.specs.Rounds.{IsDividedByWords, IsStable}
use Rattle.distinguish.specs.Steps.{step_order, CanFollow, word_of, IsStepFor, IsStep, AreSteps}
use Rattle.distinguish.proofs.ListLemmas.{all_pairs_append, all_pairs_map, any_left, any_right, any_map}
use Rattle.distinguish.proofs.Transport.{any_weaker}
use Rattle.distinguish.proofs.WordLemmas.{least_swap, least_moves, no_shorter}

-- a lesser step has a lesser letter, or the same and an earlier rest
step_less : (x y : Step) → step_order x y ≡ Less → (x.letter < y.letter) ⊎ ((x.letter ≡ y.letter) × (x.rest < y.rest))
step_less x y e =
    elim (cases_order x.letter y.letter) [
      | inl q ↦ elim (cases_order x.rest y.rest) [
        | inl r ↦ absurd (grind (arith, nat_tests))
        | inr (inl r) ↦ inr (q, r)
        | inr (inr r) ↦ absurd (grind (arith, nat_tests))
      ]
      | inr (inl q) ↦ inl q
      | inr (inr q) ↦ absurd (grind (arith, nat_tests))
    ]

module _ (p : ℕ) (m : Moves) (blocks : List ℕ) (words : List Word) (columns : List (List ℕ)) (t : IsDividedByWords p m blocks words columns) where
  -- the word of a step that tells locations of one block apart
  step_length : (i j : ℕ) (step : Step) → i < m.size → j < m.size → slice_index blocks i ≡ slice_index blocks j → IsStepFor p m words i j step
      → length (word_of words step) ≡ t.letters
  step_length i j step h k e s =
      let low = no_shorter p m t.letters i j (word_of words step) (t.divided.same i j h k e) s.least in
      let high = t.short step.rest [] s.rest in
      omega (arith, low, high)

  -- a step has a letter, and one of the words as its rest
  pub step_letter : (step : Step) → IsStep p m blocks words step → CanFollow p (length words) step
  step_letter step s = record { letter = over-head p step.letter (get_or words step.rest []) s.tells.least.over; rest = s.tells.rest }

  step_needed : (step : Step) → IsStep p m blocks words step → IsLeastForSome p m (word_of words step)
  step_needed step s = record { one = s.one; other = s.other; one_within = s.one_within; other_within = s.other_within; least = s.tells.least }

  step_size : (step : Step) → IsStep p m blocks words step → length (word_of words step) ≡ t.letters
  step_size step s = step_length s.one s.other step s.one_within s.other_within s.same s.tells

  -- lesser steps have words that come before
  step_before : (x y : Step) → IsStep p m blocks words x → IsStep p m blocks words y → step_order x y ≡ Less → comes_before (word_of words x) (word_of words y) ≡ true
  step_before x y a b e =
      let same : length (word_of words x) ≡ length (word_of words y) = step_size x a ∙ sym (step_size y b) in
      elim (step_less x y e) [
        | inl h ↦ before-lesser (word_of words x) (word_of words y) same (lesser-less x.letter y.letter (get_or words x.rest []) (get_or words y.rest []) h)
        | inr h ↦
            let early = t.order x.rest y.rest [] h.1 b.tells.rest in
            elim (before-cases (get_or words x.rest []) (get_or words y.rest []) early) [
              | inl g ↦ absurd (omega (arith, g, same))
              | inr g ↦
                  before-lesser (word_of words x) (word_of words y) same
                  (rw (h.0) (lesser-more y.letter (get_or words x.rest []) (get_or words y.rest []) g.1))
            ]
      ]

  module _ (next : List ℕ) (steps : List Step) (r : IsRound p m (slice_index blocks) (slice_index next))
      (size : length next ≡ m.size) (low : (at : ℕ) → at < m.size → slice_index next at ≤ at)
      (fixed : (at : ℕ) → at < m.size → slice_index next (slice_index next at) ≡ slice_index next at)
      (a : AreSteps p m blocks next words m.size steps) (sorted : IsStrictlySortedBy step_order steps) where
    divided-next : IsDivided p m (suc t.letters) (slice_index next)
    divided-next = round_divides p m t.letters (slice_index blocks) (slice_index next) t.closed t.divided r

    new-order : AllPairs (λ u v. comes_before u v ≡ true) (map (word_of words) steps)
    new-order =
        all_pairs_map (λ u v. comes_before u v ≡ true) (word_of words) steps (record { letter = 0; rest = 0 })
        (λ i j d h k. step_before (get_or steps i d) (get_or steps j d) (a.right i d (omega (arith, h, k))) (a.right j d k) (Less-from_sorted step_order steps i j d sorted h k))

    new-size : All (λ w. length w ≡ t.letters) (map (word_of words) steps)
    new-size = All-map (λ w. length w ≡ t.letters) (word_of words) steps (All-weaker (IsStep p m blocks words) (λ s. length (word_of words s) ≡ t.letters) step_size steps a.right)

    all-order : AllPairs (λ u v. comes_before u v ≡ true) (words ++ map (word_of words) steps)
    all-order =
        all_pairs_append (λ u v. comes_before u v ≡ true) words (map (word_of words) steps) t.order new-order
        (λ i j d h k. before-shorter (get_or words i d) (get_or (map (word_of words) steps) j d) (omega (arith, t.short i d h, new-size j d k)))

    all-needed : All (IsLeastForSome p m) (words ++ map (word_of words) steps)
    all-needed =
        All-append (IsLeastForSome p m) words (map (word_of words) steps) t.needed
        (All-map (IsLeastForSome p m) (word_of words) steps (All-weaker (IsStep p m blocks words) (λ s. IsLeastForSome p m (word_of words s)) step_needed steps a.right))

    all-short : All (λ w. length w < suc t.letters) (words ++ map (word_of words) steps)
    all-short =
        All-append (λ w. length w < suc t.letters) words (map (word_of words) steps)
        (All-weaker (λ w. length w < t.letters) (λ w. length w < suc t.letters) (λ w h. omega (arith, h)) words t.short)
        (All-weaker (λ w. length w ≡ t.letters) (λ w. length w < suc t.letters) (λ w h. omega (arith, h)) (map (word_of words) steps) new-size)

    within-next : (i : ℕ) → i < m.size → slice_index next i < m.size
    within-next i h = omega (arith, h, low i h)

    -- the first locations of the blocks of two locations
    firsts-step : (x y : ℕ) → x < m.size → y < m.size → x ≢ y → slice_index next x ≡ x → slice_index next y ≡ y → slice_index blocks x ≡ slice_index blocks y
        → Any (λ s. IsLeastDistinguishing p m x y (word_of words s) × (length (word_of words s) ≡ t.letters)) steps
    firsts-step x y h k n fx fy e =
        elim (cases_order x y) [
          | inl q ↦ absurd (n q)
          | inr (inl q) ↦
              any_weaker (IsStepFor p m words x y) (λ s. IsLeastDistinguishing p m x y (word_of words s) × (length (word_of words s) ≡ t.letters))
              (λ s f. (f.least, step_length x y s h k e f)) steps (a.whole x y q k fx fy e)
          | inr (inr q) ↦
              any_weaker (IsStepFor p m words y x) (λ s. IsLeastDistinguishing p m x y (word_of words s) × (length (word_of words s) ≡ t.letters))
              (λ s f. (least_swap p m y x (word_of words s) f.least, step_length y x s k h (sym e) f)) steps (a.whole y x q h fy fx (sym e))
        ]

    -- the step of two locations that the round divides
    divided-step : (i j : ℕ) → i < m.size → j < m.size → slice_index blocks i ≡ slice_index blocks j → slice_index next i ≢ slice_index next j
        → Any (λ s. IsLeastDistinguishing p m i j (word_of words s)) steps
    divided-step i j h k e n =
        let finer = round_is_finer p m t.letters (slice_index blocks) (slice_index next) t.divided divided-next in
        let x = slice_index next i in
        let y = slice_index next j in
        let hx = within-next i h in
        let hy = within-next j k in
        let same : slice_index blocks x ≡ slice_index blocks y = finer x i hx h (fixed i h) ∙ e ∙ sym (finer y j hy k (fixed j k)) in
        any_weaker (λ s. IsLeastDistinguishing p m x y (word_of words s) × (length (word_of words s) ≡ t.letters)) (λ s. IsLeastDistinguishing p m i j (word_of words s))
        (λ s l.
        let w = word_of words s in
        let short : length w < suc t.letters = omega (arith, l.1) in
        let one = least_moves p m (suc t.letters) i x y w (divided-next.same i x h hx (sym (fixed i h))) short l.0 in
        least_swap p m j i w (least_moves p m (suc t.letters) j y i w (divided-next.same j y k hy (sym (fixed j k))) short (least_swap p m i y w one)))
        steps (firsts-step x y hx hy n (fixed i h) (fixed j k) same)

    -- the round divides by the words so far and those of the steps
    pub round_more : (marks : List (List ℕ)) → AreColumns m (words ++ map (word_of words) steps) marks → IsDividedByWords p m next (words ++ map (word_of words) steps) marks
    round_more marks c = record {
      closed = t.closed;
      letters = suc t.letters;
      some = omega arith;
      size = size;
      low = low;
      own = fixed;
      divided = divided-next;
      order = all-order;
      needed = all-needed;
      short = all-short;
      whole = λ i j h k n. elim (cases_eq (slice_index blocks i) (slice_index blocks j)) [
        | inl e ↦
            any_right (IsLeastDistinguishing p m i j) words (map (word_of words) steps)
            (any_map (IsLeastDistinguishing p m i j) (word_of words) steps (divided-step i j h k e n))
        | inr e ↦ any_left (IsLeastDistinguishing p m i j) words (map (word_of words) steps) (t.whole i j h k e)
      ];
      marks = c;
    }

    -- a round that finds no word divides nothing
    pub round_stable : length steps ≡ 0 → IsStable p m blocks
    round_stable none i j b h k o e =
        elim (cases_eq (slice_index next i) (slice_index next j)) [
          | inl q ↦ r.next i j h k q b o
          | inr q ↦ let d = divided-step i j h k e q in absurd (omega (arith, none, d.2))
        ]

  -- stable blocks are not told apart
  stable_agree : IsStable p m blocks → (i j : ℕ) → i < m.size → j < m.size → slice_index blocks i ≡ slice_index blocks j → (w : Word) → IsOver p w → mark_after m i w ≡ mark_after m j w
  stable_agree s i j h k e [] o = t.divided.same i j h k e [] o t.some
  stable_agree s i j h k e (a ∷ w) o =
      let x = over-head p a w o in
      stable_agree s (m.next i a) (m.next j a) (t.closed.next i a h x) (t.closed.next j a k x) (s i j a h k x e) w (over-tail p a w o)

  -- with stable blocks the words of an automaton without equivalent locations are all found
  pub stable_ends : IsStable p m blocks → ((i j : ℕ) → i < m.size → j < m.size → i ≢ j → AreDistinguished p m i j) → IsTellingList p m words
  stable_ends s apart = record {
    order = t.order;
    needed = t.needed;
    whole = λ i j h k n. let d = apart i j h k n in t.whole i j h k (λ e. d.differ (stable_agree s i j h k e d.word d.over));
  }

-- whether two steps are the same
abbrev pub same_step : Step → Step → Bool
same_step = (step_eq.ghosts).eq

-- steps that are the same are equal
pub step_same : (x y : Step) → same_step x y ≡ true → x ≡ y
step_same x y e =
    let p = and_parts _ _ e in
    let letter : x.letter ≡ y.letter = eqb-true x.letter y.letter p.0 in
    let rest : x.rest ≡ y.rest = eqb-true x.rest y.rest p.1 in
    λ d. record { letter = letter d; rest = rest d }
