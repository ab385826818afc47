-- A round of division over a growing store.
use Rattle.std.proofs.Common.{◌≡◌, ◌<◌, ◌++◌, ℕ, List, refl, sym, ◌∙◌, subst, arith, length, map, All}
use Rattle.std.specs.Prelude.{slice_index}
use Rattle.std.specs.List.Sorted.{IsStrictlySortedBy}
use Rattle.std.proofs.lemmas.List.Elements.{All-weaker}
use Rattle.forms.specs.Word.{Word}
use Rattle.diagrams.specs.declared.top.Id.{Id}
use Rattle.diagrams.specs.Eval.{Diagrams, id_at}
use Rattle.diagrams.specs.Live.{Keeps}
use Rattle.automata.specs.Table.{Table, size_of, Fits, moves_of}
use Rattle.automata.proofs.Lasts.{fits_lasts, next_of-lasts}
use Rattle.minimise.specs.Minimal.{IsLeast, AreTheSame}
use Rattle.dividing.proofs.RoundLemmas.{IsRound}
use Rattle.dividing.proofs.RowLemmas.{rows_make_round}
use Rattle.distinguish.specs.declared.steps.Step.{Step}
use Rattle.distinguish.specs.Telling.{IsTellingList}
use Rattle.dividing.specs.Divisions.{AreBlockRows, IsDivision}
use Rattle.distinguish.specs.Columns.{AreColumns}
use Rattle.distinguish.specs.Rounds.{IsDividedByWords, IsStable}
use Rattle.distinguish.specs.Steps.{step_order, CanFollow, word_of, IsStep, AreSteps}
use Rattle.dividing.proofs.DivisionLemmas.{rows_now, division_goes}
use Rattle.distinguish.proofs.RoundLemmas.{step_letter, round_more, round_stable, stable_ends}
use Rattle.distinguish.proofs.Transport.{mark_after-same, list_same, words_same}

-- an automaton moves in a grown store as it did
pub same_lasts : (s n : Diagrams) (t : Table) → Keeps s n → Fits s t → AreTheSame s.props (moves_of s t) (moves_of n t)
same_lasts s n t k f = record { size = refl; first = refl; mark = λ at h. refl; next = λ at a h o. sym (next_of-lasts s n k t f at a h) }

same_back : (s n : Diagrams) (t : Table) → Keeps s n → Fits s t → AreTheSame n.props (moves_of n t) (moves_of s t)
same_back s n t k f = record { size = refl; first = refl; mark = λ at h. refl; next = λ at a h o. next_of-lasts s n k t f at a h }

-- blocks that words divide stay so as the store grows
pub words_last : (s n : Diagrams) (t : Table) (blocks : List ℕ) (words : List Word) (columns : List (List ℕ)) → Keeps s n → Fits s t
    → IsDividedByWords s.props (moves_of s t) blocks words columns → IsDividedByWords n.props (moves_of n t) blocks words columns
words_last s n t blocks words columns k f g =
    subst (λ p. IsDividedByWords p (moves_of n t) blocks words columns) (sym k.extends.props)
    (words_same s.props (moves_of s t) (moves_of n t) g.closed (same_lasts s n t k f) blocks words columns g)

module _ (s n : Diagrams) (t : Table) (blocks : List ℕ) (words : List Word) (columns : List (List ℕ)) (rows : List Id) (next : List ℕ)
    (k : Keeps s n) (f : Fits s t) (g : IsDividedByWords s.props (moves_of s t) blocks words columns) (r : AreBlockRows s n t blocks rows (size_of t))
    (d : IsDivision t rows next) where
  -- the blocks and words before the round, in the store now
  pub words_now : IsDividedByWords n.props (moves_of n t) blocks words columns
  words_now = words_last s n t blocks words columns k f g

  round : IsRound n.props (moves_of n t) (slice_index blocks) (slice_index next)
  round =
      rows_make_round n t (slice_index blocks) (slice_index next) (id_at rows) k.now (fits_lasts s n k t f) ((rows_now s n t blocks rows k f r).row)
      (division_goes t rows next d)

  fixed : (at : ℕ) → at < size_of t → slice_index next (slice_index next at) ≡ slice_index next at
  fixed at h = let low = d.low at h in d.one (slice_index next at) at (omega (arith, low, h)) h (d.key at h)

  -- the words of the steps divide the new blocks with those so far
  pub next_more : (steps : List Step) (marks : List (List ℕ)) → AreSteps n.props (moves_of n t) blocks next words (size_of t) steps → IsStrictlySortedBy step_order steps
      → AreColumns (moves_of n t) (words ++ map (word_of words) steps) marks → IsDividedByWords n.props (moves_of n t) next (words ++ map (word_of words) steps) marks
  next_more steps marks a sorted c = round_more n.props (moves_of n t) blocks words columns words_now next steps round d.size d.low fixed a sorted marks c

  -- without steps the blocks are stable
  pub next_stable : (steps : List Step) → AreSteps n.props (moves_of n t) blocks next words (size_of t) steps → IsStrictlySortedBy step_order steps → length steps ≡ 0
      → IsStable n.props (moves_of n t) blocks
  next_stable steps a sorted none = round_stable n.props (moves_of n t) blocks words columns words_now next steps round d.size d.low fixed a sorted none

  -- the rest of each step is one of the words so far
  pub next_follow : (steps : List Step) → AreSteps n.props (moves_of n t) blocks next words (size_of t) steps → All (CanFollow n.props (length words)) steps
  next_follow steps a =
      All-weaker (IsStep n.props (moves_of n t) blocks words) (CanFollow n.props (length words)) (step_letter n.props (moves_of n t) blocks words columns words_now) steps a.right

-- when blocks are stable, all words of a least automaton are found
pub words_end : (s n : Diagrams) (t : Table) (blocks : List ℕ) (words : List Word) (columns : List (List ℕ)) → Keeps s n → Fits s t → IsLeast s.props (moves_of s t)
    → IsDividedByWords n.props (moves_of n t) blocks words columns → IsStable n.props (moves_of n t) blocks → IsTellingList s.props (moves_of s t) words
words_end s n t blocks words columns k f l g stable =
    subst (λ p. IsTellingList p (moves_of s t) words) k.extends.props
    (list_same n.props (moves_of n t) (moves_of s t) g.closed (same_back s n t k f) words
    (stable_ends n.props (moves_of n t) blocks words columns g stable (λ i j h q e.
    let a = l.apart i j h q e in
    record {
      word = a.word;
      over = rw (k.extends.props) a.over;
      differ = λ z. a.differ (mark_after-same s.props (moves_of s t) (moves_of n t) l.closed (same_lasts s n t k f) i a.word h a.over
          ∙ z ∙ sym (mark_after-same s.props (moves_of s t) (moves_of n t) l.closed (same_lasts s n t k f) j a.word q a.over));
    })))
