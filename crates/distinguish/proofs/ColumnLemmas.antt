-- Columns of marks, and the first that tells two locations apart.
use Rattle.std.proofs.Common.{◌≡◌, ◌<◌, ◌+◌, ◌++◌, ℕ, List, [], ◌∷◌, sym, ◌∙◌, ap, arith, inl, inr, length, length-append}
use Rattle.std.specs.Prelude.{slice_index, slice_index_or}
use Rattle.std.proofs.lemmas.List.{get_or_append_left, get_or_at}
use Rattle.forms.specs.Word.{Word}
use Rattle.diagrams.specs.Eval.{Diagrams, letter_truth}
use Rattle.automata.specs.Moves.{Moves}
use Rattle.automata.specs.Table.{Table, size_of, Fits, next_of, moves_of}
use Rattle.automata.proofs.FindingLemmas.{place_cases}
use Rattle.distinguish.specs.declared.steps.Step.{Step}
use Rattle.distinguish.specs.Columns.{IsColumn, AreColumns}
use Rattle.distinguish.specs.Steps.{CanFollow, word_of}

-- one more word
pub columns_more : (m : Moves) (words : List Word) (columns : List (List ℕ)) (w : Word) (column : List ℕ) → AreColumns m words columns → IsColumn m w column
    → AreColumns m (words ++ w ∷ []) (columns ++ column ∷ [])
columns_more m words columns w column a c = record {
  size = length-append columns (column ∷ []) ∙ ap (λ n. n + 1) a.size ∙ sym (length-append words (w ∷ []));
  column = λ k l. elim (place_cases k (length words) (omega (arith, l, length-append words (w ∷ [])))) [
    | inl h ↦ rw (get_or_append_left words (w ∷ []) [] k h, get_or_append_left columns (column ∷ []) [] k (rw (a.size) h)) (a.column k h)
    | inr h ↦
        let first : slice_index_or (words ++ w ∷ []) k [] ≡ w = get_or_at words w [] [] k (sym h) in
        let second : slice_index_or (columns ++ column ∷ []) k [] ≡ column = get_or_at columns column [] [] k (a.size ∙ sym h) in
        rw (first, second) c
  ];
}

-- the column of a step's word
pub column_after : (s : Diagrams) (t : Table) (words : List Word) (columns : List (List ℕ)) (step : Step) (old column : List ℕ) → Fits s t
    → CanFollow s.props (length words) step → AreColumns (moves_of s t) words columns → old ≡ slice_index_or columns step.rest []
    → length column ≡ size_of t → ((at : ℕ) → at < size_of t → slice_index column at ≡ slice_index old (next_of s t at step.letter))
    → IsColumn (moves_of s t) (word_of words step) column
column_after s t words columns step old column f can a e size marks = record {
  size = size;
  mark = λ at h.
      marks at h ∙ ap (λ xs. slice_index xs (next_of s t at step.letter)) e
      ∙ (a.column step.rest can.rest).mark (next_of s t at step.letter) ((f at h).targets (letter_truth s.props step.letter));
}
