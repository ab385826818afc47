-- The steps of pairs of new blocks.
use Rattle.std.proofs.Common.{◌≡◌, ◌≢◌, ◌<◌, ◌≤◌, ℕ, List, [], ◌∷◌, sym, ◌∙◌, ap, arith, inl, inr, length, All}
use Rattle.std.specs.Prelude.{Contains, slice_index}
use Rattle.std.proofs.lemmas.Bool.{cases_eq}
use Rattle.std.proofs.lemmas.List.Elements.{All-contains, All-contains_itself, All-from_get_or}
use Rattle.forms.specs.Word.{Word, IsOver}
use Rattle.diagrams.specs.declared.top.Id.{Id}
use Rattle.diagrams.specs.Eval.{Diagrams, eval, letter_truth, id_at}
use Rattle.automata.specs.Moves.{Moves, mark_after}
use Rattle.automata.specs.Table.{Table, size_of, mark_of, Fits, next_of, moves_of}
use Rattle.automata.proofs.Words.{over-tail}
use Rattle.distinguish.specs.declared.steps.Step.{Step}
use Rattle.distinguish.specs.Differences.{IsLeastDifference}
use Rattle.dividing.specs.Divisions.{AreBlockRows, HaveOneKey, IsDivision}
use Rattle.distinguish.specs.Columns.{mark_in}
use Rattle.distinguish.specs.Rounds.{IsDividedByWords}
use Rattle.distinguish.specs.Steps.{IsStepFor, IsStep, AreSteps}
use Rattle.distinguish.proofs.ListLemmas.{any_moves}
use Rattle.distinguish.proofs.WordLemmas.{distinguishing_steps, first_is_least}

module _ (s : Diagrams) (t : Table) (blocks : List ℕ) (words : List Word) (columns : List (List ℕ)) (rows : List Id) (f : Fits s t)
    (r : AreBlockRows s s t blocks rows (size_of t)) (g : IsDividedByWords s.props (moves_of s t) blocks words columns) where
  row-value : (at b : ℕ) → at < size_of t → eval s (id_at rows at) (letter_truth s.props b) ≡ slice_index blocks (next_of s t at b)
  row-value at b h = (r.row at h).value (letter_truth s.props b)

  target-within : (at b : ℕ) → at < size_of t → next_of s t at b < size_of t
  target-within at b h = (f at h).targets (letter_truth s.props b)

  -- each column has a mark for each location
  pub columns_long : (one other : ℕ) → one < size_of t → other < size_of t → All (λ column. (one < length column) × (other < length column)) columns
  columns_long one other h k =
      All-from_get_or (λ column. (one < length column) × (other < length column)) columns []
      (λ i l. let z = (g.marks.column i (rw (← g.marks.size) l)).size in (rw (z) h, rw (z) k))

  -- the least letter, and the first column that tells the targets apart
  pub step_tells : (i j : ℕ) → i < size_of t → j < size_of t → slice_index blocks i ≡ slice_index blocks j
      → (letter rest x y : ℕ) → IsLeastDifference s (id_at rows i) (id_at rows j) letter → x ≡ next_of s t i letter → y ≡ next_of s t j letter
      → rest ≤ length columns → ((k : ℕ) → k < rest → mark_in columns k x ≡ mark_in columns k y)
      → (rest < length columns → mark_in columns rest x ≢ mark_in columns rest y)
      → IsStepFor s.props (moves_of s t) words i j (record { letter = letter; rest = rest })
  step_tells i j h k e letter rest x y d ex ey within before found =
      let apart : slice_index blocks (next_of s t i letter) ≢ slice_index blocks (next_of s t j letter) =
      λ q. d.differ (row-value i letter h ∙ q ∙ sym (row-value j letter k)) in
      let hx = target-within i letter h in
      let hy = target-within j letter k in
      let l = first_is_least s.props (moves_of s t) words columns g.marks g.order g.needed (next_of s t i letter) (next_of s t j letter) hx hy
      (g.whole (next_of s t i letter) (next_of s t j letter) hx hy apart) rest within
      (λ n z. ap (mark_in columns n) (sym ex) ∙ before n z ∙ ap (mark_in columns n) ey)
      (λ z q. found z (ap (mark_in columns rest) ex ∙ q ∙ ap (mark_in columns rest) (sym ey))) in
      record {
        rest = l.0;
        least = distinguishing_steps s.props (moves_of s t) g.letters (slice_index blocks) (λ at a z o. target-within at a z) g.divided i j h k e letter d.within apart
            (λ b z. sym (row-value i b h) ∙ d.least b z ∙ row-value j b k) _ l.1;
      }

  -- different first locations of new blocks have different rows, if they were in one block
  pub rows_differ : (next : List ℕ) → IsDivision t rows next → (x y : ℕ) → x < size_of t → y < size_of t → x ≢ y → slice_index next x ≡ x → slice_index next y ≡ y
      → slice_index blocks x ≡ slice_index blocks y → id_at rows x ≢ id_at rows y
  rows_differ next d x y h k n fx fy e q =
      let mark : mark_of t x ≡ mark_of t y = g.divided.same x y h k e [] (λ i z l. absurd (omega (arith, l))) g.some in
      n (sym fx ∙ d.one x y h k (mark, q) ∙ fy)

  -- locations with one mark and one row were in one block
  one_block : (i j : ℕ) → i < size_of t → j < size_of t → HaveOneKey t rows i j → slice_index blocks i ≡ slice_index blocks j
  one_block i j h k e =
      elim (cases_eq (slice_index blocks i) (slice_index blocks j)) [
        | inl q ↦ q
        | inr n ↦ let z = g.divided.apart i j h k n in absurd (z.differ (agree z.word z.over z.short))
      ]
    where
      agree : (w : Word) → IsOver s.props w → length w < g.letters → mark_after (moves_of s t) i w ≡ mark_after (moves_of s t) j w
      agree [] o l = e.0
      agree (a ∷ w) o l =
          g.divided.same (next_of s t i a) (next_of s t j a) (target-within i a h) (target-within j a k)
          (sym (row-value i a h) ∙ ap (λ z. eval s z (letter_truth s.props a)) e.1 ∙ row-value j a k) w (over-tail s.props a w o) (omega (arith, l))

  -- an old block's name is that of a new one too
  pub own_kept : (next : List ℕ) → IsDivision t rows next → (at : ℕ) → at < size_of t → slice_index blocks at ≡ at → slice_index next at ≡ at
  own_kept next d at h own =
      let low = d.low at h in
      let within : slice_index next at < size_of t = omega (arith, low, h) in
      let same = one_block (slice_index next at) at within h (d.key at h) in
      let old = g.low (slice_index next at) within in
      omega (arith, low, same, own, old)

-- the same steps in another order, each once or more
pub steps_moved : (p : ℕ) (m : Moves) (blocks next : List ℕ) (words : List Word) (at : ℕ) (xs ys : List Step) → ((step : Step) → Contains xs step → Contains ys step) → ((step : Step) → Contains ys step → Contains xs step)
    → AreSteps p m blocks next words at xs → AreSteps p m blocks next words at ys
steps_moved p m blocks next words at xs ys there back a = record {
  right = λ k d h. All-contains (IsStep p m blocks words) xs _ a.right (back _ (All-contains_itself ys k d h));
  whole = λ x y l n fx fy z. any_moves (IsStepFor p m words x y) xs ys there (a.whole x y l n fx fy z);
}
