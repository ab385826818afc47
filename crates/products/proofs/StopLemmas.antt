-- An automaton that stays at its ends is the join with one of one location.
use Rattle.std.proofs.Common.{◌≡◌, ◌<◌, ◌+◌, ◌++◌, ℕ, List, [], ◌∷◌, true, false, Bool, sym, ◌∙◌, ap, subst, arith, inl, inr, length, length-append, max}
use Rattle.std.specs.Prelude.{slice_index}
use Rattle.std.proofs.lemmas.Bool.{cases_Bool}
use Rattle.std.proofs.lemmas.List.{get_or_append_left, get_or_at}
use Rattle.diagrams.specs.declared.top.Id.{Id}
use Rattle.diagrams.specs.Eval.{Diagrams, eval, id_at, letter_truth}
use Rattle.diagrams.specs.Live.{Keeps}
use Rattle.diagrams.proofs.Meaning.{means_lasts}
use Rattle.automata.specs.Moves.{Moves}
use Rattle.automata.specs.Table.{Table, size_of, mark_of, row_of, Fits, IsRow, moves_of}
use Rattle.products.specs.Joins.{is_end, IsJoin, IsStopped}
use Rattle.products.specs.Stops.{IsIdle, IsStoppedRow, AreStopped}
use Rattle.automata.proofs.Lasts.{fits_lasts}
use Rattle.products.proofs.EndLemmas.{constant_row}
use Rattle.products.proofs.WatchingLemmas.{below_or_last}

stopped_row_lasts : (s n : Diagrams) (t : Table) (at : ℕ) (id : Id) → Keeps s n → IsStoppedRow s t at id → IsStoppedRow n t at id
stopped_row_lasts s n t at id k r = record { ends = λ e. means_lasts s n k id (λ _. at) (r.ends e); goes = r.goes }

-- no location yet
pub stopped_none : (s : Diagrams) (t : Table) (marks : List ℕ) (rows : List Id) → marks ≡ [] → rows ≡ [] → AreStopped s t marks rows 0
stopped_none s t marks rows em er = record {
  marks_count = ap length em;
  rows_count = ap length er;
  mark = λ at h. absurd (omega arith);
  row = λ at h. absurd (omega arith);
}

-- one more location
pub stopped_more : (s n : Diagrams) (t : Table) (marks : List ℕ) (rows : List Id) (at mark : ℕ) (id : Id) → Keeps s n → AreStopped s t marks rows at → mark ≡ mark_of t at → IsStoppedRow n t at id
    → AreStopped n t (marks ++ mark ∷ []) (rows ++ id ∷ []) (at + 1)
stopped_more s n t marks rows at mark id k w em r =
    let mc = w.marks_count in
    let rc = w.rows_count in
    let none : Id = record { 0 = 0 } in
    record {
      marks_count = let l : length (marks ++ mark ∷ []) ≡ length marks + 1 = length-append marks (mark ∷ []) in omega arith;
      rows_count = let l : length (rows ++ id ∷ []) ≡ length rows + 1 = length-append rows (id ∷ []) in omega arith;
      mark = λ i j. elim (below_or_last i at j) [
        | inl l ↦ get_or_append_left marks (mark ∷ []) 0 i (omega arith) ∙ w.mark i l
        | inr e ↦ get_or_at marks mark [] 0 i (mc ∙ sym e) ∙ em ∙ ap (mark_of t) (sym e)
      ];
      row = λ i j. elim (below_or_last i at j) [
        | inl l ↦ subst (IsStoppedRow n t i) (sym (get_or_append_left rows (id ∷ []) none i (omega arith))) (stopped_row_lasts s n t i (id_at rows i) k (w.row i l))
        | inr e ↦ subst (IsStoppedRow n t i) (sym (get_or_at rows id [] none i (rc ∙ sym e))) (subst (λ x. IsStoppedRow n t x id) (sym e) r)
      ];
    }

-- what was made of all locations
pub record IsStopMade (s : Diagrams) (t u : Table) (marks : List ℕ) (rows : List Id) : Type 0 where
  pub fits : Fits s t
  pub made : AreStopped s t marks rows (size_of t)
  pub first : u.first ≡ t.first
  pub all_marks : u.marks ≡ marks
  pub all_rows : u.rows ≡ rows

made_row : (s : Diagrams) (t u : Table) (marks : List ℕ) (rows : List Id) → IsStopMade s t u marks rows → (at : ℕ) → at < size_of t → IsStoppedRow s t at (row_of u at)
made_row s t u marks rows m at h = subst (IsStoppedRow s t at) (sym (ap (λ rs. id_at rs at) m.all_rows)) (m.made.row at h)

pub stop_fits : (s : Diagrams) (t u : Table) (marks : List ℕ) (rows : List Id) → IsStopMade s t u marks rows → Fits s u
stop_fits s t u marks rows m at h =
    let size : size_of u ≡ size_of t = ap length m.all_rows ∙ m.made.rows_count in
    let l : at < size_of t = omega arith in
    let r = made_row s t u marks rows m at l in
    elim (cases_Bool (is_end (mark_of t at))) [
      | inl e ↦ constant_row s (row_of u at) at (size_of u) (r.ends e) h
      | inr e ↦ subst (λ z. IsRow s z (row_of u at)) (sym size) (subst (IsRow s (size_of t)) (sym (r.goes e)) (m.fits at l))
    ]

pub stop_made : (s : Diagrams) (t u : Table) (marks : List ℕ) (rows : List Id) → IsStopMade s t u marks rows → IsStopped s.props (moves_of s t) (moves_of s u)
stop_made s t u marks rows m = record {
  size = ap length m.all_rows ∙ m.made.rows_count;
  first = m.first;
  mark = λ at h. ap (λ ms. slice_index ms at) m.all_marks ∙ m.made.mark at h;
  goes = λ at x h k e. ap (λ i. eval s i (letter_truth s.props x)) ((made_row s t u marks rows m at h).goes e);
  stays = λ at x h k e. ((made_row s t u marks rows m at h).ends e).value (letter_truth s.props x);
}

-- joined with an automaton of one location with the mark 0 it is the join
idle_join : (s : Diagrams) (a b u : Table) → Fits s a → Fits s b → IsIdle a → a.first < size_of a → b.first < size_of b → IsStopped s.props (moves_of s b) (moves_of s u) → IsJoin s.props (moves_of s a) (moves_of s b) (moves_of s u)
idle_join s a b u fa fb idle ha hb i =
    let one = idle.size in
    let size : size_of u ≡ size_of b = i.size in
    let first : u.first ≡ b.first = i.first in
    let within : (at : ℕ) → at < size_of u → at < size_of b = λ at h. omega arith in
    let end_is : (at : ℕ) (t : Bool) → at < size_of u → is_end (mark_of u at) ≡ t → is_end (mark_of b at) ≡ t = λ at t h e. ap is_end (sym (i.mark at (within at h))) ∙ e in
    record {
      left = λ _. 0;
      right = λ at. at;
      closed = record {
        first = omega arith;
        next = λ at x h k. elim (cases_Bool (is_end (mark_of b at))) [
          | inl e ↦ subst (λ z. z < size_of u) (sym (i.stays at x (within at h) k e)) h
          | inr e ↦ subst (λ z. z < size_of u) (sym (i.goes at x (within at h) k e)) (let t = (fb at (within at h)).targets (letter_truth s.props x) in omega arith)
        ];
      };
      first_left = omega arith;
      first_right = i.first;
      mark = λ at h. let e : mark_of u at ≡ mark_of b at = i.mark at (within at h) in let zero = idle.mark in omega arith;
      goes_left = λ at x h k e. let t = (fa 0 (omega arith)).targets (letter_truth s.props x) in omega arith;
      goes_right = λ at x h k e. i.goes at x (within at h) k (end_is at false h e);
      stays = λ at x h k e. i.stays at x (within at h) k (end_is at true h e);
    }

-- the same in a store that grew
pub idle_joins : (s n : Diagrams) (a b u : Table) → Keeps s n → Fits s a → Fits s b → IsIdle a → a.first < size_of a → b.first < size_of b → IsStopped n.props (moves_of n b) (moves_of n u)
    → IsJoin n.props (moves_of n a) (moves_of n b) (moves_of n u)
idle_joins s n a b u k fa fb idle ha hb i = idle_join n a b u (fits_lasts s n k a fa) (fits_lasts s n k b fb) idle ha hb i

-- a join may be read the other way round
pub join_turned : (p : ℕ) (a b j : Moves) → IsJoin p a b j → IsJoin p b a j
join_turned p a b j i = record {
  left = i.right;
  right = i.left;
  closed = i.closed;
  first_left = i.first_right;
  first_right = i.first_left;
  mark = λ at h. let q : max (a.mark (i.left at)) (b.mark (i.right at)) ≡ max (b.mark (i.right at)) (a.mark (i.left at)) = omega arith in i.mark at h ∙ q;
  goes_left = i.goes_right;
  goes_right = i.goes_left;
  stays = i.stays;
}
