-- An automaton that ends at the goal fits the store.
use Rattle.std.proofs.Common.{◌≡◌, ◌<◌, ◌≤◌, ◌+◌, ◌++◌, ◌==◌, ℕ, List, [], ◌∷◌, sym, ◌∙◌, ap, subst, arith, inl, inr, length, length-append}
use Rattle.std.proofs.lemmas.Bool.{cases_Bool, cases_lt}
use Rattle.std.proofs.lemmas.List.{get_or_append_left, get_or_at}
use Rattle.diagrams.specs.declared.top.Id.{Id}
use Rattle.diagrams.specs.Eval.{Diagrams, id_at}
use Rattle.diagrams.specs.Live.{Means}
use Rattle.automata.specs.Table.{Table, size_of, mark_of, row_of, Fits, IsRow}
use Rattle.products.specs.Ends.{AreEnded}

-- a constant is a row
pub constant_row : (s : Diagrams) (id : Id) (x size : ℕ) → Means s id (λ _. x) → x < size → IsRow s size id
constant_row s id x size m h = record { live = m.live; letters = λ a b same. m.value a ∙ sym (m.value b); targets = λ a. subst (λ z. z < size) (sym (m.value a)) h }

-- a row of fewer locations is one of more
pub row_more : (s : Diagrams) (id : Id) (size more : ℕ) → IsRow s size id → size ≤ more → IsRow s more id
row_more s id size more r h = record { live = r.live; letters = r.letters; targets = λ a. let t = r.targets a in omega arith }

pub ended_fits : (s : Diagrams) (t u : Table) (past : Id) (marks : List ℕ) (rows : List Id) → Fits s t → Means s past (λ _. size_of t) → AreEnded t past marks rows (size_of t)
    → u.rows ≡ rows ++ past ∷ [] → Fits s u
ended_fits s t u past marks rows fits m e er at h =
    let size : size_of u ≡ size_of t + 1 = ap length er ∙ length-append rows (past ∷ []) ∙ ap (λ n. n + 1) e.rows_count in
    let row : id_at u.rows at ≡ id_at (rows ++ past ∷ []) at = ap (λ rs. id_at rs at) er in
    let none : Id = record { 0 = 0 } in
    let rc = e.rows_count in
    elim (cases_lt at (size_of t)) [
      | inl l ↦
          let old : id_at u.rows at ≡ id_at rows at = row ∙ get_or_append_left rows (past ∷ []) none at (omega arith) in
          elim (cases_Bool (mark_of t at == 1)) [
            | inl q ↦ subst (IsRow s (size_of u)) (sym (old ∙ e.stops at l q)) (constant_row s past (size_of t) (size_of u) m (omega arith))
            | inr q ↦ subst (IsRow s (size_of u)) (sym (old ∙ e.goes at l q)) (row_more s (row_of t at) (size_of t) (size_of u) (fits at l) (omega arith))
          ]
      | inr l ↦ subst (IsRow s (size_of u)) (sym (row ∙ get_or_at rows past [] none at (omega arith))) (constant_row s past (size_of t) (size_of u) m (omega arith))
    ]
