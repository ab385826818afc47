-- What is left of an automaton, its rows one by one.
use Rattle.std.proofs.Common.{◌≡◌, ◌≢◌, ◌<◌, ◌≤◌, ◌+◌, ◌==◌, ℕ, ◌++◌, List, [], ◌∷◌, length, length-append, inl, inr, sym, ◌∙◌, ap, subst, arith, Bool, false}
use Rattle.std.specs.Prelude.{slice_index}
use Rattle.std.proofs.lemmas.Bool.{cases_Bool, eqb-true}
use Rattle.std.proofs.lemmas.List.{get_or_append_left, get_or_at}
use Rattle.diagrams.specs.declared.top.Id.{Id}
use Rattle.diagrams.specs.Eval.{Diagrams, eval, id_at, letter_truth}
use Rattle.diagrams.specs.Live.{Keeps, IsLive}
use Rattle.diagrams.specs.Transformed.{Transforms, IsTableItem}
use Rattle.diagrams.proofs.Meaning.{eval-lasts, means_lasts}
use Rattle.automata.specs.Table.{Table, size_of, mark_of, row_of, Fits, moves_of}
use Rattle.automata.proofs.Lasts.{fits_lasts}
use Rattle.game.specs.Kinds.{IsLeftOf}
use Rattle.arena.specs.Numbered.{live_below, AreNumbers}
use Rattle.arena.specs.Left.{ArenaTable, is_goal_at, locations_of, FitsArena, IsLeftRow, AreLeft}
use Rattle.products.proofs.EndLemmas.{constant_row}
use Rattle.arena.proofs.NumberedLemmas.{live_less, live_or_not, live_next, live_stays, live_at, below_or_last, left_by_table}

left_row_from : (s n after : Diagrams) (table : List ℕ) (row id : Id) (mark own : ℕ) → Keeps s n → IsLive s row → IsLeftRow n after table row mark own id → IsLeftRow s after table row mark own id
left_row_from s n after table row id mark own k live r =
    record { rests = r.rests; goes = λ e. let m = r.goes e in record { live = m.live; value = λ a. m.value a ∙ ap (slice_index table) (eval-lasts s n k.was k.now k.extends row live a) } }

left_row_stays : (s n after : Diagrams) (table : List ℕ) (row id : Id) (mark own : ℕ) → Keeps n after → IsLeftRow s n table row mark own id → IsLeftRow s after table row mark own id
left_row_stays s n after table row id mark own k r =
    record { rests = λ e. means_lasts n after k id (λ _. own) (r.rests e); goes = λ e. means_lasts n after k id (λ a. slice_index table (eval s row a)) (r.goes e) }

-- a row that is led to the table's items
pub left_transformed : (s n : Diagrams) (table : List ℕ) (row id : Id) (mark own : ℕ) → mark ≢ 1 → Transforms s n (IsTableItem table) row id → IsLeftRow s n table row mark own id
left_transformed s n table row id mark own d t = record {
  rests = λ e. absurd (d (eqb-true mark 1 e));
  goes = λ e. record { live = t.live; value = t.value };
}

-- no location yet
pub left_none : (s : Diagrams) (t : Table) (table : List ℕ) (goals broken : List Bool) (rows : List Id) → goals ≡ [] → broken ≡ [] → rows ≡ [] → AreLeft s s t table goals broken rows 0
left_none s t table goals broken rows eg eb er = record {
  goals_count = ap length eg;
  broken_count = ap length eb;
  rows_count = ap length er;
  goal = λ at h. absurd (omega arith);
  broke = λ at h. absurd (omega arith);
  row = λ at h. absurd (omega arith);
}

-- one more location that is left
pub left_more : (s n after : Diagrams) (t : Table) (table xs : List ℕ) (goals broken : List Bool) (rows : List Id) (at mark own : ℕ) (row id : Id) → Keeps s n → Keeps n after → Fits s t → at < size_of t
    → AreLeft s n t table goals broken rows at → mark ≡ mark_of t at → row ≡ row_of t at → xs ≡ table → own ≡ length rows → mark < 3 → IsLeftRow n after xs row mark own id
    → AreLeft s after t table (goals ++ (mark == 1) ∷ []) (broken ++ (mark == 2) ∷ []) (rows ++ id ∷ []) (at + 1)
left_more s n after t table xs goals broken rows at mark own row id k grows fits h w em er ex eo low made =
    let m = mark_of t in
    let gc = w.goals_count in
    let bc = w.broken_count in
    let rc = w.rows_count in
    let none : Id = record { 0 = 0 } in
    let l : m at < 3 = subst (λ z. z < 3) em low in
    let z : IsLeftRow s after table (row_of t at) (m at) (live_below m at) id =
    left_row_from s n after table (row_of t at) id (m at) (live_below m at) k (fits at h).live
    (subst (λ q. IsLeftRow n after table (row_of t at) (m at) q id) (eo ∙ rc)
    (subst (λ q. IsLeftRow n after table (row_of t at) q own id) em
    (subst (λ i. IsLeftRow n after table i mark own id) er (subst (λ ys. IsLeftRow n after ys row mark own id) ex made)))) in
    record {
      goals_count = length-append goals ((mark == 1) ∷ []) ∙ live_next m at (length goals) gc l;
      broken_count = length-append broken ((mark == 2) ∷ []) ∙ live_next m at (length broken) bc l;
      rows_count = length-append rows (id ∷ []) ∙ live_next m at (length rows) rc l;
      goal = λ i j low'. elim (below_or_last i at j) [
        | inl b ↦ let q = live_less m i at low' b in get_or_append_left goals ((mark == 1) ∷ []) false (live_below m i) (omega arith) ∙ w.goal i b low'
        | inr e ↦ get_or_at goals (mark == 1) [] false (live_below m i) (gc ∙ ap (live_below m) (sym e)) ∙ ap (λ y. y == 1) (em ∙ ap m (sym e))
      ];
      broke = λ i j low'. elim (below_or_last i at j) [
        | inl b ↦ let q = live_less m i at low' b in get_or_append_left broken ((mark == 2) ∷ []) false (live_below m i) (omega arith) ∙ w.broke i b low'
        | inr e ↦ get_or_at broken (mark == 2) [] false (live_below m i) (bc ∙ ap (live_below m) (sym e)) ∙ ap (λ y. y == 2) (em ∙ ap m (sym e))
      ];
      row = λ i j low'. elim (below_or_last i at j) [
        | inl b ↦ let q = live_less m i at low' b in
            subst (IsLeftRow s after table (row_of t i) (m i) (live_below m i)) (sym (get_or_append_left rows (id ∷ []) none (live_below m i) (omega arith)))
            (left_row_stays s n after table (row_of t i) (id_at rows (live_below m i)) (m i) (live_below m i) grows (w.row i b low'))
        | inr e ↦ subst (IsLeftRow s after table (row_of t i) (m i) (live_below m i)) (sym (get_or_at rows id [] none (live_below m i) (rc ∙ ap (live_below m) (sym e))))
            (subst (λ x. IsLeftRow s after table (row_of t x) (m x) (live_below m x) id) (sym e) z)
      ];
    }

-- one more that isn't
pub left_less : (s n : Diagrams) (t : Table) (table : List ℕ) (goals broken : List Bool) (rows : List Id) (at mark : ℕ) → AreLeft s n t table goals broken rows at → mark ≡ mark_of t at → 3 ≤ mark
    → AreLeft s n t table goals broken rows (at + 1)
left_less s n t table goals broken rows at mark w em high =
    let m = mark_of t in
    let h : 3 ≤ m at = subst (λ z. 3 ≤ z) em high in
    let old : (i : ℕ) → i < at + 1 → m i < 3 → i < at = λ i j low. elim (below_or_last i at j) [ inl b ↦ b | inr e ↦ let q : m at < 3 = subst (λ z. m z < 3) e low in absurd (omega arith) ] in
    record {
      goals_count = live_stays m at (length goals) w.goals_count h;
      broken_count = live_stays m at (length broken) w.broken_count h;
      rows_count = live_stays m at (length rows) w.rows_count h;
      goal = λ i j low. w.goal i (old i j low) low;
      broke = λ i j low. w.broke i (old i j low) low;
      row = λ i j low. w.row i (old i j low) low;
    }

-- items of the table are numbers of locations, or how many there are
item_small : (mark : ℕ → ℕ) (size : ℕ) (table : List ℕ) (q : ℕ) → AreNumbers mark size table → q < size → slice_index table q < live_below mark size + 1
item_small mark size table q r h =
    elim (live_or_not mark q) [
      | inl l ↦ let e = r.live q h l in let b = live_less mark q size l h in omega arith
      | inr l ↦ let e = r.other q h l in omega arith
    ]

-- the arena fits the store
pub left_fits : (s n : Diagrams) (t : Table) (table : List ℕ) (arena : ArenaTable) → Keeps s n → Fits s t → AreNumbers (mark_of t) (size_of t) table → AreLeft s n t table arena.goals arena.broken arena.rows (size_of t)
    → FitsArena n arena
left_fits s n t table arena k fits numbers w =
    let m = mark_of t in
    let rc = w.rows_count in
    let props = k.extends.props in
    record {
      rows = λ i h.
          let x = live_at m (size_of t) i (omega arith) in
          let r : IsLeftRow s n table (row_of t x.at) (m x.at) i (id_at arena.rows i) = subst (λ q. IsLeftRow s n table (row_of t x.at) (m x.at) q (id_at arena.rows q)) x.number (w.row x.at x.within x.live) in
          elim (cases_Bool (m x.at == 1)) [
            | inl e ↦ constant_row n (id_at arena.rows i) i (length arena.rows + 1) (r.rests e) (omega arith)
            | inr e ↦ let g = r.goes e in record {
              live = g.live;
              letters = λ a b same. g.value a ∙ ap (slice_index table) ((fits x.at x.within).letters a b (λ v l. same v (omega arith))) ∙ sym (g.value b);
              targets = λ a.
                  let q = item_small m (size_of t) table (eval s (row_of t x.at) a) numbers ((fits x.at x.within).targets a) in
                  subst (λ z. z < length arena.rows + 1) (sym (g.value a)) (omega arith);
            }
          ];
      rests = λ i h e a.
          let x = live_at m (size_of t) i (omega arith) in
          let r : IsLeftRow s n table (row_of t x.at) (m x.at) i (id_at arena.rows i) = subst (λ q. IsLeftRow s n table (row_of t x.at) (m x.at) q (id_at arena.rows q)) x.number (w.row x.at x.within x.live) in
          let y : is_goal_at arena i ≡ (m x.at == 1) = ap (is_goal_at arena) (sym x.number) ∙ w.goal x.at x.within x.live in
          (r.rests (sym y ∙ e)).value a;
    }

-- it is left of the automaton
pub left_is : (s n : Diagrams) (t : Table) (table : List ℕ) (arena : ArenaTable) → Keeps s n → Fits s t → AreNumbers (mark_of t) (size_of t) table → AreLeft s n t table arena.goals arena.broken arena.rows (size_of t)
    → t.first ≡ 0 → t.first < size_of t → mark_of t 0 < 3 → IsLeftOf n.props (moves_of n t) (locations_of n arena)
left_is s n t table arena k fits numbers w first within live =
    let m = mark_of t in
    let props = k.extends.props in
    let fits' = fits_lasts s n k t fits in
    left_by_table n.props (moves_of n t) table (locations_of n arena)
    (record { first = within; next = λ at a h l. (fits' at h).targets (letter_truth n.props a) })
    first live numbers
    (record {
      size = w.rows_count;
      goal = w.goal;
      broken = w.broke;
      next = λ at a h l no_goal b. ((w.row at h l).goes no_goal).value (letter_truth n.props a) ∙ ap (slice_index table) (sym (eval-lasts s n k.was k.now k.extends (row_of t at) (fits at h).live (letter_truth n.props a)));
    })
