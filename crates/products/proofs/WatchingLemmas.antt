-- Making a watching automaton.
use Rattle.std.proofs.Common.{◌≡◌, ◌<◌, ◌+◌, ◌⊎◌, ◌++◌, ◌==◌, ℕ, List, [], ◌∷◌, sym, ◌∙◌, ap, subst, arith, inl, inr, length, length-append, if◌then◌else◌}
use Rattle.std.specs.Prelude.{slice_index}
use Rattle.std.proofs.lemmas.Bool.{cases_Bool, cases_lt}
use Rattle.std.proofs.lemmas.List.{get_or_append_left, get_or_at}
use Rattle.diagrams.specs.declared.top.Id.{Id}
use Rattle.diagrams.specs.Tree.{Assignment}
use Rattle.diagrams.specs.Eval.{Diagrams, eval, id_at, letter_truth}
use Rattle.diagrams.specs.Live.{Keeps, Means}
use Rattle.diagrams.specs.Transformed.{Transforms, IsTableItem, item_value}
use Rattle.diagrams.proofs.Meaning.{eval-lasts, means_lasts, Keeps_trans}
use Rattle.automata.specs.Table.{Table, size_of, mark_of, row_of, Fits, IsRow, moves_of}
use Rattle.products.specs.Watch.{IsWatching}
use Rattle.products.specs.Watching.{IsKeptOr, AreWatched}
use Rattle.products.proofs.EndLemmas.{constant_row}

-- what a kept location or the sink is
abbrev pub kept_or_sink : Table → ℕ → ℕ → ℕ
kept_or_sink t sink at = if mark_of t at == 1 then at else sink

none : Id
none = record { 0 = 0 }

pub below_or_last : (i n : ℕ) → i < n + 1 → (i < n) ⊎ (i ≡ n)
below_or_last i n h = elim (cases_lt i n) [ inl l ↦ inl l | inr l ↦ inr (omega arith) ]

-- no location yet
pub watched_none : (s : Diagrams) (t : Table) (table marks : List ℕ) (rows : List Id) → marks ≡ [] → rows ≡ [] → AreWatched s s t table marks rows 0
watched_none s t table marks rows em er = record {
  marks_count = ap length em;
  rows_count = ap length er;
  mark = λ at h. absurd (omega arith);
  row = λ at h. absurd (omega arith);
}

pub watched_more : (s n after : Diagrams) (t : Table) (table marks : List ℕ) (rows : List Id) (at mark : ℕ) (id : Id) → Keeps s n → Keeps n after → Fits s t → at < size_of t
    → AreWatched s n t table marks rows at → mark ≡ 0 → Means after id (item_value n table (row_of t at)) → AreWatched s after t table (marks ++ mark ∷ []) (rows ++ id ∷ []) (at + 1)
watched_more s n after t table marks rows at mark id k grows fits h w zero m =
    let mc = w.marks_count in
    let rc = w.rows_count in
    record {
      marks_count = let l : length (marks ++ mark ∷ []) ≡ length marks + 1 = length-append marks (mark ∷ []) in omega arith;
      rows_count = let l : length (rows ++ id ∷ []) ≡ length rows + 1 = length-append rows (id ∷ []) in omega arith;
      mark = λ i j. elim (below_or_last i at j) [
        | inl l ↦ get_or_append_left marks (mark ∷ []) 0 i (omega arith) ∙ w.mark i l
        | inr e ↦ get_or_at marks mark [] 0 i (mc ∙ sym e) ∙ zero
      ];
      row = λ i j. elim (below_or_last i at j) [
        | inl l ↦ subst (λ x. Means after x (λ a. slice_index table (eval s (row_of t i) a))) (sym (get_or_append_left rows (id ∷ []) (record { 0 = 0 }) i (omega arith)))
            (means_lasts n after grows (id_at rows i) (λ a. slice_index table (eval s (row_of t i) a)) (w.row i l))
        | inr e ↦
            let z : Means after id (λ a. slice_index table (eval s (row_of t at) a)) =
            record { live = m.live; value = λ a. m.value a ∙ ap (slice_index table) (eval-lasts s n k.was k.now k.extends (row_of t at) (fits at h).live a) } in
            let y : Means after id (λ a. slice_index table (eval s (row_of t i) a)) = subst (λ x. Means after id (λ a. slice_index table (eval s (row_of t x) a))) (sym e) z in
            subst (λ x. Means after x (λ a. slice_index table (eval s (row_of t i) a))) (sym (get_or_at rows id [] (record { 0 = 0 }) i (rc ∙ sym e))) y
      ];
    }

-- rows of a watching automaton after the others
pub record IsWatchMade (s e : Diagrams) (t u : Table) (table marks : List ℕ) (rows : List Id) (begin sink : Id) (v : ℕ) : Type 0 where
  pub keeps : Keeps s e
  pub fits : Fits s t
  pub some : t.first < size_of t
  pub items : IsKeptOr t (size_of t + 1) table (size_of t)
  pub watched : AreWatched s e t table marks rows (size_of t)
  pub begins : Means e begin (λ a. slice_index table (eval s (row_of t t.first) a))
  pub stays : Means e sink (λ _. size_of t + 1)
  pub first : u.first ≡ size_of t
  pub all_marks : u.marks ≡ (marks ++ 0 ∷ []) ++ v ∷ []
  pub all_rows : u.rows ≡ (rows ++ begin ∷ []) ++ sink ∷ []

-- what one of its rows gives
row_value : (s e : Diagrams) (t u : Table) (table marks : List ℕ) (rows : List Id) (begin sink : Id) (v at : ℕ) (id : Id) → IsWatchMade s e t u table marks rows begin sink v → at < size_of t
    → Means e id (λ a. slice_index table (eval s (row_of t at) a)) → (a : Assignment) → eval e id a ≡ kept_or_sink t (size_of t + 1) (eval e (row_of t at) a)
row_value s e t u table marks rows begin sink v at id m h row a =
    row.value a ∙ m.items.item (eval s (row_of t at) a) ((m.fits at h).targets a)
    ∙ ap (kept_or_sink t (size_of t + 1)) (sym (eval-lasts s e m.keeps.was m.keeps.now m.keeps.extends (row_of t at) (m.fits at h).live a))

-- the rows, by location
old_row : (s e : Diagrams) (t u : Table) (table marks : List ℕ) (rows : List Id) (begin sink : Id) (v at : ℕ) → IsWatchMade s e t u table marks rows begin sink v → at < size_of t → id_at u.rows at ≡ id_at rows at
old_row s e t u table marks rows begin sink v at m h =
    let rc = m.watched.rows_count in
    let l : length (rows ++ begin ∷ []) ≡ length rows + 1 = length-append rows (begin ∷ []) in
    ap (λ rs. id_at rs at) m.all_rows ∙ get_or_append_left (rows ++ begin ∷ []) (sink ∷ []) (record { 0 = 0 }) at (omega arith) ∙ get_or_append_left rows (begin ∷ []) (record { 0 = 0 }) at (omega arith)

begin_row : (s e : Diagrams) (t u : Table) (table marks : List ℕ) (rows : List Id) (begin sink : Id) (v : ℕ) → IsWatchMade s e t u table marks rows begin sink v → id_at u.rows (size_of t) ≡ begin
begin_row s e t u table marks rows begin sink v m =
    let rc = m.watched.rows_count in
    let l : length (rows ++ begin ∷ []) ≡ length rows + 1 = length-append rows (begin ∷ []) in
    ap (λ rs. id_at rs (size_of t)) m.all_rows ∙ get_or_append_left (rows ++ begin ∷ []) (sink ∷ []) (record { 0 = 0 }) (size_of t) (omega arith) ∙ get_or_at rows begin [] (record { 0 = 0 }) (size_of t) rc

sink_row : (s e : Diagrams) (t u : Table) (table marks : List ℕ) (rows : List Id) (begin sink : Id) (v : ℕ) → IsWatchMade s e t u table marks rows begin sink v → id_at u.rows (size_of t + 1) ≡ sink
sink_row s e t u table marks rows begin sink v m =
    let rc = m.watched.rows_count in
    let l : length (rows ++ begin ∷ []) ≡ length rows + 1 = length-append rows (begin ∷ []) in
    ap (λ rs. id_at rs (size_of t + 1)) m.all_rows ∙ get_or_at (rows ++ begin ∷ []) sink [] (record { 0 = 0 }) (size_of t + 1) (omega arith)

made_size : (s e : Diagrams) (t u : Table) (table marks : List ℕ) (rows : List Id) (begin sink : Id) (v : ℕ) → IsWatchMade s e t u table marks rows begin sink v → size_of u ≡ size_of t + 2
made_size s e t u table marks rows begin sink v m =
    let rc = m.watched.rows_count in
    let l : length (rows ++ begin ∷ []) ≡ length rows + 1 = length-append rows (begin ∷ []) in
    let k : length ((rows ++ begin ∷ []) ++ sink ∷ []) ≡ length (rows ++ begin ∷ []) + 1 = length-append (rows ++ begin ∷ []) (sink ∷ []) in
    let f : size_of u ≡ length ((rows ++ begin ∷ []) ++ sink ∷ []) = ap length m.all_rows in
    omega arith

-- it watches the automaton
pub watch_made : (s e : Diagrams) (t u : Table) (table marks : List ℕ) (rows : List Id) (begin sink : Id) (v : ℕ) → IsWatchMade s e t u table marks rows begin sink v
    → IsWatching e.props (moves_of e t) (moves_of e u) v
watch_made s e t u table marks rows begin sink v m =
    let mc = m.watched.marks_count in
    let l : length (marks ++ 0 ∷ []) ≡ length marks + 1 = length-append marks (0 ∷ []) in
    record {
      size = made_size s e t u table marks rows begin sink v m;
      first = m.first;
      begins = λ a h. ap (λ i. eval e i (letter_truth e.props a)) (begin_row s e t u table marks rows begin sink v m)
          ∙ row_value s e t u table marks rows begin sink v t.first begin m m.some m.begins (letter_truth e.props a);
      next = λ at a h k. ap (λ i. eval e i (letter_truth e.props a)) (old_row s e t u table marks rows begin sink v at m h)
          ∙ row_value s e t u table marks rows begin sink v at (id_at rows at) m h (m.watched.row at h) (letter_truth e.props a);
      stays = λ a h. ap (λ i. eval e i (letter_truth e.props a)) (sink_row s e t u table marks rows begin sink v m) ∙ m.stays.value (letter_truth e.props a);
      kept = λ at h. ap (λ ms. slice_index ms at) m.all_marks ∙ get_or_append_left (marks ++ 0 ∷ []) (v ∷ []) 0 at (omega arith)
          ∙ (elim (below_or_last at (size_of t) h) [
            | inl j ↦ get_or_append_left marks (0 ∷ []) 0 at (omega arith) ∙ m.watched.mark at j
            | inr q ↦ get_or_at marks 0 [] 0 at (mc ∙ sym q)
          ]);
      violated = ap (λ ms. slice_index ms (size_of t + 1)) m.all_marks ∙ get_or_at (marks ++ 0 ∷ []) v [] 0 (size_of t + 1) (omega arith);
    }

-- it fits the store
kept_small : (t : Table) (sink q : ℕ) → q < sink → kept_or_sink t sink q < sink + 1
kept_small t sink q h = elim (cases_Bool (mark_of t q == 1)) [
  | inl e ↦ subst (λ b. (if b then q else sink) < sink + 1) (sym e) (omega arith)
  | inr e ↦ subst (λ b. (if b then q else sink) < sink + 1) (sym e) (omega arith)
]

watch_row_fits : (s e : Diagrams) (t u : Table) (table marks : List ℕ) (rows : List Id) (begin sink : Id) (v at : ℕ) (id : Id) → IsWatchMade s e t u table marks rows begin sink v → at < size_of t
    → Means e id (λ a. slice_index table (eval s (row_of t at) a)) → IsRow e (size_of u) id
watch_row_fits s e t u table marks rows begin sink v at id m h row =
    let size = made_size s e t u table marks rows begin sink v m in
    let props = m.keeps.extends.props in
    record {
      live = row.live;
      letters = λ a b same. row.value a ∙ ap (slice_index table) ((m.fits at h).letters a b (λ w l. same w (subst (λ p. w < p) (sym props) l))) ∙ sym (row.value b);
      targets = λ a.
          let q : eval s (row_of t at) a < size_of t = (m.fits at h).targets a in
          let z = kept_small t (size_of t + 1) (eval s (row_of t at) a) (omega arith) in
          subst (λ x. x < size_of u) (sym (row.value a ∙ m.items.item (eval s (row_of t at) a) q)) (omega arith);
    }

pub watch_fits : (s e : Diagrams) (t u : Table) (table marks : List ℕ) (rows : List Id) (begin sink : Id) (v : ℕ) → IsWatchMade s e t u table marks rows begin sink v → Fits e u
watch_fits s e t u table marks rows begin sink v m at h =
    let size = made_size s e t u table marks rows begin sink v m in
    elim (cases_lt at (size_of t)) [
      | inl l ↦ subst (IsRow e (size_of u)) (sym (old_row s e t u table marks rows begin sink v at m l)) (watch_row_fits s e t u table marks rows begin sink v at (id_at rows at) m l (m.watched.row at l))
      | inr l ↦ elim (cases_lt at (size_of t + 1)) [
        | inl k ↦
            let q : size_of t ≡ at = omega arith in
            subst (λ x. IsRow e (size_of u) (id_at u.rows x)) q (subst (IsRow e (size_of u)) (sym (begin_row s e t u table marks rows begin sink v m)) (watch_row_fits s e t u table marks rows begin sink v t.first begin m m.some m.begins))
        | inr k ↦
            let q : size_of t + 1 ≡ at = omega arith in
            subst (λ x. IsRow e (size_of u) (id_at u.rows x)) q (subst (IsRow e (size_of u)) (sym (sink_row s e t u table marks rows begin sink v m)) (constant_row e sink (size_of t + 1) (size_of u) m.stays (omega arith)))
      ]
    ]

-- the rows stay right as the store grows
watched_lasts : (s n e : Diagrams) (t : Table) (table marks : List ℕ) (rows : List Id) (count : ℕ) → Keeps n e → AreWatched s n t table marks rows count → AreWatched s e t table marks rows count
watched_lasts s n e t table marks rows count k w =
    record {
      marks_count = w.marks_count;
      rows_count = w.rows_count;
      mark = w.mark;
      row = λ at h. means_lasts n e k (id_at rows at) (λ a. slice_index table (eval s (row_of t at) a)) (w.row at h);
    }

-- the table has room for the targets of a row
pub table_fits : (s n : Diagrams) (t : Table) (table xs : List ℕ) (at : ℕ) (f : Id) → Keeps s n → Fits s t → at < size_of t → length table ≡ size_of t → xs ≡ table → f ≡ row_of t at
    → (a : Assignment) → eval n f a < length xs
table_fits s n t table xs at f k fits h size ex ef a =
    let q : eval s (row_of t at) a < size_of t = (fits at h).targets a in
    let e : eval n f a ≡ eval s (row_of t at) a = ap (λ i. eval n i a) ef ∙ eval-lasts s n k.was k.now k.extends (row_of t at) (fits at h).live a in
    let l : length xs ≡ size_of t = ap length ex ∙ size in
    omega arith

pub means_same : (n after : Diagrams) (id f g : Id) (xs table : List ℕ) → xs ≡ table → f ≡ g → Transforms n after (IsTableItem xs) f id → Means after id (item_value n table g)
means_same n after id f g xs table ex ef m =
    record { live = m.live; value = λ a. m.value a ∙ ap (λ ys. slice_index ys (eval n f a)) ex ∙ ap (λ i. slice_index table (eval n i a)) ef }

-- all that was made
pub watch_steps : (s n n2 e : Diagrams) (t u : Table) (table xs marks : List ℕ) (rows : List Id) (begin sink f : Id) (v size at k first : ℕ) → Keeps s n → Keeps n n2 → Keeps n2 e → Fits s t
    → first ≡ t.first → first < size_of t → IsKeptOr t k table (size_of t) → k ≡ size + 1 → size ≡ size_of t → AreWatched s n t table marks rows at → at ≡ size_of t
    → Transforms n n2 (IsTableItem xs) f begin → xs ≡ table → f ≡ row_of t first → Means e sink (λ _. k) → u.first ≡ size → u.marks ≡ (marks ++ 0 ∷ []) ++ v ∷ [] → u.rows ≡ (rows ++ begin ∷ []) ++ sink ∷ []
    → IsWatchMade s e t u table marks rows begin sink v
watch_steps s n n2 e t u table xs marks rows begin sink f v size at k first k0 k1 k2 fits ef hf kept ek es w ea m ex er stay eu em ew =
    let q : k ≡ size_of t + 1 = ek ∙ ap (λ z. z + 1) es in
    let some : t.first < size_of t = subst (λ z. z < size_of t) ef hf in
    let b = means_lasts n2 e k2 begin (item_value n table (row_of t t.first)) (means_same n n2 begin f (row_of t t.first) xs table ex (er ∙ ap (row_of t) ef) m) in
    record {
      keeps = Keeps_trans s n e k0 (Keeps_trans n n2 e k1 k2);
      fits = fits;
      some = some;
      items = subst (λ z. IsKeptOr t z table (size_of t)) q kept;
      watched = watched_lasts s n e t table marks rows (size_of t) (Keeps_trans n n2 e k1 k2) (subst (AreWatched s n t table marks rows) ea w);
      begins = record { live = b.live; value = λ a. b.value a ∙ ap (slice_index table) (eval-lasts s n k0.was k0.now k0.extends (row_of t t.first) (fits t.first some).live a) };
      stays = subst (λ z. Means e sink (λ _. z)) q stay;
      first = eu ∙ es;
      all_marks = em;
      all_rows = ew;
    }
