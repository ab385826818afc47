-- Rows and blocks that rounds of division go on from.
use Rattle.std.proofs.Common.{◌≡◌, ◌<◌, ◌≤◌, ◌+◌, ◌++◌, ◌⊎◌, ℕ, true, List, [], ◌∷◌, Option, Some, None, refl, sym, ◌∙◌, ap, arith, inl, inr, length, length-append, unwrap_or, if◌then◌else◌, map}
use Rattle.std.specs.Prelude.{slice_index}
use Rattle.std.specs.HashMap.{HashMap, get}
use Rattle.std.proofs.lemmas.Bool.{cases_Bool, and_parts, eqb-true}
use Rattle.std.proofs.lemmas.Option.{same_Some}
use Rattle.std.proofs.lemmas.List.{get_or_append_left, get_or_at, length-map, map-append}
use Rattle.diagrams.specs.declared.top.Id.{Id}
use Rattle.diagrams.specs.Eval.{Diagrams, eval, letter_truth, id_at}
use Rattle.diagrams.specs.Live.{IsLive, Keeps, Means}
use Rattle.diagrams.specs.Terminals.{AreTerminals}
use Rattle.diagrams.specs.Transformed.{Transforms, IsTableItem, item_value}
use Rattle.diagrams.proofs.Meaning.{eval-lasts, means_lasts}
use Rattle.automata.specs.Table.{Table, size_of, mark_of, row_of, IsRow, Fits}
use Rattle.automata.proofs.FindingLemmas.{place_cases}
use Rattle.automata.proofs.FoundLists.{contains_place}
use Rattle.automata.proofs.Letters.{spelt, spelt-less, spelt-truth}
use Rattle.dividing.specs.declared.divisions.Key.{Key}
use Rattle.dividing.specs.Divisions.{same_key, AreBlockRows, IsDivision, AreTargets, targets_at}
use Rattle.dividing.proofs.RowLemmas.{GoesByRows}

-- keys that are the same are equal
key_true : (x y : Key) → same_key x y ≡ true → x ≡ y
key_true x y e =
    let p = and_parts _ _ e in
    let mark : x.mark ≡ y.mark = eqb-true x.mark y.mark p.0 in
    let row : x.row.0 ≡ y.row.0 = eqb-true x.row.0 y.row.0 p.1 in
    λ d. record { mark = mark d; row = record { 0 = row d } }

-- a key is the same as itself
key_same : (x : Key) → same_key x x ≡ true
key_same x = grind arith

-- what is made of f by a list of blocks means so
pub transforms_means : (s n : Diagrams) (blocks : List ℕ) (f i : Id) → Transforms s n (IsTableItem blocks) f i → Means n i (item_value s blocks f)
transforms_means s n blocks f i t = record { live = t.live; value = t.value }

-- no row at all
pub rows_none : (s : Diagrams) (t : Table) (blocks : List ℕ) (rows : List Id) → rows ≡ [] → AreBlockRows s s t blocks rows 0
rows_none s t blocks rows e = record { size = ap length e; row = λ at h. absurd (omega (arith, h)) }

-- one more row
pub block_rows_more : (s n after : Diagrams) (t : Table) (blocks : List ℕ) (rows : List Id) (count : ℕ) (row id : Id) → Keeps s n → Keeps n after → Fits s t → count < size_of t
    → AreBlockRows s n t blocks rows count → row ≡ row_of t count → Means after id (λ a. slice_index blocks (eval n row a))
    → AreBlockRows s after t blocks (rows ++ id ∷ []) (count + 1)
block_rows_more s n after t blocks rows count row id keeps grows f within k r m = record {
  size = length-append rows (id ∷ []) ∙ ap (λ z. z + 1) k.size;
  row = λ i l. elim (place_cases i count l) [
    | inl h ↦ rw (get_or_append_left rows (id ∷ []) (record { 0 = 0 }) i (rw (k.size) h)) (means_lasts n after grows (id_at rows i) _ (k.row i h))
    | inr h ↦
        let at : id_at (rows ++ id ∷ []) i ≡ id = get_or_at rows id [] (record { 0 = 0 }) i (k.size ∙ sym h) in
        rw (at) (record {
          live = m.live;
          value = λ a.
              m.value a
              ∙ ap (λ z. slice_index blocks (eval n z a)) (r ∙ ap (row_of t) (sym h))
              ∙ ap (slice_index blocks) (eval-lasts s n keeps.was keeps.now keeps.extends (row_of t i) (f i (rw (h) within)).live a);
        })
  ];
}

-- rows relabelled from the store before are relabelled from the store now
pub rows_now : (s n : Diagrams) (t : Table) (blocks : List ℕ) (rows : List Id) → Keeps s n → Fits s t → AreBlockRows s n t blocks rows (size_of t) → AreBlockRows n n t blocks rows (size_of t)
rows_now s n t blocks rows k f r = record {
  size = r.size;
  row = λ at h.
      let m = r.row at h in
      record {
        live = m.live;
        value = λ a. m.value a ∙ ap (slice_index blocks) (sym (eval-lasts s n k.was k.now k.extends (row_of t at) (f at h).live a));
      };
}

option_cases : (o : Option ℕ) → (o ≡ None) ⊎ ((x : ℕ) × (o ≡ Some x))
option_cases None = inl refl
option_cases (Some x) = inr (x, refl)

-- the mark of a location, and its row in a list
abbrev pub key_of : Table → List Id → ℕ → Key
key_of t rows at = record { mark = mark_of t at; row = id_at rows at }

-- the first so many locations are divided, and the table has the first location of each key
pub record IsDividing {S : Type 0} (t : Table) (rows : List Id) (firsts : HashMap Key ℕ S) (blocks : List ℕ) (count : ℕ) : Type 0 where
  pub size : length blocks ≡ count
  pub low : (at : ℕ) → at < count → slice_index blocks at ≤ at
  pub key : (at : ℕ) → at < count → key_of t rows (slice_index blocks at) ≡ key_of t rows at
  pub known : (at : ℕ) → at < count → get same_key firsts (key_of t rows at) ≡ Some (slice_index blocks at)
  pub right : (k : Key) (x : ℕ) → get same_key firsts k ≡ Some x → (x < count) × (key_of t rows x ≡ k)

-- the first location of a key comes no later, and has the key
record IsFirstOf (t : Table) (rows : List Id) (at x : ℕ) : Type 0 where
  low : x ≤ at
  key : key_of t rows x ≡ key_of t rows at

first_found : {S : Type 0} → (t : Table) (rows : List Id) (old : HashMap Key ℕ S) (blocks : List ℕ) (at x : ℕ) → IsDividing t rows old blocks at
    → x ≡ unwrap_or (get same_key old (key_of t rows at)) at → IsFirstOf t rows at x
first_found t rows old blocks at x d e =
    elim (option_cases (get same_key old (key_of t rows at))) [
      | inl n ↦ let q : x ≡ at = e ∙ ap (λ o. unwrap_or o at) n in record { low = omega (arith, q); key = ap (key_of t rows) q }
      | inr y ↦
          let q : x ≡ y.0 = e ∙ ap (λ o. unwrap_or o at) y.1 in
          let r = d.right (key_of t rows at) y.0 y.1 in
          record { low = omega (arith, q, r.0); key = ap (key_of t rows) q ∙ r.1 }
    ]

-- one location more is divided
pub dividing_more : {S : Type 0} → (t : Table) (rows : List Id) (old new : HashMap Key ℕ S) (blocks : List ℕ) (at x : ℕ) → IsDividing t rows old blocks at
    → x ≡ unwrap_or (get same_key old (key_of t rows at)) at
    → ((other : Key) → get same_key new other ≡ (if same_key (key_of t rows at) other then Some x else get same_key old other))
    → IsDividing t rows new (blocks ++ x ∷ []) (at + 1)
dividing_more t rows old new blocks at x d e up = record {
  size = length-append blocks (x ∷ []) ∙ ap (λ z. z + 1) d.size;
  low = λ i l. elim (place_cases i at l) [
    | inl h ↦ rw (get_or_append_left blocks (x ∷ []) 0 i (rw (d.size) h)) (d.low i h)
    | inr h ↦ rw (h, last) f.low
  ];
  key = λ i l. elim (place_cases i at l) [
    | inl h ↦ ap (key_of t rows) (get_or_append_left blocks (x ∷ []) 0 i (rw (d.size) h)) ∙ d.key i h
    | inr h ↦ rw (h) (ap (key_of t rows) last ∙ f.key)
  ];
  known = λ i l. elim (place_cases i at l) [
    | inl h ↦ before i h ∙ ap Some (sym (get_or_append_left blocks (x ∷ []) 0 i (rw (d.size) h)))
    | inr h ↦ rw (h) (up (key_of t rows at) ∙ ap (λ b. if b then Some x else get same_key old (key_of t rows at)) (key_same (key_of t rows at)) ∙ ap Some (sym last))
  ];
  right = λ k y q. elim (cases_Bool (same_key (key_of t rows at) k)) [
    | inl s ↦
        let is : x ≡ y = same_Some x y (sym (up k ∙ ap (λ b. if b then Some x else get same_key old k) s) ∙ q) in
        let low = f.low in
        (omega (arith, low, is), ap (key_of t rows) (sym is) ∙ f.key ∙ key_true (key_of t rows at) k s)
    | inr s ↦
        let r = d.right k y (sym (up k ∙ ap (λ b. if b then Some x else get same_key old k) s) ∙ q) in
        (omega (arith, r.0), r.1)
  ];
}
  where
    f : IsFirstOf t rows at x
    f = first_found t rows old blocks at x d e

    last : slice_index (blocks ++ x ∷ []) at ≡ x
    last = rw (← d.size) (get_or_at blocks x [] 0 (length blocks) refl)

    before : (i : ℕ) → i < at → get same_key new (key_of t rows i) ≡ Some (slice_index blocks i)
    before i h = elim (cases_Bool (same_key (key_of t rows at) (key_of t rows i))) [
      | inl s ↦
          let k = key_true (key_of t rows at) (key_of t rows i) s in
          let is : x ≡ slice_index blocks i = e ∙ ap (λ o. unwrap_or o at) (ap (get same_key old) k ∙ d.known i h) in
          up (key_of t rows i) ∙ ap (λ b. if b then Some x else get same_key old (key_of t rows i)) s ∙ ap Some is
      | inr s ↦ up (key_of t rows i) ∙ ap (λ b. if b then Some x else get same_key old (key_of t rows i)) s ∙ d.known i h
    ]

-- blocks of equal keys go by the marks and the rows
pub division_goes : (t : Table) (rows : List Id) (blocks : List ℕ) → IsDivision t rows blocks → GoesByRows t (id_at rows) (slice_index blocks)
division_goes t rows blocks d = record {
  same = λ i j h l e.
      let x = d.key i h in
      let y = d.key j l in
      (sym x.0 ∙ ap (mark_of t) e ∙ y.0, sym x.1 ∙ ap (id_at rows) e ∙ y.1);
  apart = λ i j h l e q. d.one i j h l (e, q);
}

-- the terminals of a row are its targets
pub terminals_are_targets : (s : Diagrams) (size : ℕ) (f : Id) (xs : List ℕ) → IsRow s size f → AreTerminals s f xs → AreTargets s size f xs
terminals_are_targets s size f xs r t = record {
  all = λ a.
      let letter = spelt a s.props in
      let same : eval s f a ≡ eval s f (letter_truth s.props letter) = r.letters a (letter_truth s.props letter) (λ v l. sym (spelt-truth a s.props v l)) in
      rw (same) (t.all letter (spelt-less a s.props));
  led = λ k h. let l = t.each k h in (letter_truth s.props l.0, l.1.value);
  within = λ k h. let l = (t.each k h) in rw (← l.1.value) (r.targets (letter_truth s.props l.0));
}

-- targets stay as the store grows
pub targets_last : (s n : Diagrams) → Keeps s n → (size : ℕ) (f : Id) (xs : List ℕ) → IsLive s f → AreTargets s size f xs → AreTargets n size f xs
targets_last s n k size f xs h t = record {
  all = λ a. rw (eval-lasts s n k.was k.now k.extends f h a) (t.all a);
  led = λ i l. let x = t.led i l in (x.0, eval-lasts s n k.was k.now k.extends f h x.0 ∙ x.1);
  within = t.within;
}

-- targets are before the size
pub target_within : (s : Diagrams) (size : ℕ) (f : Id) (xs : List ℕ) → AreTargets s size f xs → (a : _) → eval s f a < size
target_within s size f xs t a =
    let p = contains_place xs (eval s f a) (t.all a) in
    rw (← p.2) (t.within p.0 p.1)

-- where no target moved, an id with the old blocks is one with the new
pub unmoved_means : (s : Diagrams) (size : ℕ) (f i : Id) (xs old new : List ℕ) → AreTargets s size f xs → Means s i (item_value s old f)
    → ((k : ℕ) → k < length xs → slice_index old (slice_index xs k) ≡ slice_index new (slice_index xs k)) → Means s i (item_value s new f)
unmoved_means s size f i xs old new t m same = record {
  live = m.live;
  value = λ a.
      let p = contains_place xs (eval s f a) (t.all a) in
      m.value a ∙ ap (slice_index old) (sym p.2) ∙ same p.0 p.1 ∙ ap (slice_index new) p.2;
}

-- the row of a location with the old blocks, in the store now
pub old_row : (s n : Diagrams) → Keeps s n → (t : Table) (blocks : List ℕ) (rows : List Id) (at : ℕ) (row f : Id) → Fits s t → AreBlockRows s s t blocks rows (size_of t) → at < size_of t
    → row ≡ id_at rows at → f ≡ row_of t at → Means n row (item_value n blocks f)
old_row s n k t blocks rows at row f fits r h e q =
    let m = r.row at h in
    rw (e, q) (record {
      live = (means_lasts s n k (id_at rows at) _ m).live;
      value = λ a.
          (means_lasts s n k (id_at rows at) _ m).value a
          ∙ ap (slice_index blocks) (sym (eval-lasts s n k.was k.now k.extends (row_of t at) (fits at h).live a));
    })

-- one list more
pub lists_next : {X : Type 0} (view : X → List ℕ) (P : ℕ → List ℕ → Type 0) (lists : List X) (count : ℕ) (x : X) → length lists ≡ count
    → ((k : ℕ) → k < count → P k (targets_at (map view lists) k)) → P count (view x) → (k : ℕ) → k < count + 1 → P k (targets_at (map view (lists ++ x ∷ [])) k)
lists_next view P lists count x e all here k h =
    let l : length (map view lists) ≡ count = length-map lists view ∙ e in
    rw (map-append view lists (x ∷ []))
    (elim (place_cases k count h) [
      | inl q ↦ rw (get_or_append_left (map view lists) (view x ∷ []) [] k (omega (arith, l, q))) (all k q)
      | inr q ↦ rw (get_or_at (map view lists) (view x) [] [] k (l ∙ sym q), q) here
    ])
