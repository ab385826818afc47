-- Restricting an automaton: its rows one by one.
use Rattle.std.proofs.Common.{◌≡◌, ◌≢◌, ◌<◌, ◌+◌, ◌-◌, ◌^◌, ◌⊎◌, ◌↔◌, ◌++◌, ℕ, List, [], ◌∷◌, length, length-append, inl, inr, refl, sym, ◌∙◌, ap, subst, arith, Option, Some, None}
use Rattle.std.specs.Prelude.{slice_index}
use Rattle.std.proofs.lemmas.List.{get_or_append_left, get_or_at}
use Rattle.diagrams.specs.declared.top.Id.{Id}
use Rattle.diagrams.specs.Eval.{Diagrams, eval, id_at, letter_truth}
use Rattle.diagrams.specs.Live.{Keeps, IsLive}
use Rattle.diagrams.proofs.Meaning.{eval-lasts, live_lasts}
use Rattle.diagrams.proofs.DependsLemmas.{DependsOn-lasts}
use Rattle.automata.specs.Moves.{Moves}
use Rattle.automata.specs.Table.{Table, size_of, mark_of, row_of, Fits, IsRow, moves_of, next_of}
use Rattle.automata.proofs.Lasts.{row_lasts}
use Rattle.game.specs.Board.{Mover, Agent, Environment, Partition, width}
use Rattle.legality.specs.Violation.{LeadsToNoRank, IsRestricted}
use Rattle.attractor.specs.Graph.{number_at}
use Rattle.legality.specs.Spared.{spare_mark, AreSpareMarks, IsSpared, IsRestrictedRow, AreRestricted}
use Rattle.legality.proofs.LegalityLemmas.{spared_same}
use Rattle.products.proofs.WatchingLemmas.{below_or_last}

-- a restricted row of a store is one of the store from which it grew
pub row_from : (p : Partition) (s n after : Diagrams) (table : List ℕ) (sink : ℕ) (row id : Id) → Keeps s n → IsLive s row → IsRestrictedRow p n after table sink row id → IsRestrictedRow p s after table sink row id
row_from p s n after table sink row id k live r =
    let e = eval-lasts s n k.was k.now k.extends row live in
    let had : ℕ → ℕ = λ b. slice_index table (eval n row (letter_truth (width p) b)) in
    let has : ℕ → ℕ = λ b. slice_index table (eval s row (letter_truth (width p) b)) in
    let same : (b : ℕ) → had b ≡ has b = λ b. ap (slice_index table) (e (letter_truth (width p) b)) in
    record {
      live = r.live;
      letters = r.letters;
      targets = λ a. elim (r.targets a) [ inl x ↦ inl (x ∙ e a) | inr x ↦ inr x ];
      value = λ a h. elim (r.value a h) [
        | inl (x, y) ↦ inl (spared_same p.first p.inputs p.outputs had has a same x, y ∙ e (letter_truth (width p) a))
        | inr (x, y) ↦ inr (λ z. x (spared_same p.first p.inputs p.outputs has had a (λ b. sym (same b)) z), y)
      ];
    }

-- and stays one as the store grows
row_stays : (p : Partition) (s n after : Diagrams) (table : List ℕ) (sink : ℕ) (row id : Id) → Keeps n after → IsRestrictedRow p s n table sink row id → IsRestrictedRow p s after table sink row id
row_stays p s n after table sink row id k r =
    let e = eval-lasts n after k.was k.now k.extends id r.live in
    record {
      live = live_lasts n after k.extends id r.live;
      letters = DependsOn-lasts n after k id (λ q v. v < q) r.live r.letters;
      targets = λ a. elim (r.targets a) [ inl x ↦ inl (e a ∙ x) | inr x ↦ inr (e a ∙ x) ];
      value = λ a h. elim (r.value a h) [ inl (x, y) ↦ inl (x, e (letter_truth (width p) a) ∙ y) | inr (x, y) ↦ inr (x, e (letter_truth (width p) a) ∙ y) ];
    }

-- no location yet
pub restricted_none : (p : Partition) (s : Diagrams) (t : Table) (table marks : List ℕ) (rows : List Id) (sink : ℕ) → marks ≡ [] → rows ≡ [] → AreRestricted p s s t table marks rows sink 0
restricted_none p s t table marks rows sink em er = record {
  marks_count = ap length em;
  rows_count = ap length er;
  mark = λ at h. absurd (omega arith);
  row = λ at h. absurd (omega arith);
}

-- one more location
pub restricted_more : (p : Partition) (s n after : Diagrams) (t : Table) (table xs marks : List ℕ) (rows : List Id) (sink at mark : ℕ) (row id : Id) → Keeps s n → Keeps n after → Fits s t → at < size_of t
    → AreRestricted p s n t table marks rows sink at → mark ≡ mark_of t at → row ≡ row_of t at → xs ≡ table → IsRestrictedRow p n after xs sink row id
    → AreRestricted p s after t table (marks ++ mark ∷ []) (rows ++ id ∷ []) sink (at + 1)
restricted_more p s n after t table xs marks rows sink at mark row id k grows fits h w em er ex made =
    let mc = w.marks_count in
    let rc = w.rows_count in
    let none : Id = record { 0 = 0 } in
    let z : IsRestrictedRow p s after table sink (row_of t at) id =
    row_from p s n after table sink (row_of t at) id k (fits at h).live (subst (λ ys. IsRestrictedRow p n after ys sink (row_of t at) id) ex (subst (λ i. IsRestrictedRow p n after xs sink i id) er made)) in
    record {
      marks_count = let l : length (marks ++ mark ∷ []) ≡ length marks + 1 = length-append marks (mark ∷ []) in omega arith;
      rows_count = let l : length (rows ++ id ∷ []) ≡ length rows + 1 = length-append rows (id ∷ []) in omega arith;
      mark = λ i j. elim (below_or_last i at j) [
        | inl l ↦ get_or_append_left marks (mark ∷ []) 0 i (omega arith) ∙ w.mark i l
        | inr e ↦ get_or_at marks mark [] 0 i (mc ∙ sym e) ∙ em ∙ ap (mark_of t) (sym e)
      ];
      row = λ i j. elim (below_or_last i at j) [
        | inl l ↦ subst (IsRestrictedRow p s after table sink (row_of t i)) (sym (get_or_append_left rows (id ∷ []) none i (omega arith))) (row_stays p s n after table sink (row_of t i) (id_at rows i) grows (w.row i l))
        | inr e ↦ subst (IsRestrictedRow p s after table sink (row_of t i)) (sym (get_or_at rows id [] none i (rc ∙ sym e))) (subst (λ x. IsRestrictedRow p s after table sink (row_of t x) id) (sym e) z)
      ];
    }

-- a rank's mark tells whether there is one
mark_none : (o : Option ℕ) → spare_mark o ≢ 0 → o ≡ None
mark_none None e = refl
mark_none (Some n) e = absurd (e refl)

none_mark : (o : Option ℕ) → o ≡ None → spare_mark o ≢ 0
none_mark None e z = omega arith
none_mark (Some n) e z = cc

spared_ranks : (d : Mover) (i o : ℕ) (item : ℕ → ℕ) (m : Moves) (rank : ℕ → Option ℕ) (at a : ℕ) → ((b : ℕ) → item b ≡ spare_mark (rank (m.next at b)))
    → (IsSpared (record { first = d; inputs = i; outputs = o }) item a ↔ LeadsToNoRank (record { first = d; inputs = i; outputs = o }) m rank at a)
spared_ranks Agent i o item m rank at a e = (λ x. mark_none (rank (m.next at a)) (λ z. x (e a ∙ z)), λ x z. none_mark (rank (m.next at a)) x (sym (e a) ∙ z))
spared_ranks Environment i o item m rank at a e =
    (λ x b h k. mark_none (rank (m.next at b)) (λ z. x b h k (e b ∙ z)), λ x b h k z. none_mark (rank (m.next at b)) (x b h k) (sym (e b) ∙ z))

-- all that was made
pub record IsRestrictMade (p : Partition) (s n : Diagrams) (t u : Table) (ranks : List (Option ℕ)) (table marks : List ℕ) (rows : List Id) (sink : ℕ) : Type 0 where
  pub keeps : Keeps s n
  pub fits : Fits s t
  pub props : width p ≡ s.props
  pub items : AreSpareMarks ranks table (size_of t)
  pub made : AreRestricted p s n t table marks rows sink (size_of t)
  pub within : sink < size_of t
  pub first : u.first ≡ t.first
  pub all_marks : u.marks ≡ marks
  pub all_rows : u.rows ≡ rows

-- the restricted automaton fits the store
pub restrict_fits : (p : Partition) (s n : Diagrams) (t u : Table) (ranks : List (Option ℕ)) (table marks : List ℕ) (rows : List Id) (sink : ℕ) → IsRestrictMade p s n t u ranks table marks rows sink → Fits n u
restrict_fits p s n t u ranks table marks rows sink m at h =
    let size : size_of u ≡ size_of t = ap length m.all_rows ∙ m.made.rows_count in
    let l : at < size_of t = omega arith in
    let r = m.made.row at l in
    subst (IsRow n (size_of u)) (sym (ap (λ rs. id_at rs at) m.all_rows))
    (record {
      live = r.live;
      letters = r.letters;
      targets = λ a. elim (r.targets a) [
        | inl e ↦ let q = (m.fits at l).targets a in subst (λ z. z < size_of u) (sym e) (omega arith)
        | inr e ↦ let q = m.within in subst (λ z. z < size_of u) (sym e) (omega arith)
      ];
    })

-- it is restricted
pub restrict_made : (p : Partition) (s n : Diagrams) (t u : Table) (ranks : List (Option ℕ)) (table marks : List ℕ) (rows : List Id) (sink : ℕ) → IsRestrictMade p s n t u ranks table marks rows sink
    → ((a : ℕ) → a < 2 ^ s.props → next_of s t sink a ≡ sink) → IsRestricted p (moves_of s t) (moves_of n u) (number_at ranks) sink
restrict_made p s n t u ranks table marks rows sink m stay =
    let props : n.props ≡ width p = m.keeps.extends.props ∙ sym m.props in
    let old : (at b : ℕ) → at < size_of t → next_of s t at b ≡ eval s (row_of t at) (letter_truth (width p) b) =
    λ at b h. ap (λ q. eval s (row_of t at) (letter_truth q b)) (sym m.props) in
    let new : (at b : ℕ) → next_of n u at b ≡ eval n (id_at rows at) (letter_truth (width p) b) =
    λ at b. ap (λ q. eval n (row_of u at) (letter_truth q b)) props ∙ ap (λ rs. eval n (id_at rs at) (letter_truth (width p) b)) m.all_rows in
    let goes : (at a : ℕ) → at < size_of t → a < 2 ^ width p
    → (LeadsToNoRank p (moves_of s t) (number_at ranks) at a × (next_of n u at a ≡ next_of s t at a)) ⊎ ((¬ LeadsToNoRank p (moves_of s t) (number_at ranks) at a) × (next_of n u at a ≡ sink)) =
    λ at a h k.
    let item : ℕ → ℕ = λ b. slice_index table (eval s (row_of t at) (letter_truth (width p) b)) in
    let same : (b : ℕ) → item b ≡ spare_mark (number_at ranks (next_of s t at b)) =
    λ b. m.items.item (eval s (row_of t at) (letter_truth (width p) b)) ((m.fits at h).targets (letter_truth (width p) b)) ∙ ap (λ q. spare_mark (number_at ranks q)) (sym (old at b h)) in
    let both = spared_ranks p.first p.inputs p.outputs item (moves_of s t) (number_at ranks) at a same in
    elim ((m.made.row at h).value a k) [
      | inl (x, e) ↦ inl (both.0 x, new at a ∙ e ∙ sym (old at a h))
      | inr (x, e) ↦ inr (λ y. x (both.1 y), new at a ∙ e)
    ] in
    record {
      first = m.first;
      mark = λ at h. ap (λ ms. slice_index ms at) m.all_marks ∙ m.made.mark at h;
      goes = goes;
      stays = λ a k. elim (goes sink a m.within k) [
        | inl (x, e) ↦ e ∙ old sink a m.within ∙ ap (λ q. eval s (row_of t sink) (letter_truth q a)) m.props ∙ stay a (subst (λ q. a < 2 ^ q) m.props k)
        | inr (x, e) ↦ e
      ];
    }

-- a row of an automaton, where the table has room for its targets
pub row_in : (s n : Diagrams) (t : Table) (xs table : List ℕ) (at : ℕ) (f : Id) → Keeps s n → Fits s t → at < size_of t → xs ≡ table → length table ≡ size_of t → f ≡ row_of t at → IsRow n (length xs) f
row_in s n t xs table at f k fits h ex size ef =
    subst (IsRow n (length xs)) (sym ef) (subst (λ z. IsRow n z (row_of t at)) (sym (ap length ex ∙ size)) (row_lasts s n k (size_of t) (row_of t at) (fits at h)))

-- all steps together
pub restrict_steps : (p : Partition) (s n : Diagrams) (t u : Table) (ranks : List (Option ℕ)) (table marks : List ℕ) (rows : List Id) (first size at count : ℕ) → Keeps s n → Fits s t → width p ≡ s.props
    → count ≡ size_of t → AreSpareMarks ranks table count → first < size_of t → size ≡ size_of t → at ≡ size_of t → AreRestricted p s n t table marks rows (size - 1) at
    → u.first ≡ t.first → u.marks ≡ marks → u.rows ≡ rows → IsRestrictMade p s n t u ranks table marks rows (size_of t - 1)
restrict_steps p s n t u ranks table marks rows first size at count k fits w ec items hf es ea made ef em er =
    record {
      keeps = k;
      fits = fits;
      props = w;
      items = subst (AreSpareMarks ranks table) ec items;
      made = subst (λ z. AreRestricted p s n t table marks rows (z - 1) (size_of t)) es (subst (AreRestricted p s n t table marks rows (size - 1)) ea made);
      within = omega arith;
      first = ef;
      all_marks = em;
      all_rows = er;
    }
