-- Making a join, place by place.
use Rattle.std.proofs.Common.{◌≡◌, ◌<◌, ◌≤◌, ◌+◌, ◌⊎◌, ◌++◌, ℕ, List, [], ◌∷◌, false, Some, None, refl, sym, ◌∙◌, ap, subst, arith, inl, inr, length, length-append, ◌==◌, ◌||◌, Result, Ok, Err, IfOk}
use Rattle.std.specs.Prelude.{slice_get, slice_index_or}
use Rattle.std.proofs.lemmas.Bool.{cases_Bool, true≢false, cases_lt, eqb-true}
use Rattle.std.proofs.lemmas.Option.{slice_get_within, slice_get-get_or}
use Rattle.std.proofs.lemmas.List.{get_or_append_left, get_or_at}
use Rattle.diagrams.specs.declared.top.Id.{Id}
use Rattle.diagrams.specs.Eval.{Diagrams, eval, id_at, letter_truth}
use Rattle.diagrams.specs.Live.{Keeps}
use Rattle.diagrams.proofs.Meaning.{eval-lasts, means_lasts}
use Rattle.automata.specs.Table.{Table, size_of, mark_of, row_of, Fits, IsRow, next_of, moves_of}
use Rattle.products.specs.declared.places.Place.{Place}
use Rattle.products.specs.Places.{ArePlaces, AreMet, Grows, IsPairing}
use Rattle.products.specs.Joins.{is_end, IsJoin}
use Rattle.products.specs.Joining.{IsWithin, mark_at, IsJoinRow, AreNewWithin, IsJoining}
use Rattle.products.proofs.PlaceLemmas.{pairing_lasts, pairing_depends}

-- a row stays right as the store and the places grow
join_row_lasts : (s n : Diagrams) (a b : Table) (old new : List Place) (place : Place) (at : ℕ) (id : Id) → Keeps s n → Grows old new → Fits s a → Fits s b → IsWithin a b place
    → IsJoinRow s a b old place at id → IsJoinRow n a b new place at id
join_row_lasts s n a b old new place at id k grows fa fb w r =
    let T : ℕ → ℕ → Place = λ x y. record { left = x; right = y } in
    record {
      ends = λ e. means_lasts s n k id (λ _. at) (r.ends e);
      goes = λ e.
          let p = pairing_lasts s n old new (eval s (row_of a place.left)) (eval s (row_of b place.right)) id k grows (r.goes e) in
          record {
            live = p.live;
            value = λ v. p.value v
                ∙ ap (λ x. Some (T x (eval s (row_of b place.right) v))) (sym (eval-lasts s n k.was k.now k.extends (row_of a place.left) (fa place.left w.0).live v))
                ∙ ap (λ y. Some (T (eval n (row_of a place.left) v) y)) (sym (eval-lasts s n k.was k.now k.extends (row_of b place.right) (fb place.right w.1).live v));
          };
    }

-- a number below one more than a length is below it, or it
below_or_last : (i n : ℕ) → i < n + 1 → (i < n) ⊎ (i ≡ n)
below_or_last i n h = elim (cases_lt i n) [ inl l ↦ inl l | inr l ↦ inr (omega arith) ]

-- a place that had a number has it still
old_there : (old new : List Place) (i : ℕ) (p : Place) → i < length old → Grows old new → slice_get new i ≡ Some p → slice_get old i ≡ Some p
old_there old new i p h grows e =
    let none : Place = record { left = 0; right = 0 } in
    let q = slice_get-get_or old i none h in
    q ∙ sym (grows i (slice_index_or old i none) q) ∙ e

same_some : (p q : Place) → Some p ≡ Some q → p ≡ q
same_some p q e = cc

-- one more place has its mark and its row
pub joining_more : (s n : Diagrams) (a b : Table) (old new : List Place) (marks : List ℕ) (rows : List Id) (place : Place) (mark : ℕ) (id : Id) → Keeps s n → Fits s a → Fits s b
    → IsJoining s a b old marks rows → slice_get old (length rows) ≡ Some place → ArePlaces new → Grows old new → AreNewWithin a b old new
    → mark ≡ mark_at a b place → IsJoinRow n a b new place (length rows) id → IsJoining n a b new (marks ++ mark ∷ []) (rows ++ id ∷ [])
joining_more s n a b old new marks rows place mark id k fa fb j here r grows met em er =
    let within : (i : ℕ) (p : Place) → slice_get new i ≡ Some p → IsWithin a b p = λ i p e. elim (met i p e) [ inl h ↦ j.within i p h | inr w ↦ w ] in
    let lr : length (rows ++ id ∷ []) ≡ length rows + 1 = length-append rows (id ∷ []) in
    let lm : length (marks ++ mark ∷ []) ≡ length marks + 1 = length-append marks (mark ∷ []) in
    let same = j.same in
    let few = j.few in
    let at = slice_get_within new (length rows) place (grows (length rows) place here) in
    let now = grows (length rows) place here in
    record {
      distinct = r;
      first = grows 0 (record { left = a.first; right = b.first }) j.first;
      within = within;
      same = omega arith;
      few = omega arith;
      mark = λ i p h e. elim (below_or_last i (length rows) (subst (λ x. i < x) lr h)) [
        | inl l ↦ get_or_append_left marks (mark ∷ []) 0 i (omega arith) ∙ j.mark i p l (old_there old new i p (omega arith) grows e)
        | inr l ↦
            let q : p ≡ place = same_some p place (sym e ∙ ap (λ x. slice_get new x) l ∙ now) in
            get_or_at marks mark [] 0 i (same ∙ sym l) ∙ em ∙ ap (mark_at a b) (sym q)
      ];
      row = λ i p h e. elim (below_or_last i (length rows) (subst (λ x. i < x) lr h)) [
        | inl l ↦
            let q = old_there old new i p (omega arith) grows e in
            let z = join_row_lasts s n a b old new p i (id_at rows i) k grows fa fb (j.within i p q) (j.row i p l q) in
            subst (λ x. IsJoinRow n a b new p i x) (sym (get_or_append_left rows (id ∷ []) (record { 0 = 0 }) i l)) z
        | inr l ↦
            let q : p ≡ place = same_some p place (sym e ∙ ap (λ x. slice_get new x) l ∙ now) in
            let z : IsJoinRow n a b new p i id = subst (λ x. IsJoinRow n a b new x i id) (sym q) (subst (λ x. IsJoinRow n a b new place x id) (sym l) er) in
            subst (λ x. IsJoinRow n a b new p i x) (sym (get_or_at rows id [] (record { 0 = 0 }) i (sym l))) z
      ];
    }

-- a join with no row yet
pub joining_begins : (s : Diagrams) (a b : Table) (places : List Place) → ArePlaces places → a.first < size_of a → b.first < size_of b
    → slice_get places 0 ≡ Some (record { left = a.first; right = b.first }) → ((i : ℕ) (p : Place) → slice_get places i ≡ Some p → p ≡ record { left = a.first; right = b.first })
    → IsJoining s a b places [] []
joining_begins s a b places r ha hb first only =
    record {
      distinct = r;
      first = first;
      within = λ i p e. let q = only i p e in subst (IsWithin a b) (sym q) (ha, hb);
      same = refl;
      few = omega arith;
      mark = λ i p h e. absurd (omega arith);
      row = λ i p h e. absurd (omega arith);
    }

-- a complete join: each place has its row
abbrev place_there : (places : List Place) (i : ℕ) → i < length places → (p : Place) × (slice_get places i ≡ Some p)
place_there places i h = let none : Place = record { left = 0; right = 0 } in (slice_index_or places i none, slice_get-get_or places i none h)

abbrev place_of : List Place → ℕ → Place
place_of places i = slice_index_or places i (record { left = 0; right = 0 })

join_row_fits : (s : Diagrams) (a b : Table) (places : List Place) (size : ℕ) → length places ≡ size → ArePlaces places → Fits s a → Fits s b → (p : Place) (at : ℕ) (id : Id) → IsWithin a b p
    → at < size → IsJoinRow s a b places p at id → IsRow s size id
join_row_fits s a b places size full r fa fb p at id w h row =
    let P : ℕ → Type 0 = λ v. v < s.props in
    elim (cases_Bool (is_end (mark_at a b p))) [
      | inl t ↦ let m = row.ends t in record { live = m.live; letters = λ x y same. m.value x ∙ sym (m.value y); targets = λ x. subst (λ z. z < size) (sym (m.value x)) h }
      | inr f ↦
          let q = row.goes f in
          record {
            live = q.live;
            letters = pairing_depends s places (eval s (row_of a p.left)) (eval s (row_of b p.right)) id r q P (fa p.left w.0).letters (fb p.right w.1).letters;
            targets = λ x. subst (λ z. eval s id x < z) full (slice_get_within places (eval s id x) _ (q.value x));
          }
    ]

-- what was made of it
pub record IsMadeOf (s : Diagrams) (a b : Table) (places : List Place) (t : Table) : Type 0 where
  pub joining : IsJoining s a b places t.marks t.rows
  pub full : length places ≡ length t.rows
  pub first : t.first ≡ 0

pub made_fits : (s : Diagrams) (a b t : Table) (places : List Place) → Fits s a → Fits s b → IsMadeOf s a b places t → Fits s t
made_fits s a b t places fa fb m at h =
    let j = m.joining in
    let p = place_there places at (subst (λ x. at < x) (sym m.full) h) in
    join_row_fits s a b places (length t.rows) m.full j.distinct fa fb p.0 at (row_of t at) (j.within at p.0 p.1) h (j.row at p.0 h p.1)

-- the pairs to which a row leads
goes_to : (s : Diagrams) (a b t : Table) (places : List Place) → Fits s a → Fits s b → IsMadeOf s a b places t → (at x : ℕ) → at < size_of t → is_end (mark_of t at) ≡ false
    → slice_get places (next_of s t at x) ≡ Some (record { left = next_of s a (place_of places at).left x; right = next_of s b (place_of places at).right x })
goes_to s a b t places fa fb m at x h e =
    let j = m.joining in
    let p = place_there places at (subst (λ x. at < x) (sym m.full) h) in
    let mark = j.mark at p.0 h p.1 in
    ((j.row at p.0 h p.1).goes (ap is_end (sym mark) ∙ e)).value (letter_truth s.props x)

place_is : (places : List Place) (i : ℕ) (p : Place) → slice_get places i ≡ Some p → place_of places i ≡ p
place_is places i p e = same_some (place_of places i) p (sym (slice_get-get_or places i (record { left = 0; right = 0 }) (slice_get_within places i p e)) ∙ e)

pub made_joins : (s : Diagrams) (a b t : Table) (places : List Place) → Fits s a → Fits s b → t.first < size_of t → IsMadeOf s a b places t
    → IsJoin s.props (moves_of s a) (moves_of s b) (moves_of s t)
made_joins s a b t places fa fb h0 m =
    let j = m.joining in
    let first = place_is places 0 (record { left = a.first; right = b.first }) j.first in
    let fits = made_fits s a b t places fa fb m in
    record {
      left = λ i. (place_of places i).left;
      right = λ i. (place_of places i).right;
      closed = record { first = h0; next = λ at x h k. (fits at h).targets (letter_truth s.props x) };
      first_left = ap (λ i. (place_of places i).left) m.first ∙ ap (λ p. p.left) first;
      first_right = ap (λ i. (place_of places i).right) m.first ∙ ap (λ p. p.right) first;
      mark = λ at h. let p = place_there places at (subst (λ x. at < x) (sym m.full) h) in j.mark at p.0 h p.1;
      goes_left = λ at x h k e. ap (λ p. p.left) (place_is places (next_of s t at x) _ (goes_to s a b t places fa fb m at x h e));
      goes_right = λ at x h k e. ap (λ p. p.right) (place_is places (next_of s t at x) _ (goes_to s a b t places fa fb m at x h e));
      stays = λ at x h k e.
          let p = place_there places at (subst (λ x. at < x) (sym m.full) h) in
          ((j.row at p.0 h p.1).ends (ap is_end (sym (j.mark at p.0 h p.1)) ∙ e)).value (letter_truth s.props x);
    }

-- a mark that is neither 1 nor 3 is no end
not_end : (n : ℕ) → (n ≡ 1 → ⊥) → (n ≡ 3 → ⊥) → is_end n ≡ false
not_end n one three = elim (cases_Bool (n == 1)) [
  | inl t ↦ absurd (one (eqb-true n 1 t))
  | inr f ↦ elim (cases_Bool (n == 3)) [ inl t ↦ absurd (three (eqb-true n 3 t)) | inr g ↦ ap (λ b. b || (n == 3)) f ∙ g ]
]

-- where the mark is no end, the walk is the row
pub row_walked_ok : {E : Type 0} (r : Result Id E) (s n : Diagrams) (a b : Table) (places : List Place) (place : Place) (at mark : ℕ) → Keeps s n → Fits s a → Fits s b → IsWithin a b place
    → mark ≡ mark_at a b place → (mark ≡ 1 → ⊥) → (mark ≡ 3 → ⊥) → (left right : Id) → left ≡ row_of a place.left → right ≡ row_of b place.right
    → IfOk r (λ id. IsPairing n places (eval s left) (eval s right) id) → IfOk r (λ id. IsJoinRow n a b places place at id)
row_walked_ok (Ok id) s n a b places place at mark k fa fb w e one three left right el er p =
    let T : ℕ → ℕ → Place = λ x y. record { left = x; right = y } in
    let f : is_end (mark_at a b place) ≡ false = ap is_end (sym e) ∙ not_end mark one three in
    record {
      ends = λ t. absurd (true≢false (sym t ∙ f));
      goes = λ _. record {
        live = p.live;
        value = λ v. p.value v
            ∙ ap (λ x. Some (T x (eval s right v))) (ap (λ i. eval s i v) el ∙ sym (eval-lasts s n k.was k.now k.extends (row_of a place.left) (fa place.left w.0).live v))
            ∙ ap (λ y. Some (T (eval n (row_of a place.left) v) y)) (ap (λ i. eval s i v) er ∙ sym (eval-lasts s n k.was k.now k.extends (row_of b place.right) (fb place.right w.1).live v));
      };
    }
row_walked_ok (Err x) s n a b places place at mark k fa fb w e one three left right el er p = tt

-- a join that has found the first place alone
pub joining_found : (s : Diagrams) (a b : Table) (old new : List Place) (at : ℕ) → old ≡ [] → ArePlaces new → a.first < size_of a → b.first < size_of b
    → AreMet old new (λ _. a.first) (λ _. b.first) → slice_get new at ≡ Some (record { left = a.first; right = b.first }) → IsJoining s a b new [] []
joining_found s a b old new at none r ha hb met here =
    let first : Place = record { left = a.first; right = b.first } in
    let only : (i : ℕ) (p : Place) → slice_get new i ≡ Some p → p ≡ first = λ i p e.
    elim (met i p e) [ inl h ↦ absurd (let q : slice_get [] i ≡ Some p = ap (λ ps. slice_get ps i) (sym none) ∙ h in cc) | inr (v, h) ↦ h ] in
    let h = slice_get_within new at first here in
    let p = place_there new 0 (omega arith) in
    joining_begins s a b new r ha hb (p.1 ∙ ap Some (only 0 p.0 p.1)) only

-- the automaton of a join that has a row for each place
pub made_of : (s : Diagrams) (a b : Table) (places : List Place) (marks : List ℕ) (rows : List Id) (t : Table) → IsJoining s a b places marks rows → length places ≤ length rows
    → t.first ≡ 0 → t.marks ≡ marks → t.rows ≡ rows → IsMadeOf s a b places t
made_of s a b places marks rows t j full ef em er =
    let few = j.few in
    record {
      joining = subst (λ ms. IsJoining s a b places ms t.rows) (sym em) (subst (λ rs. IsJoining s a b places marks rs) (sym er) j);
      full = let e : length places ≡ length rows = omega arith in e ∙ sym (ap length er);
      first = ef;
    }

-- where a list has nothing at a place, it has no more places
pub nothing_there : (places : List Place) (i n : ℕ) → None ≡ slice_get places i → i ≡ n → length places ≤ n
nothing_there places i n e q =
    elim (cases_lt i (length places)) [
      | inl l ↦ let p = place_there places i l in absurd (let f : None ≡ Some p.0 = e ∙ p.1 in cc)
      | inr l ↦ subst (λ m. length places ≤ m) q l
    ]

-- a made join has a first location
pub made_some : (s : Diagrams) (a b : Table) (places : List Place) (t : Table) → IsMadeOf s a b places t → t.first < size_of t
made_some s a b places t m =
    let h = slice_get_within places 0 _ m.joining.first in
    let e = m.full in
    let f = m.first in
    omega arith
