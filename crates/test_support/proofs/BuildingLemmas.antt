-- Rows that go by one proposition, and tables of them.
use Rattle.std.proofs.Common.{◌≡◌, ◌<◌, ◌≤◌, ◌+◌, ◌++◌, ℕ, List, [], ◌∷◌, Bool, true, false, refl, sym, ◌∙◌, ap, arith, inl, inr, length, length-append, Result, Ok, Err, if◌then◌else◌, subst}
use Rattle.std.specs.Prelude.{slice_index_or, slice_get, Some, IfOk, min, nat_lt}
use Rattle.std.proofs.lemmas.Bool.{lt-ltb, le-ltb}
use Rattle.std.proofs.lemmas.Result.{IfOk-weaker}
use Rattle.std.proofs.lemmas.List.{get_or_append_left, get_or_at}
use Rattle.diagrams.specs.declared.top.Id.{Id}
use Rattle.diagrams.specs.Tree.{Assignment}
use Rattle.diagrams.specs.Branch.{split_value}
use Rattle.diagrams.specs.Eval.{Diagrams, eval}
use Rattle.diagrams.specs.Live.{Keeps, Means}
use Rattle.diagrams.proofs.Meaning.{means_lasts}
use Rattle.diagrams.proofs.Windows.{if_below}
use Rattle.automata.specs.Table.{IsRow}
use Rattle.automata.proofs.Lasts.{row_lasts}
use Rattle.automata.proofs.FindingLemmas.{place_cases}
use Rattle.test_support.specs.declared.building.Location.{Location}
use Rattle.test_support.specs.Building.{target_at, IsLocation}
use Rattle.test_support.proofs.DiagramLemmas.{constant_depends}

-- the row that always goes to one location
pub constant_row : (s : Diagrams) (size : ℕ) (i : Id) (x : ℕ) → x < size → Means s i (λ _. x) → IsRow s size i
constant_row s size i x h m = record { live = m.live; letters = constant_depends s i x (λ v. v < s.props) m; targets = λ a. rw (m.value a) h }

-- a row that goes by one proposition
pub split_row : (s n : Diagrams) (size var x y : ℕ) (lo hi id : Id) → Means s lo (λ _. x) → Means s hi (λ _. y) → x < size → y < size → var < n.props
    → Means n id (split_value s var lo hi) → IsRow n size id
split_row s n size var x y lo hi id l r h k v m = record {
  live = m.live;
  letters = λ a b same. both a ∙ ap (λ c. if c then y else x) (same var v) ∙ sym (both b);
  targets = λ a. rw (both a) (if_below (a var) y x size k h);
}
  where
    both : (a : Assignment) → eval n id a ≡ (if a var then y else x)
    both a = m.value a ∙ (λ d. if a var then r.value a d else l.value a d)

-- the first so many rows are rows
abbrev pub AreGood : Diagrams → ℕ → List Id → ℕ → Type 0
AreGood s size rows count = (length rows ≡ count) × ((k : ℕ) → k < count → IsRow s size (slice_index_or rows k (record { 0 = 0 })))

-- one row more
pub good_more : (s n : Diagrams) (size : ℕ) (rows : List Id) (count : ℕ) (id : Id) → Keeps s n → AreGood s size rows count → IsRow n size id → AreGood n size (rows ++ id ∷ []) (count + 1)
good_more s n size rows count id k g r = (
  length-append rows (id ∷ []) ∙ ap (λ z. z + 1) g.0,
  λ i l. elim (place_cases i count l) [
    | inl h ↦ rw (get_or_append_left rows (id ∷ []) (record { 0 = 0 }) i (rw (g.0) h)) (row_lasts s n k size _ (g.1 i h))
    | inr h ↦ let at : slice_index_or (rows ++ id ∷ []) i (record { 0 = 0 }) ≡ id = rw (h, ← g.0) (get_or_at rows id [] (record { 0 = 0 }) (length rows) refl) in rw (at) r
  ],
)

-- such a row, where memory was found
pub split_ok : {E : Type 0} (s n : Diagrams) (last var x y : ℕ) (lo hi : Id) → Means s lo (λ _. x) → Means s hi (λ _. y) → x ≤ last → y ≤ last → var < n.props
    → (r : Result Id E) → IfOk r (λ id. Means n id (split_value s var lo hi)) → IfOk r (λ row. (size : ℕ) → last < size → IsRow n size row)
split_ok s n last var x y lo hi l r h k v (Err e) m = tt
split_ok s n last var x y lo hi l r h k v (Ok id) m = λ size w. split_row s n size var x y lo hi id l r (omega (arith, h, w)) (omega (arith, k, w)) v m

choice_min : (b : Bool) (x y last : ℕ) → (if b then min y last else min x last) ≡ min (if b then y else x) last
choice_min true x y last = refl
choice_min false x y last = refl

-- it leads to its targets, none past the last
pub split_leads : {E : Type 0} (s n : Diagrams) (last var x y : ℕ) (lo hi : Id) → Means s lo (λ _. min x last) → Means s hi (λ _. min y last) → var < n.props
    → (r : Result Id E) → IfOk r (λ id. Means n id (split_value s var lo hi)) → IfOk r (λ id. Means n id (target_at n.props last var x y))
split_leads s n last var x y lo hi l r h result =
    IfOk-weaker result (λ id. Means n id (split_value s var lo hi)) (λ id. Means n id (target_at n.props last var x y))
    (λ id m. record {
      live = m.live;
      value = λ a. let t : nat_lt var n.props ≡ true = lt-ltb var n.props h in m.value a ∙ (rw (r.value a, l.value a, t) (choice_min (a var) x y last));
    })

-- where there is no such proposition, a constant leads where the row does
pub constant_leads : (s : Diagrams) (last var x y : ℕ) (i : Id) → Means s i (λ _. min x last) → s.props ≤ var → Means s i (target_at s.props last var x y)
constant_leads s last var x y i m h = let f : nat_lt var s.props ≡ false = le-ltb var s.props h in record { live = m.live; value = λ a. m.value a ∙ (rw f refl) }

-- the first so many locations are as they were given
abbrev pub AreGiven : Diagrams → ℕ → List Location → List ℕ → List Id → ℕ → Type 0
AreGiven s last table marks rows count =
    (at : ℕ) (given : Location) → at < count → slice_get table at ≡ Some given → IsLocation s (record { first = 0; marks = marks; rows = rows }) last at given

-- one location more
pub given_more : (s n : Diagrams) → Keeps s n → (last : ℕ) (table : List Location) (marks : List ℕ) (rows : List Id) (count : ℕ) (new : Location) (id : Id) → length marks ≡ count → length rows ≡ count
    → AreGiven s last table marks rows count → slice_get table count ≡ Some new → Means n id (target_at n.props last new.1 new.2 new.3)
    → AreGiven n last table (marks ++ new.0 ∷ []) (rows ++ id ∷ []) (count + 1)
given_more s n k last table marks rows count new id p q g is m at given l e =
    elim (place_cases at count l) [
      | inl h ↦
          let old = g at given h e in
          record {
            mark = get_or_append_left marks (new.0 ∷ []) _ at (rw p h) ∙ old.mark;
            row =
                subst (λ p. Means n (slice_index_or (rows ++ id ∷ []) at (record { 0 = 0 })) (target_at p last given.1 given.2 given.3)) (sym k.extends.props)
                (rw (get_or_append_left rows (id ∷ []) (record { 0 = 0 }) at (rw q h)) (means_lasts s n k _ _ old.row));
          }
      | inr h ↦
          let same : new ≡ given = some_given new given (sym is ∙ ap (slice_get table) (sym h) ∙ e) in
          record {
            mark = get_or_at marks new.0 [] _ at (p ∙ sym h) ∙ ap (λ x. x.0) same;
            row = rw (get_or_at rows id [] (record { 0 = 0 }) at (q ∙ sym h), ← same) m;
          }
    ]
  where
    some_given : (x y : Location) → Some x ≡ Some y → x ≡ y
    some_given x y e = cc
