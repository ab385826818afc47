-- Rows whose terminals are replaced by diagrams over obligations.
use Rattle.std.proofs.Common.{◌≡◌, ℕ, zero, suc, ◌<◌, ◌≤◌, ◌+◌, ◌-◌, ◌++◌, Bool, true, false, if◌then◌else◌, List, [], ◌∷◌, length, length-append, drop, refl, sym, ◌∙◌, ap, arith, inl, inr, Some}
use Rattle.std.specs.Prelude.{slice_index_or, nat_lt, min, ◌==◌, ◌&&◌}
use Rattle.std.proofs.lemmas.Bool.{cases_lt}
use Rattle.std.proofs.lemmas.Bool.Decides.{nat_tests}
use Rattle.std.proofs.lemmas.List.{get_or_append_left, get_or_at, drop_more}
use Rattle.diagrams.specs.declared.top.Id.{Id}
use Rattle.diagrams.specs.declared.top.Look.TheVariants.{Terminal, Node}
use Rattle.diagrams.specs.declared.memo.Memo.{Memo}
use Rattle.diagrams.specs.declared.work.Op.TheVariants.{And}
use Rattle.diagrams.specs.Tree.{Assignment}
use Rattle.diagrams.specs.Branch.{split_value}
use Rattle.diagrams.specs.Eval.{Diagrams, top_of, eval, tree, DependsOn}
use Rattle.diagrams.specs.Live.{IsCanonical, Keeps, Means}
use Rattle.diagrams.specs.Work.{CanCombine, combined_value}
use Rattle.diagrams.specs.Eval.{id_at}
use Rattle.diagrams.specs.Kept.{AllKept}
use Rattle.diagrams.specs.Transformed.{same_id}
use Rattle.diagrams.proofs.Canon.{tree_size}
use Rattle.diagrams.proofs.Meaning.{eval-lasts, live_lasts, eval-node, eval-terminal, live-above, means_lasts}
use Rattle.diagrams.proofs.DependsLemmas.{DependsOn-lasts}
use Rattle.diagrams.proofs.CofactorLemmas.{own}
use Rattle.std.proofs.lemmas.Bool.{cases_Bool}
use Rattle.diagrams.proofs.Composed.{lo_over, hi_over, top_over}
use Rattle.diagrams.proofs.Kept.{kept_weaker}
use Rattle.diagrams.proofs.Transformed.{down}
use Rattle.automata.specs.Table.{IsRow}
use Rattle.automata.proofs.Lasts.{row_lasts}
use Rattle.obligations.specs.Value.{IsBody}
use Rattle.obligations.specs.Located.{AllClaims}
use Rattle.obligations.specs.Inclusion.{AllBelow, all_later}
use Rattle.obligations.specs.Entered.{Asks, AllAsk, AllAreLater, entered_value, Enters, IsEntered}
use Rattle.obligations.proofs.Holds.{claim_lasts}
use Rattle.obligations.proofs.Cuts.{lo_depends, hi_depends}
use Rattle.diagrams.proofs.Literals.{number_small, number_one, min-and}

-- a place before the end of a longer list, but not before that of the shorter, is the last
pub last_place : (at count : ℕ) → at < count + 1 → nat_lt at count ≡ false → count ≡ at
last_place at count h t = let g : count ≤ at = grind (arith, nat_tests) in omega arith

-- what is asked of the next position, in a grown store
pub all_later-lasts : (s n : Diagrams) → n.props ≡ s.props → (base : ℕ) (a : Assignment) (ats : List ℕ) → all_later n base a ats ≡ all_later s base a ats
all_later-lasts s n e base a [] = refl
all_later-lasts s n e base a (at ∷ ats) = rw (e, all_later-lasts s n e base a ats) refl

-- what is asked in a store is asked in a later one
pub asks_last : (s n : Diagrams) → Keeps s n → (base size : ℕ) (ats : List ℕ) (i : Id) → Asks s base size ats i → Asks n base size ats i
asks_last s n k base size ats i x = record {
  claim = claim_lasts s n k (base + size) i x.claim;
  value = λ a. rw (eval-lasts s n k.was k.now k.extends i x.claim.live a) (x.value a ∙ sym (all_later-lasts s n k.extends.props base a ats));
}

min_small : (x y : ℕ) → y < 2 → min x y < 2
min_small x y h = elim (cases_lt x y) [ inl l ↦ omega arith | inr l ↦ omega arith ]

-- both are 0 or 1
pub can_ask : (s m : Diagrams) → Keeps s m → (base size v : ℕ) (ats : List ℕ) (next whole : Id) → Means m next (λ a. if a v then 1 else 0) → Asks s base size ats whole → CanCombine m And next whole
can_ask s m k base size v ats next whole l x a =
    (rw (l.value a) (number_small (a v)), rw (eval-lasts s m k.was k.now k.extends whole x.claim.live a) (x.claim.truth a))

and_one : (b : Bool) (w : ℕ) → w < 2 → (min (if b then 1 else 0) w == 1) ≡ (b && (w == 1))
and_one b w h = min-and (if b then 1 else 0) w (number_small b) h ∙ ap (λ x. x && (w == 1)) (number_one b)

-- one location more is asked for
pub asks_next : (s m n : Diagrams) → Keeps s m → Keeps m n → (base size v at : ℕ) (ats : List ℕ) (next whole id : Id) → at < size → v ≡ s.props + (base + at)
    → Means m next (λ a. if a v then 1 else 0) → Asks s base size ats whole → Means n id (combined_value m And next whole) → Asks n base size (at ∷ ats) id
asks_next s m n k j base size v at ats next whole id h e l x y =
    let p : n.props ≡ s.props = j.extends.props ∙ k.extends.props in
    let value : (a : Assignment) → eval n id a ≡ min (if a v then 1 else 0) (eval s whole a) =
    λ a. y.value a ∙ (rw (l.value a, eval-lasts s m k.was k.now k.extends whole x.claim.live a) refl) in
    record {
      claim = record {
        live = y.live;
        over = λ a b same. value a ∙ (rw (
          same v (rw p (omega arith, omega arith)),
          x.claim.over a b (λ w q. same w (rw p q)),
        ) refl) ∙ sym (value b);
        truth = λ a. rw (value a) (min_small (if a v then 1 else 0) (eval s whole a) (x.claim.truth a));
      };
      value = λ a.
          ap (λ z. z == 1) (value a)
          ∙ and_one (a v) (eval s whole a) (x.claim.truth a)
          ∙ (rw (x.value a, all_later-lasts s n p base a ats, p, e) refl);
    }

-- a list from one place earlier on
pub drop_back : (k : ℕ) (xs : List ℕ) → 0 < k → k ≤ length xs → drop (k - 1) xs ≡ slice_index_or xs (k - 1) 0 ∷ drop k xs
drop_back k xs h l =
    let e : k - 1 + 1 ≡ k = omega arith in
    drop_more xs (k - 1) 0 (omega arith) ∙ ap (λ n. slice_index_or xs (k - 1) 0 ∷ drop n xs) e

-- each of them is below the number
pub below_at : (size : ℕ) (ats : List ℕ) (k : ℕ) → AllBelow size ats → k < length ats → slice_index_or ats k 0 < size
below_at size [] k b h = absurd (omega arith)
below_at size (at ∷ ats) zero b h = b.0
below_at size (at ∷ ats) (suc k) b h = below_at size ats k b.1 (omega arith)

-- one diagram more
pub all_ask_next : (s n : Diagrams) → Keeps s n → (base size : ℕ) (wider : ℕ → List ℕ) (items : List Id) (count : ℕ) (id : Id) → AllAsk s base size wider items count → Asks n base size (wider count) id
    → AllAsk n base size wider (items ++ id ∷ []) (count + 1)
all_ask_next s n k base size wider items count id x y =
    let e = x.number in
    record {
      number = rw length-append (omega arith);
      each = λ at h.
          elim (cases_Bool (nat_lt at count)) [
            | inl t ↦
                let l : at < count = grind (arith, nat_tests) in
                let r : id_at (items ++ id ∷ []) at ≡ id_at items at = get_or_append_left items (id ∷ []) _ at (omega arith) in
                rw r (asks_last s n k base size (wider at) (id_at items at) (x.each at l))
            | inr t ↦
                let l : count ≡ at = last_place at count h t in
                let r : id_at (items ++ id ∷ []) at ≡ id = get_or_at items id [] _ at (omega arith) in
                rw (r, ← l) y
          ];
    }

-- items that are claims depend on obligations alone
pub claims_later : (s : Diagrams) (count : ℕ) (items : List Id) → AllClaims s count items → AllAreLater s items
claims_later s count items all at h = record { live = (all at h).live; over = λ a b same. (all at h).over a b (λ v q. same v q.0) }

-- items that depend on obligations alone do so in a later store
pub later_last : (s n : Diagrams) → Keeps s n → (items : List Id) → AllAreLater s items → AllAreLater n items
later_last s n k items all at h =
    let x = all at h in
    record {
      live = live_lasts s n k.extends (id_at items at) x.live;
      over = DependsOn-lasts s n k (id_at items at) (λ p v. p ≤ v) x.live x.over;
    }

-- the value of the item to which a row leads, in a grown store
pub entered_value-lasts : (s n : Diagrams) → Keeps s n → (items : List Id) → AllAreLater s items → (row : Id) → IsRow s (length items) row → (a : Assignment)
    → entered_value n items row a ≡ entered_value s items row a
entered_value-lasts s n k items all row r a =
    rw (eval-lasts s n k.was k.now k.extends row r.live a)
    (eval-lasts s n k.was k.now k.extends (id_at items (eval s row a)) (all (eval s row a) (r.targets a)).live a)

-- what was entered in the grown store is entered there
pub entered_now : (s n : Diagrams) → Keeps s n → (items : List Id) → AllAreLater s items → (row id : Id) → IsRow s (length items) row → Enters s n items row id → IsEntered n items row id
entered_now s n k items all row id r m = record {
  row_fits = row_lasts s n k (length items) row r;
  enters = record { live = m.live; value = λ a. m.value a ∙ sym (entered_value-lasts s n k items all row r a) };
}

-- what is entered in a store is entered in a later one
pub entered_lasts : (s n : Diagrams) → Keeps s n → (items : List Id) → AllAreLater s items → (row id : Id) → IsEntered s items row id → IsEntered n items row id
entered_lasts s n k items all row id e =
    entered_now s n k items all row id e.row_fits (means_lasts s n k id (entered_value s items row) e.enters)

-- and so is each entry of a memo
pub kept_entered_last : (s n : Diagrams) → Keeps s n → (items : List Id) → AllAreLater s items → (m : Memo Id) → AllKept same_id (IsEntered s items) m → AllKept same_id (IsEntered n items) m
kept_entered_last s n k items all m r = kept_weaker same_id (IsEntered s items) (IsEntered n items) m (λ row id e. entered_lasts s n k items all row id e) r

-- a constant row leads to one item
pub enters_terminal : (s : Diagrams) (items : List Id) → AllAreLater s items → (f : Id) (t : ℕ) → top_of s f ≡ Some (Terminal t) → t < length items → Enters s s items f (id_at items t)
enters_terminal s items all f t e h = record { live = (all t h).live; value = λ a. rw (eval-terminal s f t e a) refl }

-- what the walk may use of the children of a row's node
pub record WalksOn (s : Diagrams) (size : ℕ) (f lo hi : Id) (v : ℕ) : Type 0 where
  pub lo_row : IsRow s size lo
  pub hi_row : IsRow s size hi
  pub lo_less : tree_size (tree s lo) < tree_size (tree s f)
  pub hi_less : tree_size (tree s hi) < tree_size (tree s f)
  pub small : v < s.props

-- the children of a row's node are rows with smaller trees, and the node's variable is a proposition
pub walks_on : (s : Diagrams) → IsCanonical s → (size : ℕ) (f lo hi : Id) (v : ℕ) → top_of s f ≡ Some (Node v lo hi) → IsRow s size f → WalksOn s size f lo hi v
walks_on s c size f lo hi v e r =
    let d = down s c f lo hi v e in
    let p = own s c v f lo hi e in
    record {
      lo_row = record { live = live-above v _ d.lo_above; letters = lo_over s c _ v f lo hi p r.letters; targets = d.lo_fit size r.targets };
      hi_row = record { live = live-above v _ d.hi_above; letters = hi_over s c _ v f lo hi p r.letters; targets = d.hi_fit size r.targets };
      lo_less = d.lo_less;
      hi_less = d.hi_less;
      small =
          elim (cases_Bool (nat_lt v s.props)) [
            | inl t ↦ grind (arith, nat_tests)
            | inr t ↦ absurd (top_over s c (λ w. w < s.props) v f lo hi e r.letters (λ l. let h : s.props ≤ v = grind (arith, nat_tests) in omega arith))
          ];
    }

-- what is entered depends on later variables alone where its row does
pub enters_over : (s n : Diagrams) (items : List Id) → AllAreLater s items → (row id : Id) (v : ℕ) → v < s.props → IsRow s (length items) row → DependsOn s row (λ w. v < w) → Enters s n items row id
    → DependsOn n id (λ w. v < w)
enters_over s n items all row id v small r d m a b same =
    let e : eval s row a ≡ eval s row b = d a b same in
    let there : eval s (id_at items (eval s row b)) a ≡ eval s (id_at items (eval s row b)) b = (all (eval s row b) (r.targets b)).over a b (λ w h. same w (omega arith)) in
    m.value a ∙ ap (λ x. eval s (id_at items x) a) e ∙ there ∙ sym (m.value b)

-- the entered children before the node is made
pub record EntersChildren (s0 s2 : Diagrams) (items : List Id) (v : ℕ) (lo hi low high : Id) : Type 0 where
  pub low_enters : Enters s0 s2 items lo low
  pub high_enters : Enters s0 s2 items hi high
  pub low_above : DependsOn s2 low (λ w. v < w)
  pub high_above : DependsOn s2 high (λ w. v < w)

-- children that were entered one after the other are both entered in the last store
pub enters_children : (s0 s1 s2 : Diagrams) → Keeps s0 s1 → Keeps s1 s2 → (items : List Id) → AllAreLater s0 items → (v : ℕ) (f lo hi low high : Id)
    → top_of s0 f ≡ Some (Node v lo hi) → WalksOn s0 (length items) f lo hi v → Enters s0 s1 items lo low → Enters s1 s2 items hi high → EntersChildren s0 s2 items v lo hi low high
enters_children s0 s1 s2 k0 k1 items all v f lo hi low high e w x y =
    let low_enters : Enters s0 s2 items lo low = means_lasts s1 s2 k1 low (entered_value s0 items lo) x in
    let high_enters : Enters s0 s2 items hi high = record { live = y.live; value = λ a. y.value a ∙ entered_value-lasts s0 s1 k0 items all hi w.hi_row a } in
    record {
      low_enters = low_enters;
      high_enters = high_enters;
      low_above = enters_over s0 s2 items all lo low v w.small w.lo_row (lo_depends s0 k0.was v f lo hi e) low_enters;
      high_above = enters_over s0 s2 items all hi high v w.small w.hi_row (hi_depends s0 k0.was v f lo hi e) high_enters;
    }

if_apply : (g : ℕ → ℕ) (b : Bool) (x y : ℕ) → (if b then g x else g y) ≡ g (if b then x else y)
if_apply g true x y = refl
if_apply g false x y = refl

-- where both children are entered, the node is entered
pub enters_node : (s n m : Diagrams) → IsCanonical s → (items : List Id) (v : ℕ) (f lo hi low high id : Id) → top_of s f ≡ Some (Node v lo hi) → EntersChildren s n items v lo hi low high
    → Means m id (split_value n v low high) → Enters s m items f id
enters_node s n m c items v f lo hi low high id e x t = record {
  live = t.live;
  value = λ a.
      t.value a
      ∙ (rw (x.high_enters.value a, x.low_enters.value a, eval-node s c f v lo hi e a) (if_apply (λ z. eval s (id_at items z) a) (a v) (eval s hi a) (eval s lo a)));
}

-- what is entered is a body over as many obligations as the items
pub enters_body : (s n : Diagrams) → Keeps s n → (count : ℕ) (items : List Id) → AllClaims s count items → (row id : Id) → IsRow s (length items) row → Enters s n items row id → IsBody n count id
enters_body s n k count items all row id r m = record {
  live = m.live;
  over = λ a b same.
      let e : eval s row a ≡ eval s row b = r.letters a b (λ v h. same v (rw k.extends.props (omega arith))) in
      let there : eval s (id_at items (eval s row b)) a ≡ eval s (id_at items (eval s row b)) b =
      (all (eval s row b) (r.targets b)).over a b (λ v h. same v (rw k.extends.props h.1)) in
      m.value a ∙ ap (λ x. eval s (id_at items x) a) e ∙ there ∙ sym (m.value b);
  truth = λ a. rw (m.value a) ((all (eval s row a) (r.targets a)).truth a);
}
