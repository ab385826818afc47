-- What the first of two paths, and a turn of a star, goes on to.
use Rattle.std.proofs.Common.{◌≡◌, ℕ, ◌<◌, ◌≤◌, ◌+◌, ◌++◌, Bool, true, false, List, [], ◌∷◌, length, refl, sym, ◌∙◌, ap, arith}
use Rattle.std.specs.Prelude.{◌&&◌, ◌||◌, slice_index_or}
use Rattle.std.proofs.lemmas.List.{length_push}
use Rattle.forms.specs.Word.{Word, Claim}
use Rattle.forms.specs.Paths.{WordRelation, reaches_further, reaches}
use Rattle.forms.proofs.Further.{reaches-split}
use Rattle.diagrams.specs.declared.top.Id.{Id}
use Rattle.diagrams.specs.Tree.{Assignment}
use Rattle.diagrams.specs.Eval.{Diagrams, is_one}
use Rattle.diagrams.specs.Live.{IsLive, Keeps}
use Rattle.diagrams.proofs.Meaning.{Keeps_trans, is_one-lasts}
use Rattle.obligations.specs.declared.cells.Obligation.{Obligation}
use Rattle.obligations.specs.Table.{missing, ends_of, body_of}
use Rattle.obligations.specs.Value.{joint, by_values, cell, holds, IsClaim}
use Rattle.obligations.proofs.Holds.{by_values-obligations}
use Rattle.path_programs.specs.declared.lead.Lead.{Lead}
use Rattle.path_programs.specs.Made.{IsOneWhere}
use Rattle.path_programs.specs.Lead.{Leads, IsRest}
use Rattle.path_programs.proofs.Making.{one_same, one_lasts, one_claim, claim_same}
use Rattle.path_programs.proofs.Growing.{entry-old, entry-new}
use Rattle.path_programs.proofs.Leads.{IsKept, cell-further, cell-reaches}

-- an obligation that is asked of the next position has its value there
pub asked : (p : ℕ) (n : Diagrams) → n.props ≡ p → (d : List Obligation) (w : Word) (j : ℕ) → by_values n.props (cell n d w) (p + j) ≡ cell n d w j
asked p n e d w j =
    ap (λ x. by_values n.props (cell n d w) (x + j)) (sym e)
    ∙ by_values-obligations n.props (cell n d w) (n.props + j) (omega arith)
    ∙ ap (cell n d w) (omega arith)

-- a literal of the next position in a later store
pub holds-literal : (s n : Diagrams) → Keeps s n → (d : List Obligation) (j : ℕ) (id : Id) → IsOneWhere s id (λ a. a (s.props + j)) → (w : Word) → holds n d id w ≡ cell n d w j
holds-literal s n k d j id o w =
    (one_lasts s n k id (λ a. a (s.props + j)) o).value (by_values n.props (cell n d w)) ∙ asked s.props n k.extends.props d w j

-- a literal is a claim
pub one_literal_claim : (n : Diagrams) (j count : ℕ) (id : Id) → j < count → IsOneWhere n id (λ a. a (n.props + j)) → IsClaim n count id
one_literal_claim n j count id h o = one_claim n id (λ a. a (n.props + j)) count o (λ a b same. same (n.props + j) (omega arith, omega arith))

-- the claim over two obligations and what comes later, where a diagram is
pub rest_says : (s0 s1 s2 s3 s4 : Diagrams) → Keeps s0 s1 → Keeps s1 s2 → Keeps s2 s3 → Keeps s3 s4 → (i j : ℕ) (later fi fj then next : Id) → IsLive s0 later
    → IsOneWhere s1 fi (λ a. a (s1.props + i)) → IsOneWhere s2 fj (λ a. a (s2.props + j)) → IsOneWhere s3 then (λ a. is_one s2 fj a && is_one s2 later a)
    → IsOneWhere s4 next (λ a. is_one s3 fi a || is_one s3 then a) → IsOneWhere s4 next (λ a. a (s0.props + i) || a (s0.props + j) && is_one s0 later a)
rest_says s0 s1 s2 s3 s4 k1 k2 k3 k4 i j later fi fj then next live pi pj m1 m2 =
    one_same s4 next (λ a. is_one s3 fi a || is_one s3 then a) (λ a. a (s0.props + i) || a (s0.props + j) && is_one s0 later a) m2 (λ a.
    rw (
      is_one-lasts s1 s3 (Keeps_trans s1 s2 s3 k2 k3) fi pi.live a,
      pi.value a,
      m1.value a,
      pj.value a,
      is_one-lasts s0 s2 (Keeps_trans s0 s1 s2 k1 k2) later live a,
      k2.extends.props,
      k1.extends.props,
    ) refl)

-- what is handed to the first path is a claim
pub rest_claim : (s n : Diagrams) → Keeps s n → (i j count old : ℕ) (later next : Id) → i < count → j < count → old ≤ count → IsClaim s old later
    → IsOneWhere n next (λ a. a (s.props + i) || a (s.props + j) && is_one s later a) → IsClaim n count next
rest_claim s n k i j count old later next hi hj ho c o =
    let e : n.props ≡ s.props = k.extends.props in
    one_claim n next (λ a. a (s.props + i) || a (s.props + j) && is_one s later a) count o (λ a b same.
    rw (
      same (s.props + i) (omega arith, omega arith),
      same (s.props + j) (omega arith, omega arith),
      claim_same s old later c a b (λ v h. let l = h.0 in let m : v < s.props + old = h.1 in same v (omega arith, omega arith)),
    ) refl)

-- a lead that is kept in two obligations says of the next position what the path reaches
pub rest_right : (s s4 : Diagrams) → Keeps s s4 → (i j : ℕ) (c e : List Obligation) → length c ≤ i → length c ≤ j → i < length e → j < length e → (later next : Id) (l : Lead) → IsLive s later → IsKept e l i j
    → IsOneWhere s4 next (λ a. a (s.props + i) || a (s.props + j) && is_one s later a) → IsRest s4 (length c) e l later next
rest_right s s4 k4 i j c e hi hj li lj later next l live kept o = λ n d q k from leads w.
    let t : Keeps s n = Keeps_trans s s4 n k4 k in
    let x : Assignment = by_values n.props (cell n d w) in
    let own : IsKept d l i j = record {
      further_ends = ap (λ o. o.ends) (from.same i hi li) ∙ kept.further_ends;
      further_body = ap (λ o. o.body) (from.same i hi li) ∙ kept.further_body;
      stays_ends = ap (λ o. o.ends) (from.same j hj lj) ∙ kept.stays_ends;
      stays_body = ap (λ o. o.body) (from.same j hj lj) ∙ kept.stays_body;
    } in
    (one_lasts s4 n k next (λ a. a (s.props + i) || a (s.props + j) && is_one s later a) o).value x
    ∙ rw (asked s.props n t.extends.props d w i, asked s.props n t.extends.props d w j, sym (is_one-lasts s n t later live x)) (cell-reaches n d q (holds n d later) l leads i j own w)

-- a relation that never stays is reached further alone
reaches-further : (s : Diagrams) (c : List Obligation) (q : WordRelation) (k : Claim) (l : Lead) → Leads s c q k l → ((a : Assignment) → is_one s l.stays a ≡ false) → l.ends ≡ false → (w : Word) → reaches_further q k w ≡ reaches q k w
reaches-further s c q k l p stays ends w = simple (reaches_further q k w) (q w w) (k w) (never w) ∙ sym (reaches-split q k w)
  where
    simple : (x y z : Bool) → y ≡ false → x ≡ (x || y && z)
    simple true y z e = refl
    simple false y z e = rw e refl

    never : (w : Word) → q w w ≡ false
    never [] = sym p.ends ∙ ends
    never (a ∷ w) = sym (p.stays a w) ∙ stays (joint s.props a (cell s c w))

-- a lead that never stays, kept in one obligation
pub rest_further_right : (s s1 : Diagrams) → Keeps s s1 → (i : ℕ) (c e : List Obligation) → length c ≤ i → i < length e → (later next : Id) (l : Lead) → ends_of e i ≡ false → body_of e i ≡ l.further
    → IsLive s l.stays → ((a : Assignment) → is_one s l.stays a ≡ false) → l.ends ≡ false → IsOneWhere s1 next (λ a. a (s1.props + i)) → IsRest s1 (length c) e l later next
rest_further_right s s1 k1 i c e hi li later next l end body live stays ends o = λ n d q k from leads w.
    holds-literal s1 n k d i next o w
    ∙ cell-further n d q (holds n d later) l leads i (ap (λ o. o.ends) (from.same i hi li) ∙ end) (ap (λ o. o.body) (from.same i hi li) ∙ body) w
    ∙ reaches-further n d q (holds n d later) l leads (λ a. is_one-lasts s n (Keeps_trans s s1 n k1 k) l.stays live a ∙ stays a) ends w

-- the obligation of a further turn, or what comes later
pub again_says : (s0 s1 s2 s3 : Diagrams) → Keeps s0 s1 → Keeps s1 s2 → Keeps s2 s3 → (i j : ℕ) → i ≡ j → (later turn next : Id) → IsLive s0 later → IsOneWhere s1 turn (λ a. a (s1.props + i))
    → IsOneWhere s2 next (λ a. is_one s1 turn a || is_one s1 later a) → IsOneWhere s3 next (λ a. a (s3.props + j) || is_one s0 later a)
again_says s0 s1 s2 s3 k1 k2 k3 i j e later turn next live p o =
    one_lasts s2 s3 k3 next (λ a. a (s3.props + j) || is_one s0 later a)
    (one_same s2 next (λ a. is_one s1 turn a || is_one s1 later a) (λ a. a (s3.props + j) || is_one s0 later a) o
    (λ a. rw (p.value a, is_one-lasts s0 s1 k1 later live a, k3.extends.props, k2.extends.props, e) refl))

-- what is handed to the path of a star is a claim
pub again_claim : (s n : Diagrams) → Keeps s n → (j count old : ℕ) (later next : Id) → j < count → old ≤ count → IsClaim s old later
    → IsOneWhere n next (λ a. a (n.props + j) || is_one s later a) → IsClaim n count next
again_claim s n k j count old later next hj ho c o =
    let e : n.props ≡ s.props = k.extends.props in
    one_claim n next (λ a. a (n.props + j) || is_one s later a) count o (λ a b same.
    rw (
      same (n.props + j) (omega arith, omega arith),
      claim_same s old later c a b (λ v h. let l = h.0 in let m : v < s.props + old = h.1 in same v (omega arith, omega arith)),
    ) refl)

-- a lead is kept in the two obligations that were added for it
pub kept_two : (c d e : List Obligation) (l : Lead) → d ≡ c ++ record { ends = false; body = l.further } ∷ [] → e ≡ d ++ record { ends = l.ends; body = l.stays } ∷ [] → IsKept e l (length c) (length c + 1)
kept_two c d e l p q =
    let n : length d ≡ length c + 1 = rw p (length_push c _) in
    let less : length c < length d = omega arith in
    let first : slice_index_or e (length c) missing ≡ record { ends = false; body = l.further } = rw q (entry-old d _ (length c) less ∙ rw p (entry-new c _)) in
    let second : slice_index_or e (length c + 1) missing ≡ record { ends = l.ends; body = l.stays } = ap (λ i. slice_index_or e i missing) (sym n) ∙ rw q (entry-new d _) in
    record {
      further_ends = ap (λ o. o.ends) first;
      further_body = ap (λ o. o.body) first;
      stays_ends = ap (λ o. o.ends) second;
      stays_body = ap (λ o. o.body) second;
    }

-- how many there are after one was added
pub length-one : (c d : List Obligation) (o : Obligation) → d ≡ c ++ o ∷ [] → length d ≡ length c + 1
length-one c d o p = rw p (length_push c o)

-- the one that was added
pub last-one : (c d : List Obligation) (o : Obligation) → d ≡ c ++ o ∷ [] → slice_index_or d (length c) missing ≡ o
last-one c d o p = rw p (entry-new c o)
