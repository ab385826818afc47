-- What is chosen below a tree is chosen for the decision's rounds.
use Rattle.std.proofs.Common.{◌≡◌, ◌<◌, ◌≤◌, ◌+◌, ◌-◌, ◌^◌, ℕ, zero, suc, List, refl, sym, ◌∙◌, ap, subst, arith, inl, inr, Bool, true, false, if◌then◌else◌, Option, Some, None}
use Rattle.std.specs.Prelude.{slice_index, nat_le, nat_lt}
use Rattle.std.proofs.lemmas.Bool.{cases_lt, cases_order, and_parts, ltb-true, leb-true}
use Rattle.diagrams.specs.Tree.{Tree, Assignment, value_at, IsReduced}
use Rattle.diagrams.proofs.Windows.{Starts}
use Rattle.game.specs.Board.{Partition, Board, IsOutput, IsRound, output_of}
use Rattle.game.specs.Values.{IsAtMost, AllAtMost, SomeAtMost, AllWithout, IsBestRank, IsBestDistance, IsChosen, won, pending, lost, held, lost_in}
use Rattle.choosing.specs.declared.walks.Extreme.{Extreme}
use Rattle.choosing.specs.declared.walks.Extreme.TheVariants.{Least, Greatest}
use Rattle.choosing.specs.declared.walks.Turns.{Turns}
use Rattle.game.specs.Marks.{Win, Pending, Lost, Held, LostIn}
use Rattle.choosing.specs.Best.{is_output, best_of, rest_of, HasOutputs, IsLeastOutputOf}
use Rattle.choosing.specs.Chosen.{no_number, rank_turns, distance_turns, loss_turns, least_turns, IsFar}
use Rattle.choosing.specs.Numbers.{number_at}
use Rattle.choosing.specs.Rounds.{StandsBelow, IsTable, code}
use Rattle.choosing.proofs.NumberLemmas.{number-less, spelling}
use Rattle.choosing.proofs.BestLemmas.{output-in, best-bound, first-is}
use Rattle.choosing.proofs.ForcedLemmas.{rest-bound, rest-taken}
use Rattle.choosing.proofs.ReachLemmas.{least-reached, none-reached, least-output}

heads : (x y : Bool) (p m n : ℕ) → m < p → n < p → (if x then p else 0) + m ≡ (if y then p else 0) + n → (x ≡ y) × (m ≡ n)
heads true true p m n h k e = (refl, omega (arith, e))
heads true false p m n h k e = absurd (omega (arith, e, h, k))
heads false true p m n h k e = absurd (omega (arith, e, h, k))
heads false false p m n h k e = (refl, omega (arith, e))

-- assignments with one number agree on its variables
number-once : (a c : Assignment) (n v : ℕ) → number_at a v n ≡ number_at c v n → (w : ℕ) → v ≤ w → w < v + n → a w ≡ c w
number-once a c zero v e w l k = absurd (omega (arith, l, k))
number-once a c (suc n) v e w l k =
    let h = heads (a v) (c v) (2 ^ n) (number_at a (suc v) n) (number_at c (suc v) n) (number-less a (suc v) n) (number-less c (suc v) n) e in
    elim (cases_order v w) [
      | inl same ↦ subst (λ z. a z ≡ c z) same h.0
      | inr (inl m) ↦ number-once a c n (suc v) h.1 w (omega (arith, m)) (omega (arith, k))
      | inr (inr m) ↦ absurd (omega (arith, l, m))
    ]

-- assignments that agree on its variables have one number
pub once-number : (a c : Assignment) (n v : ℕ) → ((w : ℕ) → v ≤ w → w < v + n → a w ≡ c w) → number_at a v n ≡ number_at c v n
once-number a c zero v e = refl
once-number a c (suc n) v e =
    ap (λ z. (if z then 2 ^ n else 0) + number_at a (suc v) n) (e v (omega arith) (omega arith))
    ∙ ap (λ z. (if c v then 2 ^ n else 0) + z) (once-number a c n (suc v) (λ w l k. e w (omega (arith, l)) (omega (arith, k))))

output-parts : (turns : Turns) (v : ℕ) → is_output turns v ≡ true → (turns.from ≤ v) × (v < turns.to)
output-parts turns v e =
    let p = and_parts (nat_le turns.from v) (nat_lt v turns.to) e in
    (leb-true turns.from v p.0, ltb-true v turns.to p.1)

has-outputs : (turns : Turns) (a c : Assignment) → turns.from ≤ turns.to → number_at c turns.from (turns.to - turns.from) ≡ number_at a turns.from (turns.to - turns.from) → HasOutputs turns a c
has-outputs turns a c range e v out =
    let p = output-parts turns v out in
    number-once c a (turns.to - turns.from) turns.from e v p.0 (let q = p.1 in omega (arith, range, q))

outputs-number : (turns : Turns) (a c : Assignment) → turns.from ≤ turns.to → ((v : ℕ) → turns.from ≤ v → v < turns.to → is_output turns v ≡ true) → HasOutputs turns a c
    → number_at c turns.from (turns.to - turns.from) ≡ number_at a turns.from (turns.to - turns.from)
outputs-number turns a c range outs h = once-number c a (turns.to - turns.from) turns.from (λ w l k. h w (outs w l (omega (arith, range, k))))

at_most-code : (o : Option ℕ) (k : ℕ) → IsAtMost o k → code o ≤ k
at_most-code None k h = absurd h
at_most-code (Some n) k h = h

code-at_most : (o : Option ℕ) (k : ℕ) → k < no_number → code o ≤ k → IsAtMost o k
code-at_most None k few h = absurd (omega (arith, few, h))
code-at_most (Some n) k few h = h

code-none : (o : Option ℕ) → ((n : ℕ) → o ≡ Some n → n < no_number) → no_number ≤ code o → o ≡ None
code-none None f h = refl
code-none (Some n) f h = let k = f n refl in absurd (omega (arith, h, k))

code-capped : (o : Option ℕ) → ((n : ℕ) → o ≡ Some n → n < no_number) → code o ≤ no_number
code-capped None f = omega arith
code-capped (Some n) f = let k = f n refl in omega (arith, k)

at_most-some : (o : Option ℕ) (k : ℕ) → IsAtMost o k → (n : ℕ) × (o ≡ Some n)
at_most-some None k h = absurd h
at_most-some (Some n) k h = (n, refl)

module _ {s : Partition} (b : Board s) (h : b.Place) (x from to size : ℕ) (place : ℕ → b.Place) (t : Tree) (below : StandsBelow b h x from to size place t)
    (range : from ≤ to) (starts : Starts from t) (reduced : IsReduced t) (number : b.Place → Option ℕ) (illegal : ℕ) (values : List ℕ) (table : IsTable b number place size illegal values) where
  -- the number of an illegal round
  past-at : (a : Assignment) → size ≤ value_at t a → slice_index values (value_at t a) ≡ illegal
  past-at a l = let same : value_at t a ≡ size = let w = below.within a in omega (arith, w, l) in ap (slice_index values) same ∙ table.past

  -- the number of the place after a legal round
  after-number : (a : Assignment) → value_at t a < size → number (b.after h (below.letter a)) ≡ number (place (value_at t a))
  after-number a l = ap number (below.leads a l)

  legal-small : (a : Assignment) → b.IsLegal h (below.letter a) → value_at t a < size
  legal-small a l =
      elim (cases_lt (value_at t a) size) [
        | inl k ↦ k
        | inr k ↦ absurd (below.illegal a (λ m. omega (arith, k, m)) l)
      ]

  -- the assignment of a round has the round's output as its number
  round-number : (y r : ℕ) → IsRound s x y r → (c : Assignment) → below.letter c ≡ r → number_at c from (to - from) ≡ y
  round-number y r p c e = sym (below.round c).output ∙ subst (λ z. output_of s z ≡ y) (sym e) p.output

  -- the value of an assignment whose round leads to at most k
  value-at_most : (c : Assignment) (k : ℕ) → value_at t c < size → IsAtMost (number (b.after h (below.letter c))) k → (slice_index values (value_at t c) ≤ k) × (slice_index values (value_at t c) < no_number)
  value-at_most c k l m =
      let m2 = subst (λ o. IsAtMost o k) (after-number c l) m in
      let item = table.item (value_at t c) l in
      let le = at_most-code (number (place (value_at t c))) k m2 in
      let some = at_most-some (number (place (value_at t c))) k m2 in
      let few = table.small (value_at t c) some.0 l some.1 in
      let same : code (number (place (value_at t c))) ≡ some.0 = ap code some.1 in
      (omega (arith, item, le), omega (arith, item, same, few))

  at_most-value : (c : Assignment) (k : ℕ) → k < no_number → value_at t c < size → slice_index values (value_at t c) ≤ k → IsAtMost (number (b.after h (below.letter c))) k
  at_most-value c k few l le =
      let item = table.item (value_at t c) l in
      subst (λ o. IsAtMost o k) (sym (after-number c l)) (code-at_most (number (place (value_at t c))) k few (omega (arith, item, le)))

  -- the greatest number after the rounds of an output
  module _ (none : illegal ≡ 0) where
    all-value : (y k : ℕ) → AllAtMost b number h x y k → (c : Assignment) → number_at c from (to - from) ≡ y → (slice_index values (value_at t c) ≤ k) × (slice_index values (value_at t c) < no_number)
    all-value y k all c e =
        elim (cases_lt (value_at t c) size) [
          | inl l ↦
              let round = subst (λ z. IsRound s x z (below.letter c)) e (below.round c) in
              value-at_most c k l (all (below.letter c) round (below.legal c l))
          | inr l ↦
              let past = past-at c l in
              (omega (arith, past, none), omega (arith, past, none))
        ]

    rank-same : (a c : Assignment) → HasOutputs (rank_turns from to) a c → number_at c from (to - from) ≡ number_at a from (to - from)
    rank-same a c o = outputs-number (rank_turns from to) a c range (λ v l k. output-in (rank_turns from to) v l k) o

    rank-to : (a : Assignment) (k : ℕ) → AllAtMost b number h x (number_at a from (to - from)) k → best_of (rank_turns from to) values (rest_of (rank_turns from to) a t) ≤ k
    rank-to a k all =
        let r = rest-taken (rank_turns from to) values t a starts reduced in
        let v = all-value (number_at a from (to - from)) k all r.0 (rank-same a r.0 r.1) in
        let e = r.2 in let le = v.0 in omega (arith, e, le)

    rank-small : (a : Assignment) (k : ℕ) → AllAtMost b number h x (number_at a from (to - from)) k → best_of (rank_turns from to) values (rest_of (rank_turns from to) a t) < no_number
    rank-small a k all =
        let r = rest-taken (rank_turns from to) values t a starts reduced in
        let v = all-value (number_at a from (to - from)) k all r.0 (rank-same a r.0 r.1) in
        let e = r.2 in let le = v.1 in omega (arith, e, le)

    rank-back : (a : Assignment) (k : ℕ) → k < no_number → best_of (rank_turns from to) values (rest_of (rank_turns from to) a t) ≤ k → AllAtMost b number h x (number_at a from (to - from)) k
    rank-back a k few le r round legal =
        let c = below.each (number_at a from (to - from)) r round in
        let o = has-outputs (rank_turns from to) a c.0 range (round-number (number_at a from (to - from)) r round c.0 c.1) in
        let bound = rest-bound (rank_turns from to) values t a c.0 starts reduced o in
        let l = legal-small c.0 (subst (λ z. b.IsLegal h z) (sym c.1) legal) in
        subst (λ z. IsAtMost (number (b.after h z)) k) c.1 (at_most-value c.0 k few l (omega (arith, bound, le)))

  -- the least number after them
  module _ (agent : Extreme) (none : illegal ≡ no_number) where
    near-same : (a c : Assignment) → HasOutputs (least_turns agent from to) a c → number_at c from (to - from) ≡ number_at a from (to - from)
    near-same a c o = outputs-number (least_turns agent from to) a c range (λ v l k. output-in (least_turns agent from to) v l k) o

    near-value : (a : Assignment) (k : ℕ) → SomeAtMost b number h x (number_at a from (to - from)) k
        → (best_of (least_turns agent from to) values (rest_of (least_turns agent from to) a t) ≤ k) × (best_of (least_turns agent from to) values (rest_of (least_turns agent from to) a t) < no_number)
    near-value a k (r, round, legal, at) =
        let c = below.each (number_at a from (to - from)) r round in
        let o = has-outputs (least_turns agent from to) a c.0 range (round-number (number_at a from (to - from)) r round c.0 c.1) in
        let bound = rest-bound (least_turns agent from to) values t a c.0 starts reduced o in
        let l = legal-small c.0 (subst (λ z. b.IsLegal h z) (sym c.1) legal) in
        let v = value-at_most c.0 k l (subst (λ z. IsAtMost (number (b.after h z)) k) (sym c.1) at) in
        let le = v.0 in let few = v.1 in
        (omega (arith, bound, le), omega (arith, bound, few))

    near-back : (a : Assignment) (k : ℕ) → k < no_number → best_of (least_turns agent from to) values (rest_of (least_turns agent from to) a t) ≤ k → SomeAtMost b number h x (number_at a from (to - from)) k
    near-back a k few le =
        let r = rest-taken (least_turns agent from to) values t a starts reduced in
        let c = r.0 in
        let e = r.2 in
        let l : value_at t c < size = elim (cases_lt (value_at t c) size) [
          | inl m ↦ m
          | inr m ↦ let past = past-at c m in absurd (omega (arith, past, none, e, le, few))
        ] in
        let round = subst (λ z. IsRound s x z (below.letter c)) (near-same a c r.1) (below.round c) in
        (below.letter c, round, below.legal c l, at_most-value c k few l (omega (arith, e, le)))

    -- where none of its rounds leads to a number, what is left has none
    without-to : (a : Assignment) → AllWithout b number h x (number_at a from (to - from)) → no_number ≤ best_of (least_turns agent from to) values (rest_of (least_turns agent from to) a t)
    without-to a all =
        let r = rest-taken (least_turns agent from to) values t a starts reduced in
        let c = r.0 in
        let e = r.2 in
        elim (cases_lt (value_at t c) size) [
          | inl l ↦
              let round = subst (λ z. IsRound s x z (below.letter c)) (near-same a c r.1) (below.round c) in
              let without : number (place (value_at t c)) ≡ None = sym (after-number c l) ∙ all (below.letter c) round (below.legal c l) in
              let item = table.item (value_at t c) l ∙ ap code without in
              omega (arith, item, e)
          | inr l ↦ let past = past-at c l in omega (arith, past, none, e)
        ]

    without-back : (a : Assignment) → no_number ≤ best_of (least_turns agent from to) values (rest_of (least_turns agent from to) a t) → AllWithout b number h x (number_at a from (to - from))
    without-back a many r round legal =
        let c = below.each (number_at a from (to - from)) r round in
        let o = has-outputs (least_turns agent from to) a c.0 range (round-number (number_at a from (to - from)) r round c.0 c.1) in
        let bound = rest-bound (least_turns agent from to) values t a c.0 starts reduced o in
        let l = legal-small c.0 (subst (λ z. b.IsLegal h z) (sym c.1) legal) in
        let item = table.item (value_at t c.0) l in
        subst (λ z. number (b.after h z) ≡ None) c.1
        (after-number c.0 l ∙ code-none (number (place (value_at t c.0))) (λ n e. table.small (value_at t c.0) n l e) (omega (arith, bound, many, item)))

    -- no number is greater than what stands for none
    capped : (a : Assignment) → best_of (least_turns agent from to) values (rest_of (least_turns agent from to) a t) ≤ no_number
    capped a =
        let r = rest-taken (least_turns agent from to) values t a starts reduced in
        let c = r.0 in
        let e = r.2 in
        elim (cases_lt (value_at t c) size) [
          | inl l ↦
              let item = table.item (value_at t c) l in
              let cap = code-capped (number (place (value_at t c))) (λ n q. table.small (value_at t c) n l q) in
              omega (arith, item, cap, e)
          | inr l ↦ let past = past-at c l in omega (arith, past, none, e)
        ]

module _ {s : Partition} (b : Board s) (h : b.Place) (x from to size : ℕ) (place : ℕ → b.Place) (t : Tree) (below : StandsBelow b h x from to size place t)
    (range : from ≤ to) (starts : Starts from t) (reduced : IsReduced t) (ranks distances losses : b.Place → Option ℕ) (rank_list distance_list loss_list : List ℕ)
    (rank_table : IsTable b ranks place size 0 rank_list) (distance_table : IsTable b distances place size no_number distance_list) where
  no-rank : no_number ≤ best_of (rank_turns from to) rank_list t → IsBestRank b ranks h x None
  no-rank many = none-reached s (rank_turns from to) rank_list t (λ y k. AllAtMost b ranks h x y k) refl range starts reduced below.width
      (rank-to b h x from to size place t below range starts reduced ranks 0 rank_list rank_table refl)
      (rank-back b h x from to size place t below range starts reduced ranks 0 rank_list rank_table refl)
      (rank-small b h x from to size place t below range starts reduced ranks 0 rank_list rank_table refl) many

  no-distance : no_number ≤ best_of (distance_turns from to) distance_list t → IsBestDistance b distances h x None
  no-distance many = none-reached s (distance_turns from to) distance_list t (λ y k. SomeAtMost b distances h x y k) refl range starts reduced below.width
      (λ a k s. (near-value b h x from to size place t below range starts reduced distances no_number distance_list distance_table Least refl a k s).0)
      (near-back b h x from to size place t below range starts reduced distances no_number distance_list distance_table Least refl)
      (λ a k s. (near-value b h x from to size place t below range starts reduced distances no_number distance_list distance_table Least refl a k s).1) many

  -- a choice with a rank is that of the decision
  pub won-below : (n y : ℕ) → best_of (rank_turns from to) rank_list t < no_number → IsLeastOutputOf (rank_turns from to) rank_list t y
      → IsChosen b ranks distances losses h x (Win (suc (best_of (rank_turns from to) rank_list t))) y
  won-below n y few l = won
      (least-reached s (rank_turns from to) rank_list t (λ y k. AllAtMost b ranks h x y k) refl range starts reduced below.width
      (rank-to b h x from to size place t below range starts reduced ranks 0 rank_list rank_table refl)
      (rank-back b h x from to size place t below range starts reduced ranks 0 rank_list rank_table refl)
      (rank-small b h x from to size place t below range starts reduced ranks 0 rank_list rank_table refl) few)
      (least-output s (rank_turns from to) rank_list t (λ y k. AllAtMost b ranks h x y k) refl range starts reduced below.width
      (rank-to b h x from to size place t below range starts reduced ranks 0 rank_list rank_table refl)
      (rank-back b h x from to size place t below range starts reduced ranks 0 rank_list rank_table refl)
      (rank-small b h x from to size place t below range starts reduced ranks 0 rank_list rank_table refl) few y l)

  -- so is one with a distance
  pub pending-below : (n y : ℕ) → no_number ≤ best_of (rank_turns from to) rank_list t → best_of (distance_turns from to) distance_list t < no_number
      → IsLeastOutputOf (distance_turns from to) distance_list t y → IsChosen b ranks distances losses h x (Pending (suc (best_of (distance_turns from to) distance_list t))) y
  pending-below n y many few l = pending (no-rank many)
      (least-reached s (distance_turns from to) distance_list t (λ y k. SomeAtMost b distances h x y k) refl range starts reduced below.width
      (λ a k s. (near-value b h x from to size place t below range starts reduced distances no_number distance_list distance_table Least refl a k s).0)
      (near-back b h x from to size place t below range starts reduced distances no_number distance_list distance_table Least refl)
      (λ a k s. (near-value b h x from to size place t below range starts reduced distances no_number distance_list distance_table Least refl a k s).1) few)
      (least-output s (distance_turns from to) distance_list t (λ y k. SomeAtMost b distances h x y k) refl range starts reduced below.width
      (λ a k s. (near-value b h x from to size place t below range starts reduced distances no_number distance_list distance_table Least refl a k s).0)
      (near-back b h x from to size place t below range starts reduced distances no_number distance_list distance_table Least refl)
      (λ a k s. (near-value b h x from to size place t below range starts reduced distances no_number distance_list distance_table Least refl a k s).1) few y l)

  -- and one without either, where there is no duty
  pub lost-below : b.has_duty ≡ false → IsFar from to rank_list distance_list t → IsChosen b ranks distances losses h x Lost 0
  lost-below c far = lost (no-rank far.0) (no-distance far.1) c

  module _ (duty : b.has_duty ≡ true) (far : IsFar from to rank_list distance_list t) (loss_table : IsTable b losses place size no_number loss_list) where
    loss-to : (a : Assignment) (k : ℕ) → SomeAtMost b losses h x (number_at a from (to - from)) k → best_of (loss_turns from to) loss_list (rest_of (loss_turns from to) a t) ≤ k
    loss-to a k s = (near-value b h x from to size place t below range starts reduced losses no_number loss_list loss_table Greatest refl a k s).0

    loss-back : (a : Assignment) (k : ℕ) → k < no_number → best_of (loss_turns from to) loss_list (rest_of (loss_turns from to) a t) ≤ k → SomeAtMost b losses h x (number_at a from (to - from)) k
    loss-back = near-back b h x from to size place t below range starts reduced losses no_number loss_list loss_table Greatest refl

    keeps-to : (a : Assignment) → AllWithout b losses h x (number_at a from (to - from)) → no_number ≤ best_of (loss_turns from to) loss_list (rest_of (loss_turns from to) a t)
    keeps-to = without-to b h x from to size place t below range starts reduced losses no_number loss_list loss_table Greatest refl

    keeps-back : (a : Assignment) → no_number ≤ best_of (loss_turns from to) loss_list (rest_of (loss_turns from to) a t) → AllWithout b losses h x (number_at a from (to - from))
    keeps-back = without-back b h x from to size place t below range starts reduced losses no_number loss_list loss_table Greatest refl

    cap : (a : Assignment) → best_of (loss_turns from to) loss_list (rest_of (loss_turns from to) a t) ≤ no_number
    cap = capped b h x from to size place t below range starts reduced losses no_number loss_list loss_table Greatest refl

    spell : (y : ℕ) → IsOutput s y → (a : Assignment) × (number_at a from (to - from) ≡ y)
    spell y o = spelling from (to - from) y (subst (λ n. y < 2 ^ n) (sym below.width) o)

    most : (a : Assignment) → best_of (loss_turns from to) loss_list (rest_of (loss_turns from to) a t) ≤ best_of (loss_turns from to) loss_list t
    most a = best-bound (loss_turns from to) loss_list t a

    -- one after which the environment can break the duty
    pub lost_in-below : best_of (loss_turns from to) loss_list t < no_number → IsChosen b ranks distances losses h x (LostIn (suc (best_of (loss_turns from to) loss_list t))) 0
    lost_in-below few =
        let f = first-is (loss_turns from to) loss_list (to - from) from t (omega (arith, range)) (omega arith) starts reduced in
        lost_in (no-rank far.0) (no-distance far.1) duty
        (λ q.
        let s = spell q.0 q.1 in
        let k = keeps-to s.0 (subst (λ y. AllWithout b losses h x y) (sym s.1) q.2) in
        let m = most s.0 in omega (arith, k, m, few))
        (record {
          holds = λ y o. let s = spell y o in subst (λ z. SomeAtMost b losses h x z (best_of (loss_turns from to) loss_list t)) s.1 (loss-back s.0 (best_of (loss_turns from to) loss_list t) few (most s.0));
          least = λ k less each.
              let a = f.taken.0 in
              let o : IsOutput s (number_at a from (to - from)) = subst (λ n. number_at a from (to - from) < 2 ^ n) below.width (number-less a from (to - from)) in
              let r = loss-to a k (each (number_at a from (to - from)) o) in
              let e = f.taken.1 in omega (arith, r, e, less);
        })

    -- one after which the duty is kept for good
    pub held-below : (y : ℕ) → no_number ≤ best_of (loss_turns from to) loss_list t → IsLeastOutputOf (loss_turns from to) loss_list t y → IsChosen b ranks distances losses h x Held y
    held-below y many l =
        held (no-rank far.0) (no-distance far.1) duty
        (record {
          output = subst (λ n. y < 2 ^ n) below.width l.small;
          least = record {
            holds = subst (λ z. AllWithout b losses h x z) l.taken.2 (keeps-back l.taken.0 (let e = l.taken.1 in omega (arith, e, many)));
            least = λ z less q.
                let o : IsOutput s z = let k = l.small in subst (λ n. z < 2 ^ n) below.width (omega (arith, less, k)) in
                let s = spell z o in
                let k = keeps-to s.0 (subst (λ i. AllWithout b losses h x i) (sym s.1) q) in
                let c = cap s.0 in
                let d = cap l.taken.0 in
                let e = l.taken.1 in
                let g = l.least s.0 (omega (arith, k, c, d, e, many)) in
                let same = s.1 in omega (arith, less, g, same);
          };
        })
