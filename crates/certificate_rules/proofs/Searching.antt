-- Searches over numbers and letters, and bounds on the numbers of a certificate.
use Rattle.std.proofs.Common.{◌≡◌, ◌<◌, ◌≤◌, ◌^◌, ◌+◌, ◌⊎◌, inl, inr, ℕ, zero, suc, refl, sym, ap, subst, arith, Option, Some, None, IsSome, Bool, true, false, List, [], ◌∷◌, pow_pos}
use Rattle.std.specs.Prelude.{slice_get, if◌then◌else◌}
use Rattle.std.proofs.lemmas.Bool.{cases_eq}
use Rattle.game.specs.Board.{Mover, Agent, Environment, IsRound, EachLeads, SomeLeads, width, decision_of, output_of}
use Rattle.game.specs.Marks.{Mark, Goal, Win, Pending, Lost, Held, LostIn}
use Rattle.certificate_rules.specs.Cubes.{Entry, agrees, field_at}
use Rattle.certificate_rules.specs.Certificate.{Certificate, Location, Choice, board, mark_in, mark_at, joined, choice_in, choice_at, target_at, Decides, IsDecisionOf}
use Rattle.certificate_rules.specs.Rules.{CanPlay, IsRankBelow, IsWon}
use Rattle.certificate_rules.proofs.Everywhere.{made_of}

-- below a bound either some number has P or each has Q
pub find : (N : ℕ) (P Q : ℕ → Type 0) → ((k : ℕ) → k < N → P k ⊎ Q k) → ((k : ℕ) × (k < N) × P k) ⊎ ((k : ℕ) → k < N → Q k)
find zero P Q h = inr (λ k l. absurd (omega arith))
find (suc N) P Q h =
    elim (find N P Q (λ k l. h k (omega arith))) [
      | inl s ↦ inl (s.0, (let l : s.0 < N = s.1 in omega arith), s.2)
      | inr all ↦ elim (h N (omega arith)) [
        | inl p ↦ inl (N, omega arith, p)
        | inr r ↦ inr (λ k l. elim (cases_eq k N) [
          | inl e ↦ subst Q (sym e) r
          | inr ne ↦ all k (omega arith)
        ])
      ]
    ]

legal_or : {A : Type 0} (o : Option A) → IsSome o ⊎ (¬ IsSome o)
legal_or (Some x) = inl refl
legal_or None = inr (λ h. cc)

none_or : {A : Type 0} (o : Option A) → (o ≡ None) ⊎ IsSome o
none_or (Some x) = inr refl
none_or None = inl refl

-- some legal letter with the decision and the output leads to P, or each to Q
pub lead_or : (c : Certificate) (P Q : ℕ → Type 0) → ((g : ℕ) → P g ⊎ Q g) → (q x y : ℕ) → SomeLeads (board c) P q x y ⊎ EachLeads (board c) Q q x y
lead_or c P Q h q x y =
    let R : ℕ → Type 0 = λ a. IsRound c.parts x y a × (board c).IsLegal q a × P ((board c).after q a) in
    let S : ℕ → Type 0 = λ a. IsRound c.parts x y a → (board c).IsLegal q a → Q ((board c).after q a) in
    elim (find (2 ^ width c.parts) R S (λ a l.
    elim (cases_eq (decision_of c.parts a) x) [
      | inr ne ↦ inr (λ r. absurd (ne r.decision))
      | inl e ↦ elim (cases_eq (output_of c.parts a) y) [
        | inr ne ↦ inr (λ r. absurd (ne r.output))
        | inl f ↦ elim (legal_or (target_at c q a)) [
          | inr none ↦ inr (λ r legal. absurd (none legal))
          | inl legal ↦ elim (h ((board c).after q a)) [
            | inl p ↦ inl (record { letter = l; decision = e; output = f }, legal, p)
            | inr s ↦ inr (λ r m. s)
          ]
        ]
      ]
    ])) [
      | inl s ↦ inl (s.0, s.2.0, s.2.1, s.2.2)
      | inr all ↦ inr (λ a r l. all a r.letter r l)
    ]

-- some decision
some_of : (f : Mover) (u : Bool) (w : Option ℕ) (i o : ℕ) (ls : List Location) (q : ℕ) → CanPlay f (made_of f u w i o ls) q → (x : ℕ) × IsDecisionOf f (made_of f u w i o ls) q x
some_of Agent u w i o ls q p = (0, refl)
some_of Environment u w i o ls q p =
    let x = p.some.0 in (
      x,
      (
        p.some.1,
        elim (none_or (choice_at (made_of Environment u w i o ls) q x)) [
          | inl e ↦ absurd (p.some.2 ((p.chosen x p.some.1).0 e))
          | inr s ↦ s
        ],
      ),
    )

pub some_decision : (c : Certificate) (q : ℕ) → CanPlay c.parts.first c q → (x : ℕ) × (board c).IsDecision q x
some_decision c q p = some_of c.parts.first c.has_duty c.verdict c.parts.inputs c.parts.outputs c.locations q p

-- a decision is below the number of inputs, and each such number is one or not
below_of : (f : Mover) (u : Bool) (w : Option ℕ) (i o : ℕ) (ls : List Location) (q x : ℕ) → IsDecisionOf f (made_of f u w i o ls) q x → x < 2 ^ i
below_of Agent u w i o ls q x d = let h = pow_pos i in omega arith
below_of Environment u w i o ls q x d = d.0

pub decision_below : (c : Certificate) (q x : ℕ) → (board c).IsDecision q x → x < 2 ^ c.parts.inputs
decision_below c q x d = below_of c.parts.first c.has_duty c.verdict c.parts.inputs c.parts.outputs c.locations q x d

or_of : (f : Mover) (u : Bool) (w : Option ℕ) (i o : ℕ) (ls : List Location) (q x : ℕ) → x < 2 ^ i → IsDecisionOf f (made_of f u w i o ls) q x ⊎ (¬ IsDecisionOf f (made_of f u w i o ls) q x)
or_of Agent u w i o ls q x l = cases_eq x 0
or_of Environment u w i o ls q x l =
    elim (legal_or (choice_at (made_of Environment u w i o ls) q x)) [
      | inl s ↦ inl (l, s)
      | inr n ↦ inr (λ d. n d.1)
    ]

pub decision_or : (c : Certificate) (q x : ℕ) → x < 2 ^ c.parts.inputs → (board c).IsDecision q x ⊎ (¬ (board c).IsDecision q x)
decision_or c q x l = or_of c.parts.first c.has_duty c.verdict c.parts.inputs c.parts.outputs c.locations q x l

-- the number of a mark
abbrev pub number : Mark → ℕ
number (Win k) = k
number (Pending k) = k
number (LostIn k) = k
number m = 0

-- the numbers of locations, and of the decisions of one, summed
abbrev pub top : List Location → ℕ
top [] = 0
top (l ∷ ls) = number l.mark + top ls

abbrev pub number_in : Option Choice → ℕ
number_in None = 0
number_in (Some ch) = number ch.mark

abbrev pub total : List (Entry (Option Choice)) → ℕ
total [] = 0
total (e ∷ es) = number_in e.value + total es

bounded_by : (m : Mark) (n : ℕ) → number m ≤ n → IsWon m → IsRankBelow (suc n) m
bounded_by Goal n h w = omega arith
bounded_by (Win k) n h w = omega arith
bounded_by (Pending k) n h w = absurd w
bounded_by Lost n h w = absurd w
bounded_by Held n h w = absurd w
bounded_by (LostIn k) n h w = absurd w

total_by : (b : Bool) (e : Entry (Option Choice)) (es : List (Entry (Option Choice))) (x : ℕ) → number_in (joined (field_at es x)) ≤ total es
    → number_in (joined (if b then Some e.value else field_at es x)) ≤ number_in e.value + total es
total_by true e es x h = omega arith
total_by false e es x h = omega (arith, h)

top-le : (ls : List Location) (q : ℕ) → number (mark_in (slice_get ls q)) ≤ top ls
top-le [] q = omega arith
top-le (l ∷ ls) zero = omega arith
top-le (l ∷ ls) (suc q) = let h = top-le ls q in omega (arith, h)

total-le : (es : List (Entry (Option Choice))) (x : ℕ) → number_in (joined (field_at es x)) ≤ total es
total-le [] x = omega arith
total-le (e ∷ es) x = total_by (agrees e.cube x) e es x (total-le es x)

-- the ranks of won locations are bounded
pub rank_bounded : (c : Certificate) (q : ℕ) → IsWon (mark_at c q) → IsRankBelow (suc (top c.locations)) (mark_at c q)
rank_bounded c q w = bounded_by (mark_at c q) (top c.locations) (top-le c.locations q) w

abbrev pub total_in : Option Location → ℕ
total_in None = 0
total_in (Some l) = total l.choices

choice-le : (o : Option Location) (x : ℕ) → number_in (choice_in o x) ≤ total_in o
choice-le None x = omega arith
choice-le (Some l) x = total-le l.choices x

-- the numbers of a location's decisions are bounded
pub decision_bounded : (c : Certificate) (q x : ℕ) (m : Mark) (y : ℕ) → Decides c q x m y → number m ≤ total_in (slice_get c.locations q)
decision_bounded c q x m y d =
    let e : number_in (choice_at c q x) ≡ number m = ap number_in d.chosen in
    let h : number_in (choice_at c q x) ≤ total_in (slice_get c.locations q) = choice-le (slice_get c.locations q) x in
    omega (arith, e, h)
