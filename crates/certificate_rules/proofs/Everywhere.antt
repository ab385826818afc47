-- The rules of a valid certificate at every place, and what every rule's proof needs of marks and rounds.
use Rattle.std.proofs.Common.{◌≡◌, ◌≢◌, ◌<◌, ◌≤◌, ◌^◌, ◌+◌, ◌*◌, ◌%◌, ◌/◌, ◌⊎◌, inl, inr, ℕ, length, List, Option, Some, None, IsSome, Bool, refl, sym, ap, subst, ◌∙◌, arith}
use Rattle.std.proofs.Math.Nat.{mul_comm}
use Rattle.std.proofs.lemmas.Bool.{cases_lt}
use Rattle.std.proofs.lemmas.Option.{slice_get_past}
use Rattle.std.proofs.lemmas.Nat.{div-mul-add, mod-mul-add, mul-add-lt, pow-add}
use Rattle.game.specs.Board.{Mover, Agent, Environment, IsOutput, SomeLeads}
use Rattle.game.specs.Marks.{Mark, Goal, Win, Pending, Lost, Held, LostIn}
use Rattle.certificate_rules.specs.Certificate.{Certificate, Location, Choice, board, mark_at, mark_in, choice_at, HasDuty, Decides, IsDecisionOf}
use Rattle.certificate_rules.specs.Rules as rules
use Rattle.certificate_rules.specs.Rules.{Rule, Says, IsValid, CanPlay, EachDecision, IsWinningMove, WinsNoSooner, IsRanked, IsAnswered, IsHopefulMove, ReachesNoSooner, IsValued, IsKept, IsLossOf, IsLeastLoss, IsRankBelow, IsWon, HasValueBelow, IsLossBelow}

-- the rules at every place that is not `goal`
pub record Everywhere (c : Certificate) : Type 0 where
  pub play : (q : ℕ) → mark_at c q ≢ Goal → CanPlay c.parts.first c q
  pub winning : (q : ℕ) → mark_at c q ≢ Goal → EachDecision c q (IsWinningMove c q)
  pub sooner : (q : ℕ) → mark_at c q ≢ Goal → EachDecision c q (WinsNoSooner c q)
  pub ranked : (q : ℕ) → mark_at c q ≢ Goal → IsRanked c q
  pub answered : (q : ℕ) → mark_at c q ≢ Goal → IsAnswered c q
  pub hopeful : (q : ℕ) → mark_at c q ≢ Goal → EachDecision c q (IsHopefulMove c q)
  pub nearer : (q : ℕ) → mark_at c q ≢ Goal → EachDecision c q (ReachesNoSooner c q)
  pub valued : (q : ℕ) → mark_at c q ≢ Goal → IsValued c q (mark_at c q)
  pub kept : HasDuty c → (q : ℕ) → mark_at c q ≢ Goal → IsKept c q
  pub losses : HasDuty c → (q : ℕ) → mark_at c q ≢ Goal → EachDecision c q (IsLossOf c q)
  pub least : HasDuty c → (q : ℕ) → mark_at c q ≢ Goal → IsLeastLoss c q (mark_at c q)

-- past the last location every place is `goal`
pub mark_past : (c : Certificate) (q : ℕ) → length c.locations ≤ q → mark_at c q ≡ Goal
mark_past c q h = ap mark_in (slice_get_past c.locations q h)

inside : (c : Certificate) (q : ℕ) → mark_at c q ≢ Goal → q < length c.locations
inside c q ne = elim (cases_lt q (length c.locations)) [ inl h ↦ h | inr h ↦ absurd (ne (mark_past c q h)) ]

pub everywhere : (c : Certificate) → IsValid c → Everywhere c
everywhere c v = record {
  play = λ q ne. v rules.Rounds q (inside c q ne) ne;
  winning = λ q ne. v rules.WinningMoves q (inside c q ne) ne;
  sooner = λ q ne. v rules.Sooner q (inside c q ne) ne;
  ranked = λ q ne. v rules.Ranks q (inside c q ne) ne;
  answered = λ q ne. v rules.Answers q (inside c q ne) ne;
  hopeful = λ q ne. v rules.HopefulMoves q (inside c q ne) ne;
  nearer = λ q ne. v rules.Nearer q (inside c q ne) ne;
  valued = λ q ne. v rules.Values q (inside c q ne) ne;
  kept = λ d q ne. v rules.Duties q (inside c q ne) d ne;
  losses = λ d q ne. v rules.Losses q (inside c q ne) d ne;
  least = λ d q ne. v rules.LossNumbers q (inside c q ne) d ne;
}

-- a mark that is known is no `goal`
pub not_goal : (c : Certificate) (q : ℕ) (m : Mark) → mark_at c q ≡ m → m ≢ Goal → mark_at c q ≢ Goal
not_goal c q m e ne g = ne (sym e ∙ g)

pub win_no_goal : (n : ℕ) → Win n ≢ Goal
win_no_goal n e = cc

pub pending_no_goal : (n : ℕ) → Pending n ≢ Goal
pending_no_goal n e = cc

pub lost_no_goal : Lost ≢ Goal
lost_no_goal e = cc

pub held_no_goal : Held ≢ Goal
held_no_goal e = cc

pub loss_no_goal : (n : ℕ) → LostIn n ≢ Goal
loss_no_goal n e = cc

-- a mark is `goal` or not
pub goal_or : (m : Mark) → (m ≡ Goal) ⊎ (m ≢ Goal)
goal_or Goal = inl refl
goal_or (Win n) = inr (win_no_goal n)
goal_or (Pending n) = inr (pending_no_goal n)
goal_or Lost = inr lost_no_goal
goal_or Held = inr held_no_goal
goal_or (LostIn n) = inr (loss_no_goal n)

-- a lower bound on a rank is a bound
pub rank_more : (m : Mark) (j k : ℕ) → j ≤ k → IsRankBelow j m → IsRankBelow k m
rank_more Goal j k le h = omega arith
rank_more (Win n) j k le h = omega arith
rank_more (Pending n) j k le h = h
rank_more Lost j k le h = h
rank_more Held j k le h = h
rank_more (LostIn n) j k le h = h

pub loss_more : (m : Mark) (j k : ℕ) → j ≤ k → IsLossBelow j m → IsLossBelow k m
loss_more Goal j k le h = h
loss_more (Win n) j k le h = h
loss_more (Pending n) j k le h = h
loss_more Lost j k le h = h
loss_more Held j k le h = h
loss_more (LostIn n) j k le h = omega arith

-- what has a rank is won
pub won_of_rank : (m : Mark) (n : ℕ) → IsRankBelow n m → IsWon m
won_of_rank Goal n h = tt
won_of_rank (Win k) n h = tt
won_of_rank (Pending k) n h = h
won_of_rank Lost n h = h
won_of_rank Held n h = h
won_of_rank (LostIn k) n h = h

pub value_more : (c : Certificate) (q j k : ℕ) → j ≤ k → HasValueBelow c j q → HasValueBelow c k q
value_more c q j k le (inl g) = inl (g.0, omega arith)
value_more c q j k le (inr h) = inr (h.0, h.1, omega arith)

-- a certificate by its parts, so that who moves first can be split on
abbrev pub made_of : Mover → Bool → Option ℕ → ℕ → ℕ → List Location → Certificate
made_of f u w i o ls = record { has_duty = u; verdict = w; parts = record { first = f; inputs = i; outputs = o }; locations = ls }

pub chosen_of : (c : Certificate) (q x : ℕ) → (board c).IsDecision q x → (o : Option Choice) → choice_at c q x ≡ o → IsSome o → (m : Mark) × (y : ℕ) × Decides c q x m y
chosen_of c q x d (Some ch) e h = (ch.mark, ch.output, record { decision = d; chosen = e })
chosen_of c q x d None e h = cc

pub decided_of : (f : Mover) (u : Bool) (w : Option ℕ) (i o : ℕ) (ls : List Location) (q x : ℕ) → CanPlay f (made_of f u w i o ls) q → IsDecisionOf f (made_of f u w i o ls) q x
    → (m : Mark) × (y : ℕ) × Decides (made_of f u w i o ls) q x m y
decided_of Agent u w i o ls q x p d =
    let P : ℕ → Type 0 = λ z. IsSome (choice_at (made_of Agent u w i o ls) q z) in
    chosen_of (made_of Agent u w i o ls) q x d (choice_at (made_of Agent u w i o ls) q x) refl (subst P (sym d) p.chosen)
decided_of Environment u w i o ls q x p d =
    chosen_of (made_of Environment u w i o ls) q x d (choice_at (made_of Environment u w i o ls) q x) refl d.1

-- what a decision is marked and moved with
pub decided : (c : Certificate) → Everywhere c → (q x : ℕ) → mark_at c q ≢ Goal → (board c).IsDecision q x → (m : Mark) × (y : ℕ) × Decides c q x m y
decided c v q x ne d = decided_of c.parts.first c.has_duty c.verdict c.parts.inputs c.parts.outputs c.locations q x (v.play q ne) d

pub some_is_none : {A : Type 0} (o : Option A) → IsSome o → o ≡ None → ⊥
some_is_none (Some x) h e = cc
some_is_none None h e = cc

pub letter_of : (f : Mover) (u : Bool) (w : Option ℕ) (i o : ℕ) (ls : List Location) (q x y : ℕ) → CanPlay f (made_of f u w i o ls) q → IsDecisionOf f (made_of f u w i o ls) q x
    → y < 2 ^ o → SomeLeads (board (made_of f u w i o ls)) (λ g. Unit {0}) q x y
letter_of Agent u w i o ls q x y p d out =
    let h = p.legal y out in (h.0, record { letter = h.1; decision = sym d; output = h.2 }, h.3, tt)
letter_of Environment u w i o ls q x y p d out =
    let power : 2 ^ (i + o) ≡ 2 ^ o * 2 ^ i = pow-add 2 i o ∙ mul_comm (2 ^ i) (2 ^ o) in
    let below : x * 2 ^ o + y < 2 ^ (i + o) = subst (λ (n : ℕ). x * 2 ^ o + y < n) (sym power) (mul-add-lt x (2 ^ o) y (2 ^ i) d.0 out) in
    let whole : (x * 2 ^ o + y) / 2 ^ o ≡ x = div-mul-add x (2 ^ o) y out in
    let rest : (x * 2 ^ o + y) % 2 ^ o ≡ y = mod-mul-add x (2 ^ o) y out in (
      x * 2 ^ o + y,
      record { letter = below; decision = whole; output = rest },
      elim (p.alike x d.0) [
        | inl all ↦ all (x * 2 ^ o + y) below whole
        | inr none ↦ absurd (some_is_none _ d.1 ((p.chosen x d.0).1 none))
      ],
      tt,
    )

-- some legal letter has the decision and the output
pub legal_letter : (c : Certificate) → Everywhere c → (q x y : ℕ) → mark_at c q ≢ Goal → (board c).IsDecision q x → IsOutput c.parts y
    → SomeLeads (board c) (λ g. Unit {0}) q x y
legal_letter c v q x y ne d o = letter_of c.parts.first c.has_duty c.verdict c.parts.inputs c.parts.outputs c.locations q x y (v.play q ne) d o
