-- Numbers of decisions, and the equation that distances solve.
use Rattle.std.specs.Prelude.{◌≡◌, ◌<◌, ◌≤◌, ◌+◌, ◌^◌, ◌⊎◌, ◌↔◌, ℕ, suc, zero, true, Bool, if◌then◌else◌, nat_lt, Option, Some, None}
use Rattle.diagrams.specs.Tree.{Tree, value_at, IsReduced, AllVars}
use Rattle.diagrams.specs.Eval.{letter_truth}
use Rattle.game.specs.Board.{IsOutput, SomeLeads, width, decision_of}
use Rattle.forms.specs.declared.partition.Partition.{Partition}
use Rattle.game.specs.Winning.{DecisionWinsWithin}
use Rattle.game.specs.Arena.{Locations, locations, IsDecisionThere}
use Rattle.attractor.specs.Minimax.{IsWithin}

-- the number of a decision is one less than the rounds within which it is won, where it can be
abbrev pub AreWon : (s : Partition) → Bool → Locations → (ℕ → ℕ → Option ℕ) → Type 0
AreWon s duty m won = (at x n : ℕ) → at < m.size → IsDecisionThere s m at x → DecisionWinsWithin (locations s duty m) (suc n) at x ↔ IsWithin n (won at x)

-- the decision is won within n + 1 rounds, or can't be and some legal round with it leads to a distance within n
abbrev pub HopesWithin : (s : Partition) → Bool → Locations → (ℕ → ℕ → Option ℕ) → (ℕ → Option ℕ) → ℕ → ℕ → ℕ → Type 0
HopesWithin s duty m won distance n at x =
    IsWithin n (won at x) ⊎ ((won at x ≡ None) × (y : ℕ) × IsOutput s y × SomeLeads (locations s duty m) (λ k. IsWithin n (distance k)) at x y)

-- the distance is 0 at a goal, and else one more than the least for a decision
pub record AreHoped (s : Partition) (duty : Bool) (m : Locations) (won : ℕ → ℕ → Option ℕ) (distance : ℕ → Option ℕ) : Type 0 where
  pub first : (at : ℕ) → at < m.size → (m.is_goal at ≡ true) ↔ IsWithin zero (distance at)
  pub later : (at n : ℕ) → at < m.size
      → ((m.is_goal at ≡ true) ⊎ ((x : ℕ) × IsDecisionThere s m at x × HopesWithin s duty m won distance n at x)) ↔ IsWithin (suc n) (distance at)

-- Rows in which decisions that can be won lead to their numbers: number k is terminal `size + 1 + k`. The others lead on.
pub record IsReplaced (s : Partition) (m : Locations) (won : ℕ → ℕ → Option ℕ) (at : ℕ) (t : Tree) : Type 0 where
  pub reduced : IsReduced t
  pub vars : AllVars (λ v. v < width s) t
  pub number : (a k : ℕ) → a < 2 ^ width s → won at (decision_of s a) ≡ Some k → value_at t (letter_truth (width s) a) ≡ suc m.size + k
  pub other : (a : ℕ) → a < 2 ^ width s → won at (decision_of s a) ≡ None → value_at t (letter_truth (width s) a) ≡ m.next at a
  pub targets : (a : ℕ) → a < 2 ^ width s → m.next at a ≤ m.size
  pub decides : (a k : ℕ) → a < 2 ^ width s → won at (decision_of s a) ≡ Some k → IsDecisionThere s m at (decision_of s a)

-- a number below the bound, or none
abbrev pub decoded : ℕ → ℕ → Option ℕ
decoded bound code = if nat_lt code bound then Some code else None

-- the code of a rank: itself, or the bound where there is none
abbrev pub code_of : ℕ → Option ℕ → ℕ
code_of bound None = bound
code_of bound (Some k) = k

-- one less, where there is one less
abbrev pub before : Option ℕ → Option ℕ
before None = None
before (Some zero) = Some 0
before (Some (suc k)) = Some k
