-- Histories of a specification, as places of the game.
use Rattle.std.specs.Prelude.{◌≡◌, ◌≢◌, ◌<◌, ◌^◌, ◌⊎◌, ℕ, [], ◌∷◌, ◌++◌, Bool, true, false, Option, Some, None}
use Rattle.forms.specs.Word.{Word, Claim, IsOver}
use Rattle.game.specs.Board.{Board, Partition, Agent, Environment, width, input_of, IsChoice}
use Rattle.game.specs.Winning.{WinsWithin}

-- What a specification asks for: who moves how; which histories meet the goal, the duty aside; what is assumed of each
-- nonempty prefix, and what the duty asks of each, where there is such. The goal's claim is what its formula says of each
-- trace, and of the empty word where the specification admits it.
pub record Aims : Type 0 where
  pub parts : Partition
  pub goal : Claim
  pub assumed : Option Claim
  pub duty : Option Claim

-- there is a claim, and some nonempty prefix of the history doesn't satisfy it
abbrev pub IsViolated : Option Claim → Word → Type 0
IsViolated None h = ⊥
IsViolated (Some claim) h = (u v : Word) × (h ≡ u ++ v) × (u ≢ []) × (claim u ≡ false)

-- the history with one more round
abbrev pub one_more : Word → ℕ → Word
one_more h a = h ++ a ∷ []

-- the game in which the agent tries to violate what is assumed: each round may be played
abbrev pub violation : (s : Aims) → Board s.parts
violation s = record {
  Place = Word;
  after = one_more;
  IsMet = IsViolated s.assumed;
  IsBroken = λ h. ⊥;
  IsLegal = λ h a. Unit {0};
  IsDecision = λ h x. IsChoice s.parts x;
  has_duty = false;
}

-- the agent can force a violation of what is assumed within n rounds
abbrev pub ViolatesWithin : Aims → ℕ → Word → Type 0
ViolatesWithin s n h = WinsWithin (violation s) n h

-- the agent can't force a violation of what is assumed
abbrev pub IsKeepable : Aims → Word → Type 0
IsKeepable s h = (n : ℕ) → ¬ ViolatesWithin s n h

-- each round with the input leads to where what is assumed can be kept
abbrev pub IsInputLegal : Aims → Word → ℕ → Type 0
IsInputLegal s h x = (a : ℕ) → a < 2 ^ width s.parts → input_of s.parts a ≡ x → IsKeepable s (one_more h a)

-- a legal round: agent first what is assumed can be kept after it, environment first after every round with its input
abbrev pub IsLegalRound : Aims → Word → ℕ → Type 0
IsLegalRound s h a = elim s.parts.first [ Agent ↦ IsKeepable s (one_more h a) | Environment ↦ IsInputLegal s h (input_of s.parts a) ]

-- a decision: agent first the empty one, environment first each legal input
abbrev pub IsDecisionAt : Aims → Word → ℕ → Type 0
IsDecisionAt s h x = elim s.parts.first [ Agent ↦ x ≡ 0 | Environment ↦ (x < 2 ^ s.parts.inputs) × IsInputLegal s h x ]

-- the history meets the goal: it hasn't broken the duty, and satisfies the goal
abbrev pub IsDone : Aims → Word → Type 0
IsDone s h = (¬ IsViolated s.duty h) × (s.goal h ≡ true)

-- whether there is such a claim
abbrev pub is_given : Option Claim → Bool
is_given None = false
is_given (Some claim) = true

-- the game of a specification, on histories
abbrev pub histories : (s : Aims) → Board s.parts
histories s = record {
  Place = Word;
  after = one_more;
  IsMet = IsDone s;
  IsBroken = IsViolated s.duty;
  IsLegal = IsLegalRound s;
  IsDecision = IsDecisionAt s;
  has_duty = is_given s.duty;
}

-- each round is legal
abbrev pub IsLegalHistory : Aims → Word → Type 0
IsLegalHistory s h = (u v : Word) (a : ℕ) → h ≡ u ++ a ∷ v → (a < 2 ^ width s.parts) × IsLegalRound s u a

-- it is legal, and no prefix meets the goal
abbrev pub IsRunning : Aims → Word → Type 0
IsRunning s h = IsLegalHistory s h × ((u v : Word) → h ≡ u ++ v → ¬ IsDone s u)

-- it is legal and meets the goal, and no proper prefix does
abbrev pub IsMetFirst : Aims → Word → Type 0
IsMetFirst s h = IsLegalHistory s h × IsDone s h × ((u v : Word) → h ≡ u ++ v → v ≢ [] → ¬ IsDone s u)

-- a history is live where it is legal and no proper prefix meets the goal
abbrev pub IsLive : Aims → Word → Type 0
IsLive s h = IsRunning s h ⊎ IsMetFirst s h

-- a history over the specification's propositions
abbrev pub IsHistory : Aims → Word → Type 0
IsHistory s h = IsOver (width s.parts) h

-- one that is live
abbrev pub IsLiveHistory : Aims → Word → Type 0
IsLiveHistory s h = IsHistory s h × IsLive s h

-- By its shortest prefix that is illegal or meets the goal a history goes on, with the duty not broken or broken; meets the
-- goal just now; went past it; or is illegal.
pub data Kind : Type 0 where
  Running Broken Met Past Illegal : Kind

abbrev pub HasKind : Aims → Word → Kind → Type 0
HasKind s h Running = IsRunning s h × (¬ IsViolated s.duty h)
HasKind s h Broken = IsRunning s h × IsViolated s.duty h
HasKind s h Met = IsMetFirst s h
HasKind s h Past = (u v : Word) × (h ≡ u ++ v) × (v ≢ []) × IsMetFirst s u
HasKind s h Illegal = (u v : Word) × (a : ℕ) × (h ≡ u ++ a ∷ v) × IsRunning s u × (¬ IsLegalRound s u a)

-- the two have one location: with each continuation they have one kind
abbrev pub ShareLocation : Aims → Word → Word → Type 0
ShareLocation s u v = (w : Word) → IsOver (width s.parts) w → (k : Kind) × HasKind s (u ++ w) k × HasKind s (v ++ w) k
