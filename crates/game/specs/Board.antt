-- The game: who moves first, what a round is, and where rounds lead. The same notions are used of histories, of the
-- locations of an arena and of those of a certificate; only the places differ.
use Rattle.std.specs.Prelude.{◌≡◌, ◌<◌, ◌^◌, ◌+◌, ◌/◌, ◌%◌, ℕ, Bool}
pub use Rattle.forms.specs.declared.partition.Mover.{Mover}
pub use Rattle.forms.specs.declared.partition.Mover.TheVariants.{Agent, Environment}
pub use Rattle.forms.specs.declared.partition.Partition.{Partition}
pub use Rattle.game.specs.Numbers.{IsLeastNumber}

-- the number of propositions
abbrev pub width : Partition → ℕ
width s = s.inputs + s.outputs

-- the input part of a letter: the first mover's propositions have the higher weights
abbrev pub input_of : Partition → ℕ → ℕ
input_of s a = elim s.first [ Agent ↦ a % (2 ^ s.inputs) | Environment ↦ a / (2 ^ s.outputs) ]

-- the output part of a letter
abbrev pub output_of : Partition → ℕ → ℕ
output_of s a = elim s.first [ Agent ↦ a / (2 ^ s.inputs) | Environment ↦ a % (2 ^ s.outputs) ]

-- the decision that a letter belongs to: agent first the empty one, which is 0; environment first its input
abbrev pub decision_of : Partition → ℕ → ℕ
decision_of s a = elim s.first [ Agent ↦ 0 | Environment ↦ a / (2 ^ s.outputs) ]

-- a number of a decision: agent first that of the empty one, environment first an input
abbrev pub IsChoice : Partition → ℕ → Type 0
IsChoice s x = elim s.first [ Agent ↦ x ≡ 0 | Environment ↦ x < 2 ^ s.inputs ]

-- what the environment is shown before it answers: agent first the output, environment first nothing, which is 0
abbrev pub shown : Partition → ℕ → ℕ
shown s y = elim s.first [ Agent ↦ y | Environment ↦ 0 ]

-- what it may be shown: agent first an output, environment first nothing
abbrev pub IsShown : Partition → ℕ → Type 0
IsShown s y = elim s.first [ Agent ↦ y < 2 ^ s.outputs | Environment ↦ y ≡ 0 ]

-- an output
abbrev pub IsOutput : Partition → ℕ → Type 0
IsOutput s y = y < 2 ^ s.outputs

-- the letter is a round with this decision and this output
pub record IsRound (s : Partition) (x y a : ℕ) : Type 0 where
  pub letter : a < 2 ^ width s
  pub decision : decision_of s a ≡ x
  pub output : output_of s a ≡ y

-- the letter has this input and this output
pub record IsLetter (s : Partition) (x y a : ℕ) : Type 0 where
  pub letter : a < 2 ^ width s
  pub input : input_of s a ≡ x
  pub output : output_of s a ≡ y

-- Places; where a round leads; where the goal is met and where the duty was broken; which rounds are legal, and which
-- decisions there are; whether there is a duty.
pub record Board (s : Partition) : Type 1 where
  pub Place : Type 0
  pub after : Place → ℕ → Place
  pub IsMet : Place → Type 0
  pub IsBroken : Place → Type 0
  pub IsLegal : Place → ℕ → Type 0
  pub IsDecision : Place → ℕ → Type 0
  pub has_duty : Bool

-- each legal round with this decision and this output leads into P
abbrev pub EachLeads : {s : Partition} (b : Board s) → (b.Place → Type 0) → b.Place → ℕ → ℕ → Type 0
EachLeads {s = s} b P h x y = (a : ℕ) → IsRound s x y a → b.IsLegal h a → P (b.after h a)

-- some legal round with this decision and this output leads into P
abbrev pub SomeLeads : {s : Partition} (b : Board s) → (b.Place → Type 0) → b.Place → ℕ → ℕ → Type 0
SomeLeads {s = s} b P h x y = (a : ℕ) × IsRound s x y a × b.IsLegal h a × P (b.after h a)
