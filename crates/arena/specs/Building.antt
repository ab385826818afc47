-- What is built of the automata of a specification.
use Rattle.std.specs.Prelude.{◌≡◌, ◌<◌, ◌+◌, ℕ, false, true, Option, Some, None}
use Rattle.forms.specs.Word.{Word, Claim, IsOver}
use Rattle.diagrams.specs.Eval.{Diagrams}
use Rattle.automata.specs.Moves.{Moves}
use Rattle.automata.specs.Table.{Table, size_of, Fits}
use Rattle.products.specs.Watch.{Tells}
use Rattle.game.specs.Board.{Partition, width, IsOutput, IsRound}
use Rattle.game.specs.Histories.{Aims, IsHistory, IsLegalHistory, IsLegalRound, IsDecisionAt, histories}
use Rattle.game.specs.Playable.{IsPlayable}
use Rattle.legality.specs.Legal.{claim_of}

-- what an automaton accepts, where there is one
abbrev pub claim_where : Diagrams → Option Table → Option Claim
claim_where s None = None
claim_where s (Some t) = Some (claim_of s t)

-- the automaton, where there is one, fits the store
abbrev pub FitsWhere : Diagrams → Option Table → Type 0
FitsWhere s None = Unit {0}
FitsWhere s (Some t) = Fits s t

-- the specification whose claims are what these automata accept
abbrev pub aims_of : Diagrams → Partition → Table → Option Table → Option Table → Aims
aims_of s p goal keep duty = record { parts = p; goal = claim_of s goal; assumed = claim_where s keep; duty = claim_where s duty }

-- the mark after a word is 1 where the goal's claim holds, else 0
abbrev pub TellsGoal : Aims → Moves → Type 0
TellsGoal s g = Tells (width s.parts) g (λ w. s.goal w ≡ false) 1 (λ w. s.goal w ≡ true)

-- the automaton, where there is one, begins at one of its locations
abbrev pub BeginsWhere : Option Table → Type 0
BeginsWhere None = Unit {0}
BeginsWhere (Some t) = t.first < size_of t

-- how many locations what is assumed, and the duty, can tell apart: a broken duty is one more
abbrev pub assumed_count : Option Table → ℕ
assumed_count None = 1
assumed_count (Some t) = size_of t

abbrev pub duty_count : Option Table → ℕ
duty_count None = 1
duty_count (Some t) = size_of t + 1

-- The game can be played on legal histories. Before the goal each has a decision, agent first the one there is and environment
-- first a legal input; and each decision has with each output a legal round.
abbrev pub GoesOnLegally : Aims → Type 0
GoesOnLegally s = IsPlayable (histories s) (λ h. IsOver (width s.parts) h × IsLegalHistory s h)

-- Each legal history goes on, also one that meets the goal. It has a decision, agent first the one there is and environment first
-- a legal input; and each decision has with each output a legal round.
pub record EachHistoryGoesOn (s : Aims) : Type 0 where
  pub decision : (h : Word) → IsHistory s h → IsLegalHistory s h → (x : ℕ) × IsDecisionAt s h x
  pub round : (h : Word) (x y : ℕ) → IsHistory s h → IsLegalHistory s h → IsDecisionAt s h x → IsOutput s.parts y → (a : ℕ) × IsRound s.parts x y a × IsLegalRound s h a
