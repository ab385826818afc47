-- The automaton of legal histories, and what is to be said where what is assumed can't be kept.
use Rattle.std.specs.Prelude.{ℕ, [], false, Option, None}
use Rattle.forms.specs.Word.{Claim, IsOver}
use Rattle.diagrams.specs.Eval.{Diagrams}
use Rattle.automata.specs.Moves.{Moves, accepts}
use Rattle.automata.specs.Table.{Table, moves_of}
use Rattle.products.specs.Watch.{Tells}
use Rattle.legality.specs.declared.fault.ArenaFault.{ArenaFault}
use Rattle.legality.specs.declared.fault.ArenaFault.TheVariants.{Unkeepable, Memory}
use Rattle.game.specs.Board.{Partition, width, IsLeastNumber}
use Rattle.game.specs.Histories.{Aims, IsLegalHistory, ViolatesWithin, histories}
use Rattle.game.specs.Playable.{IsPlayable}

-- what an automaton accepts
abbrev pub claim_of : Diagrams → Table → Claim
claim_of s t = λ w. accepts (moves_of s t) w

-- a specification in which only this is assumed; which histories are legal depends on no more
abbrev pub keeping : Partition → Option Claim → Aims
keeping p assumed = record { parts = p; goal = λ w. false; assumed = assumed; duty = None }

-- the mark after a word is 0 where it is a legal history, else 3
abbrev pub TellsLegal : Aims → Moves → Type 0
TellsLegal s l = Tells (width s.parts) l (IsLegalHistory s) 3 (λ w. ¬ IsLegalHistory s w)

-- n is the least number of rounds within which the agent can force a violation
abbrev pub IsLeastViolation : Aims → ℕ → Type 0
IsLeastViolation s n = IsLeastNumber (λ k. ViolatesWithin s k []) n

-- where the fault is that what is assumed can't be kept, its number is right
abbrev pub IsRightFault : Aims → ArenaFault → Type 0
IsRightFault s (Unkeepable n) = IsLeastViolation s n
IsRightFault s Memory = Unit {0}

-- whatever the goal and the duty, the game can be played on legal histories: before the goal there is a decision, and to each a
-- legal round with each output
abbrev pub ArePlayable : Partition → Option Claim → Type 0
ArePlayable p assumed = (goal : Claim) (duty : Option Claim)
    → IsPlayable (histories (record { parts = p; goal = goal; assumed = assumed; duty = duty })) (λ h. IsOver (width p) h × IsLegalHistory (keeping p assumed) h)
