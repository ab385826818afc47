-- The headline, after Aminof, De Giacomo and Rubin (2021): for every specification `synth` prints a strategy which, at every history
-- that it and a legal environment can reach, wins within the printed least number of rounds if any strategy can force the goal, and
-- otherwise keeps a legal continuation that meets the goal wherever one exists; if the goal can't be forced from the start, the
-- printed answers of the environment refute every number of rounds.
use Rattle.std.specs.Prelude.{◌≡◌, ℕ, List, [], Option, Some}
use Rattle.std.specs.Io.KnownBytes.{append_known}
use Rattle.forms.specs.Word.{Word}
use Rattle.game.specs.Board.{width}
use Rattle.game.specs.Histories.{Aims, histories, IsHistory, IsDone, IsKeepable}
use Rattle.printed_strategy.specs.Strategy.{Strategy, location_after, move_at, answers_at}
use Rattle.printed_strategy.specs.Printed.{IsPrintedFor, IsOnlyPrintedFor}
use Rattle.printed_strategy.specs.Headline.{KeepsPromises, Promises, Follows}
use Rattle.printed_strategy.specs.StrategyText.{strategy_text}
use Rattle.spec_reader.specs.Specification.{Specification, IsSpecificationOf}
use Rattle.synthesis.specs.Formulas.{HasFewLocations}
use Rattle.command_endings.specs.Endings.{status_of}
use Rattle.synth_command.specs.Synthesis.{asked_of, aims_of, IsWithinLimit, verdict_ending}

-- a history that the strategy and a legal environment can reach has a location until it meets the goal, and what the location's
-- mark promises stands there
abbrev pub KeepsWhereReached : Aims → Strategy → Type 0
KeepsWhereReached s t = (h : Word) → IsHistory s h → Follows s t h → ¬ IsDone s h
    → (at : ℕ) × (location_after t h ≡ Some at) × Promises (histories s) (move_at t) (answers_at t) h (t.mark at)

-- The bytes are a specification file, within its limit, and what is assumed can be kept. What the output gained is the text of its
-- strategy: the printed one, of which each other says the same. That keeps its promises where it and a legal environment lead, and at
-- every running history, also after the agent departed from it, and from each decision there. Its numbers and its locations are few.
-- The status is 0 exactly where the goal is forced from the start.
pub record PrintsStrategy (bytes : List ℕ) (old new : Option (List ℕ)) (number : ℕ) : Type 0 where
  pub specification : Specification
  pub read : IsSpecificationOf bytes specification
  pub within : IsWithinLimit specification
  pub kept : IsKeepable (aims_of specification) []
  pub strategy : Strategy
  pub printed : IsPrintedFor (aims_of specification) strategy
  pub only : IsOnlyPrintedFor (aims_of specification) strategy
  pub added : new ≡ append_known old (strategy_text specification.names strategy)
  pub reached : KeepsWhereReached (aims_of specification) strategy
  pub keeps : KeepsPromises (aims_of specification) strategy
  pub few : HasFewLocations (width specification.partition) (asked_of specification) strategy.size
  pub status : number ≡ status_of (verdict_ending strategy.verdict)
