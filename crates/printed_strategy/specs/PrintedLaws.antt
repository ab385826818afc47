-- Laws of printed strategies.
use Rattle.std.specs.Prelude.{◌≡◌, ◌++◌, ℕ, List, [], Option, Some}
use Rattle.forms.specs.Word.{Word}
use Rattle.game.specs.Board.{Agent, Environment, Partition, width}
use Rattle.game.specs.Histories.{Aims, histories, IsHistory, IsDone, IsKeepable, is_given}
use Rattle.game.specs.Same.{Claims, aims_with, Agree}
use Rattle.game.specs.Arena.{Locations, IsArenaOf}
use Rattle.printed_strategy.specs.Strategy.{Strategy, location_after, move_at, answers_at}
use Rattle.printed_strategy.specs.Printed.{IsPrintedFor, AreTheSame, IsOnlyPrintedFor}
use Rattle.printed_strategy.specs.Planned.{IsComputedOn}
use Rattle.printed_strategy.specs.Headline.{KeepsPromises, Promises, Follows}
use Rattle.printed_strategy.specs.StrategyText.{strategy_text, input_names, output_names}

-- where what is assumed can be kept, the printed strategy keeps its promises
abbrev pub PrintedKeeps : Type 0
PrintedKeeps = (s : Aims) (t : Strategy) → IsPrintedFor s t → IsKeepable s [] → KeepsPromises s t

-- so it does after each history that follows it and doesn't meet the goal
abbrev pub FollowingIsPromised : Type 0
FollowingIsPromised = (s : Aims) (t : Strategy) → KeepsPromises s t → (h : Word) → IsHistory s h → Follows s t h → ¬ IsDone s h
    → (at : ℕ) × (location_after t h ≡ Some at) × Promises (histories s) (move_at t) (answers_at t) h (t.mark at)

-- each printed strategy of a specification says the same
abbrev pub PrintedIsOnly : Type 0
PrintedIsOnly = (s : Aims) (t : Strategy) → IsPrintedFor s t → IsOnlyPrintedFor s t

-- strategies that say the same have one text
abbrev pub TextIsOne : Type 0
TextIsOne = (t u : Strategy) → AreTheSame t u → (names : List (List ℕ)) → strategy_text names t ≡ strategy_text names u

-- what is computed on the arena of some claims is the printed strategy of claims that agree with them over the propositions
abbrev pub ComputedIsPrinted : Type 0
ComputedIsPrinted = (parts : Partition) (c d : Claims) → Agree (width parts) c d → (m : Locations) → IsArenaOf (aims_with parts c) m → IsKeepable (aims_with parts c) []
    → (ranks distances losses : ℕ → Option ℕ) (t : Strategy) → IsComputedOn parts (is_given c.duty) m ranks distances losses t → IsPrintedFor (aims_with parts d) t

-- a text has inputs before outputs, a specification the names of the first mover before the others
abbrev pub NamesOfAgentFirst : Type 0
NamesOfAgentFirst = (parts : Partition) (names : List (List ℕ)) → output_names Agent parts names ++ input_names Agent parts names ≡ names

abbrev pub NamesOfEnvironmentFirst : Type 0
NamesOfEnvironmentFirst = (parts : Partition) (names : List (List ℕ)) → input_names Environment parts names ++ output_names Environment parts names ≡ names
