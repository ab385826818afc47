-- Which strategies fit a store.
use Rattle.std.specs.Prelude.{◌≡◌, ◌<◌, ◌≤◌, ◌^◌, ℕ, false, length, Option, Some, None, is_some}
use Rattle.diagrams.specs.declared.top.Id.{Id}
use Rattle.diagrams.specs.Tree.{Assignment}
use Rattle.diagrams.specs.Eval.{Diagrams, DependsOn, eval, id_at}
use Rattle.diagrams.specs.Live.{IsLive}
use Rattle.game.specs.Board.{Partition, width}
use Rattle.printed_strategy.specs.Strategy.{is_goal}
use Rattle.printed_strategy.specs.StrategyText.{has_answers, shown_width}
use Rattle.choosing.specs.declared.choice.Mark.{Mark}
use Rattle.choosing.specs.declared.choice.Mark.TheVariants.{Goal, Win, Pending, Lost, Held, LostIn}
use Rattle.choosing.specs.declared.choice.Chosen.{Chosen}
use Rattle.choosing.specs.Choices.{AreDistinct}
use Rattle.choosing.specs.Cuts.{IsCutRow}
use Rattle.choosing.specs.MarkOf.{mark_of}
use Rattle.strategy.specs.declared.strategy.Strategy.{Strategy as Kept}
use Rattle.strategy.specs.Plan.{size_of, mark_at, answer_at, decision_end, choice_at}

-- a row leads to locations, of which there are so many, or to their number for an illegal round
pub record IsRow (s : Diagrams) (props size : ℕ) (row : Id) : Type 0 where
  pub live : IsLive s row
  pub over : DependsOn s row (λ v. v < props)
  pub targets : (a : Assignment) → eval s row a ≤ size

-- a diagram of inputs over what the environment is shown
pub record IsAnswerTable (s : Diagrams) (parts : Partition) (id : Id) : Type 0 where
  pub live : IsLive s id
  pub over : DependsOn s id (λ v. v < shown_width parts.first parts)
  pub inputs : (a : Assignment) → eval s id a < 2 ^ parts.inputs

-- a number of 64 bits at most
abbrev pub IsSmall : Mark → Type 0
IsSmall Goal = Unit {0}
IsSmall (Win n) = n < 2 ^ 64
IsSmall (Pending n) = n < 2 ^ 64
IsSmall Lost = Unit {0}
IsSmall Held = Unit {0}
IsSmall (LostIn n) = n < 2 ^ 64

-- the numbers of a choice fit
abbrev pub IsSmallChosen : ℕ → Option Chosen → Type 0
IsSmallChosen outputs None = Unit {0}
IsSmallChosen outputs (Some c) = IsSmall c.mark × (c.output < 2 ^ outputs)

-- what stands at a location fits: the row, the diagram of the choices, and a table exactly where there are answers
pub record FitsAt (s : Diagrams) (k : Kept) (at : ℕ) : Type 0 where
  pub row : IsRow s (width k.partition) (size_of k) (id_at k.rows.items at)
  pub move : IsCutRow s (decision_end k.partition) (length k.choices.keys) (id_at k.moves.items at)
  pub small : (a : Assignment) → IsSmallChosen k.partition.outputs (choice_at k (eval s (id_at k.moves.items at) a))
  pub answered : is_goal (mark_of (mark_at k at)) ≡ false → has_answers (mark_of (mark_at k at)) ≡ is_some (answer_at k at)
  pub table : (id : Id) → answer_at k at ≡ Some id → IsAnswerTable s k.partition id

-- the strategy belongs to the store
pub record FitsStrategy (s : Diagrams) (k : Kept) : Type 0 where
  pub props : s.props ≡ width k.partition
  pub rows : length k.rows.items ≡ size_of k
  pub moves : length k.moves.items ≡ size_of k
  pub answers : length k.answers.items ≡ size_of k
  pub distinct : AreDistinct k.choices.keys
  pub each : (at : ℕ) → at < size_of k → FitsAt s k at
