-- Which strategy is kept.
use Rattle.std.specs.Prelude.{ℕ, length, slice_index_or, Option, Some, None, nat_lt, if◌then◌else◌}
use Rattle.diagrams.specs.declared.top.Id.{Id}
use Rattle.diagrams.specs.Eval.{Diagrams, eval, id_at, letter_truth}
use Rattle.game.specs.Board.{Partition, width}
use Rattle.printed_strategy.specs.Strategy.{Strategy, Choice}
use Rattle.choosing.specs.declared.choice.Mark.{Mark}
use Rattle.choosing.specs.declared.choice.Mark.TheVariants.{Lost}
use Rattle.choosing.specs.declared.choice.Chosen.{Chosen}
use Rattle.strategy.specs.declared.strategy.Strategy.{Strategy as Kept}
use Rattle.choosing.specs.MarkOf.{mark_of}
use Rattle.choosing.specs.Rounds.{from_of}

-- the number of locations
abbrev pub size_of : Kept → ℕ
size_of k = length k.marks.items

abbrev pub mark_at : Kept → ℕ → Mark
mark_at k at = slice_index_or k.marks.items at Lost

abbrev pub answer_at : Kept → ℕ → Option Id
answer_at k at = slice_index_or k.answers.items at None

-- the variables before it are the decision's
abbrev pub decision_end : Partition → ℕ
decision_end s = from_of s.first s.inputs

-- the location, where it is one
abbrev pub target_at : ℕ → ℕ → Option ℕ
target_at size v = if nat_lt v size then Some v else None

-- the choice with this number
abbrev pub choice_at : Kept → ℕ → Option Chosen
choice_at k n = slice_index_or k.choices.keys n None

-- the choice to which the location's diagram leads for a decision
abbrev pub chosen_at : Diagrams → Kept → ℕ → ℕ → Option Chosen
chosen_at s k at x = choice_at k (eval s (id_at k.moves.items at) (letter_truth (decision_end k.partition) x))

-- the inputs of a table, by outputs
abbrev pub table_of : Diagrams → ℕ → Option Id → Option (ℕ → ℕ)
table_of s outputs None = None
table_of s outputs (Some id) = Some (λ y. eval s id (letter_truth outputs y))

-- the choice as it is printed, where there is one
abbrev pub choice_of : Option Chosen → Option Choice
choice_of None = None
choice_of (Some c) = Some (record { mark = mark_of c.mark; output = c.output })

-- the strategy that is kept
abbrev pub plan_of : Diagrams → Kept → Strategy
plan_of s k = record {
  parts = k.partition;
  has_duty = k.duty;
  verdict = k.verdict;
  size = size_of k;
  mark = λ at. mark_of (mark_at k at);
  target = λ at a. target_at (size_of k) (eval s (id_at k.rows.items at) (letter_truth (width k.partition) a));
  choice = λ at x. choice_of (chosen_at s k at x);
  answers = λ at. table_of s k.partition.outputs (answer_at k at);
}
