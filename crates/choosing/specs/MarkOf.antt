-- The mark that a mark of the code is, and what a choice is on a board.
use Rattle.std.specs.Prelude.{ℕ, Option, Some, None}
use Rattle.game.specs.Board.{Partition, Board}
use Rattle.game.specs.Marks as game
use Rattle.game.specs.Values.{IsChosen}
use Rattle.choosing.specs.declared.choice.Mark.{Mark}
use Rattle.choosing.specs.declared.choice.Mark.TheVariants.{Goal, Win, Pending, Lost, Held, LostIn}
use Rattle.choosing.specs.declared.choice.Chosen.{Chosen}

abbrev pub mark_of : Mark → game.Mark
mark_of Goal = game.Goal
mark_of (Win n) = game.Win n
mark_of (Pending n) = game.Pending n
mark_of Lost = game.Lost
mark_of Held = game.Held
mark_of (LostIn n) = game.LostIn n

-- the choice is by the numbers of the places after the decision's rounds; where there is none there is no decision
abbrev pub IsChosenThere : {s : Partition} (b : Board s) → (ranks distances losses : b.Place → Option ℕ) → b.Place → ℕ → Option Chosen → Type 0
IsChosenThere b ranks distances losses h x None = ¬ b.IsDecision h x
IsChosenThere b ranks distances losses h x (Some c) = b.IsDecision h x × IsChosen b ranks distances losses h x (mark_of c.mark) c.output
