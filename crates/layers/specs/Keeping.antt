-- Moves after which the duty can still be kept, along the plays that follow them.
use Rattle.std.specs.Prelude.{ℕ, zero, suc}
use Rattle.game.specs.Board.{Partition, Board, EachLeads}
use Rattle.game.specs.Winning.{KeepsDuty}
use Rattle.game.specs.Following.{Moves}

-- in each of the next n rounds of each legal play that follows the moves, the duty can still be kept after the move
abbrev pub KeepsDutyAlong : {s : Partition} (b : Board s) → Moves b → ℕ → b.Place → Type 0
KeepsDutyAlong b move zero h = Unit {0}
KeepsDutyAlong b move (suc n) h = (x : ℕ) → b.IsDecision h x → KeepsDuty b h x (move h x) × EachLeads b (KeepsDutyAlong b move n) h x (move h x)
