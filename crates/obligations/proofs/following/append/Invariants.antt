use Rattle.std.proofs.Common.{length}
use Rattle.obligations.specs.Value.{FitsCells}
use Rattle.obligations.specs.Followed.{GoesOn}
use Rattle.obligations.specs.Entered.{HasEnds}
use Rattle.obligations.proofs.following.append.Given as goal

abbrev pub invariant-loop-at : goal.invariant-loop-at
invariant-loop-at l = record {
  fits : FitsCells l.store l.cells;
  grows : GoesOn l.fn.cells l.cells;
  ends : HasEnds l.cells l.automaton (length l.fn.cells) l.at;
}
