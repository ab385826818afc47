use Rattle.legality.specs.Violation.{AreWatchedRows}
use Rattle.legality.proofs.legality.watched_rows.Given as goal

abbrev pub invariant-loop-at : goal.invariant-loop-at
invariant-loop-at l = AreWatchedRows l.automaton l.rows.items l.violated.items l.at
