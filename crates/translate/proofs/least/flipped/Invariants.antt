use Rattle.translate.proofs.LeastLemmas.{IsFlippedTo}
use Rattle.translate.proofs.least.flipped.Given as goal

abbrev pub invariant-loop-at : goal.invariant-loop-at
invariant-loop-at l = IsFlippedTo l.automaton l.marks.items l.rows.items l.at
