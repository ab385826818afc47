use Rattle.products.specs.Ends.{AreEnded}
use Rattle.products.proofs.ends.ended.Given as goal

abbrev pub invariant-loop-at : goal.invariant-loop-at
invariant-loop-at l = AreEnded l.automaton l.past l.marks.items l.rows.items l.at
