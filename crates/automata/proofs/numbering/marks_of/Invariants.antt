use Rattle.automata.specs.Search.{AreMarks}
use Rattle.automata.proofs.numbering.marks_of.Given as goal

abbrev pub invariant-loop-at : goal.invariant-loop-at
invariant-loop-at l = AreMarks l.automaton l.found l.marks.items l.at-index
