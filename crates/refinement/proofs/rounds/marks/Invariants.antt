use Rattle.diagrams.specs.Live.{Keeps}
use Rattle.refinement.proofs.Starting.{AreMarks}
use Rattle.refinement.proofs.rounds.marks.Given as goal

abbrev pub invariant-loop-at : goal.invariant-loop-at
invariant-loop-at l = record {
  keeps : Keeps l.fn.store l.store;
  marks : AreMarks l.store l.automaton l.found.items l.at;
}
