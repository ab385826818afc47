use Rattle.diagrams.specs.Live.{Keeps}
use Rattle.products.specs.Stops.{AreStopped}
use Rattle.products.proofs.stops.stopped.Given as goal

abbrev pub invariant-loop-at : goal.invariant-loop-at
invariant-loop-at l = record {
  keeps : Keeps l.fn.store l.store;
  made : AreStopped l.store l.automaton l.marks.items l.rows.items l.at;
}
