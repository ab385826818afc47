use Rattle.diagrams.specs.Live.{Keeps}
use Rattle.automata.specs.Search.{AreRows}
use Rattle.automata.proofs.numbering.rows_of.Given as goal

abbrev pub invariant-loop-at : goal.invariant-loop-at
invariant-loop-at l = record {
  keeps : Keeps l.fn.store l.store;
  rows : AreRows l.fn.store l.store l.automaton l.reached.found.items l.reached.places.items l.rows.items l.at-index;
}
