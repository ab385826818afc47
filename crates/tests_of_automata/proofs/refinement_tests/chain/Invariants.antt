use Rattle.std.proofs.Common.{◌≡◌, length}
use Rattle.diagrams.specs.Live.{Keeps}
use Rattle.test_support.proofs.BuildingLemmas.{AreGood}
use Rattle.tests_of_automata.proofs.refinement_tests.chain.Given as goal

abbrev pub invariant-loop-at : goal.invariant-loop-at
invariant-loop-at l = record {
  keeps : Keeps l.fn.store l.store;
  marks : length l.marks.items ≡ l.at;
  rows : AreGood l.store l.size l.rows.items l.at;
}
