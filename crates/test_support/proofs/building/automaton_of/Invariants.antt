use Rattle.std.proofs.Common.{◌≡◌, length}
use Rattle.diagrams.specs.Live.{Keeps}
use Rattle.test_support.proofs.BuildingLemmas.{AreGood, AreGiven}
use Rattle.test_support.proofs.building.automaton_of.Given as goal

abbrev pub invariant-loop-mark : goal.invariant-loop-mark
invariant-loop-mark l = record {
  keeps : Keeps l.fn.store l.store;
  marks : length l.marks.items ≡ l.mark-index;
  rows : AreGood l.store (length l.table) l.rows.items l.mark-index;
  given : AreGiven l.store l.last l.table l.marks.items l.rows.items l.mark-index;
}
