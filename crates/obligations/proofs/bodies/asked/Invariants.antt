use Rattle.std.proofs.Common.{◌≡◌, ◌+◌, drop}
use Rattle.diagrams.specs.Live.{Keeps}
use Rattle.obligations.specs.Entered.{Asks}
use Rattle.obligations.proofs.bodies.asked.Given as goal

abbrev pub invariant-loop-k : goal.invariant-loop-k
invariant-loop-k l = record {
  keeps : Keeps l.fn.store l.store;
  first : l.first ≡ l.store.props + l.base;
  asks : Asks l.store l.base l.size (drop l.k l.ats) l.whole;
}
