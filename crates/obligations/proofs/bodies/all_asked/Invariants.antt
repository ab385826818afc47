use Rattle.diagrams.specs.Live.{Keeps}
use Rattle.obligations.specs.Followed.{wider_of}
use Rattle.obligations.specs.Entered.{AllAsk}
use Rattle.obligations.proofs.bodies.all_asked.Given as goal

abbrev pub invariant-loop-at : goal.invariant-loop-at
invariant-loop-at l = record {
  keeps : Keeps l.fn.store l.store;
  asks : AllAsk l.store l.base l.size (wider_of l.inclusions) l.made.items l.at;
}
