use Rattle.diagrams.specs.Live.{Keeps}
use Rattle.layers.specs.declared.folding.Below.TheVariants.{Sink}
use Rattle.layers.specs.Folding.{IsRightFor}
use Rattle.legality.specs.Spared.{AreRestricted}
use Rattle.legality.proofs.legality.restrict.Given as goal

abbrev pub invariant-loop-at : goal.invariant-loop-at
invariant-loop-at l = record {
  keeps : Keeps l.fn.store l.store;
  made : AreRestricted l.partition l.fn.store l.store l.automaton l.table.items l.marks.items l.rows.items l.sink l.at;
  right : IsRightFor l.store (Sink l.sink) l.telling l.table.items l.folding;
}
