use Rattle.diagrams.specs.Kept.{AllKept}
use Rattle.diagrams.specs.Live.{Keeps}
use Rattle.diagrams.specs.Transformed.{IsTransformed, IsTableItem, same_id}
use Rattle.products.specs.Watching.{AreWatched}
use Rattle.products.proofs.watching.watch.Given as goal

abbrev pub invariant-loop-at : goal.invariant-loop-at
invariant-loop-at l = record {
  keeps : Keeps l.fn.store l.store;
  watched : AreWatched l.fn.store l.store l.automaton l.table.items l.marks.items l.rows.items l.at;
  right : AllKept same_id (IsTransformed l.store (IsTableItem l.table.items)) l.memo;
}
