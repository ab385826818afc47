use Rattle.diagrams.specs.Kept.{AllKept}
use Rattle.diagrams.specs.Live.{Keeps}
use Rattle.diagrams.specs.Transformed.{IsTransformed, IsTableItem, same_id}
use Rattle.dividing.specs.Divisions.{AreBlockRows}
use Rattle.dividing.proofs.divisions.block_rows.Given as goal

abbrev pub invariant-loop-at : goal.invariant-loop-at
invariant-loop-at l = record {
  keeps : Keeps l.fn.store l.store;
  right : AllKept same_id (IsTransformed l.store (IsTableItem l.blocks)) l.memo;
  rows : AreBlockRows l.fn.store l.store l.automaton l.blocks l.rows.items l.at;
}
