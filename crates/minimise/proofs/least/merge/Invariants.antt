use Rattle.diagrams.specs.Kept.{AllKept}
use Rattle.diagrams.specs.Live.{Keeps}
use Rattle.diagrams.specs.Transformed.{IsTransformed, IsTableItem, same_id}
use Rattle.minimise.proofs.MergeLemmas.{AreMerged}
use Rattle.minimise.proofs.least.merge.Given as goal

abbrev pub invariant-loop-block : goal.invariant-loop-block
invariant-loop-block l = record {
  keeps : Keeps l.fn.store l.store;
  right : AllKept same_id (IsTransformed l.store (IsTableItem l.numbers)) l.memo;
  merged : AreMerged l.fn.store l.store l.automaton l.blocks.lists l.marks.items l.rows.items l.block;
}
