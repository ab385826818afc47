use Rattle.diagrams.specs.Kept.{AllKept}
use Rattle.diagrams.specs.Live.{Keeps}
use Rattle.diagrams.specs.Transformed.{same_id, IsTransformed, IsTableItem}
use Rattle.choosing.specs.Choices.{AreLookedUp}
use Rattle.choosing.proofs.decisions.looked_up.Given as goal

abbrev pub invariant-loop-at : goal.invariant-loop-at
invariant-loop-at l = record {
  keeps : Keeps l.fn.store l.store;
  right : AllKept same_id (IsTransformed l.store (IsTableItem l.numbers)) l.memo;
  rows : AreLookedUp l.fn.store l.store l.numbers l.rows l.made.items l.at;
}
