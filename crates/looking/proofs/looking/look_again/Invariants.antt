use Rattle.std.proofs.Common.{take}
use Rattle.diagrams.specs.Kept.{AllKept}
use Rattle.diagrams.specs.Live.{Keeps}
use Rattle.diagrams.specs.Transformed.{IsTransformed, IsTableItem, same_id}
use Rattle.class_laws.proofs.Looking.{IsLooking}
use Rattle.looking.proofs.looking.look_again.Given as goal

abbrev pub invariant-loop-at : goal.invariant-loop-at
invariant-loop-at l = record {
  keeps : Keeps l.fn.store l.store;
  right : AllKept same_id (IsTransformed l.store (IsTableItem l.numbers)) l.memo;
  looking : IsLooking l.fn.store l.store l.automaton l.numbers l.fn.rows.items l.rows.items (take l.at-index l.touched) l.changed.items;
}
