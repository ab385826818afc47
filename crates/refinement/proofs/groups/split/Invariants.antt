use Rattle.std.proofs.Common.{◌≡◌, ◌+◌, length, [], map}
use Rattle.diagrams.specs.Eval.{id_at}
use Rattle.linked_blocks.specs.Lists.{block_in, HoldEach}
use Rattle.class_laws.specs.Classes.{AreFull, IsPaid}
use Rattle.class_laws.specs.Shifts.{AreNoted, AreHalved}
use Rattle.class_laws.proofs.Splitting.{IsSplitting}
use Rattle.refinement.proofs.groups.split.Given as goal

abbrev pub invariant-loop-list : goal.invariant-loop-list
invariant-loop-list l = record {
  each : HoldEach (length l.rows) l.blocks.lists;
  full : AreFull l.blocks.lists;
  paid : IsPaid (length l.rows) l.blocks.lists l.blocks.moves;
  splitting : IsSplitting (length l.rows) (block_in l.fn.blocks.lists) (block_in l.blocks.lists) (id_at l.rows) (map (λ list. list.items) l.list-items) l.list-index;
  noted : AreNoted (length l.rows) l.fn.blocks.lists l.blocks.lists [] l.shifted.items;
  halved : AreHalved (length l.rows) l.fn.blocks.lists l.blocks.lists;
  moves : l.blocks.moves ≡ l.fn.blocks.moves + length l.shifted.items;
}
