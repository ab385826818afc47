use Rattle.std.proofs.Common.{map, take}
use Rattle.diagrams.specs.Eval.{id_at}
use Rattle.linked_blocks.specs.Lists.{block_in}
use Rattle.refinement.specs.Grouped.{AreGrouped}
use Rattle.refinement.proofs.groups.group.Given as goal

abbrev pub invariant-loop-at : goal.invariant-loop-at
invariant-loop-at l = AreGrouped (block_in l.blocks.lists) (id_at l.rows) (take l.at-index l.changed) l.kinds.keys (map (λ list. list.items) l.groups.items)
