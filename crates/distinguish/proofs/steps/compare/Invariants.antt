use Rattle.std.proofs.Common.{◌-◌}
use Rattle.automata.specs.Table.{moves_of}
use Rattle.distinguish.specs.Trees.{target_of, IsTree}
use Rattle.distinguish.proofs.TreeLemmas.{IsOnWay}
use Rattle.distinguish.proofs.steps.compare.Given as goal

abbrev pub invariant-down : goal.invariant-down
invariant-down l = record {
  tree : IsTree l.store l.automaton l.refinement l.next l.at l.tree;
  way : IsOnWay l.store.props (moves_of l.store l.automaton) l.refinement.blocks.items l.next l.refinement.words (target_of l.tree) l.tree.steps.items l.at l.from;
}

abbrev pub decreases-down : goal.decreases-down
decreases-down l = l.at - l.from
