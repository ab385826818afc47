use Rattle.distinguish.specs.Trees.{IsTree}
use Rattle.distinguish.proofs.steps.steps_of.Given as goal

abbrev pub invariant-loop-at : goal.invariant-loop-at
invariant-loop-at l = IsTree l.store l.automaton l.refinement l.next l.at l.tree
