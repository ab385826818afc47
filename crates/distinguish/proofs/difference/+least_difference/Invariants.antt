use Rattle.std.proofs.Common.{◌+◌}
use Rattle.diagrams.specs.Eval.{tree}
use Rattle.diagrams.proofs.Canon.{tree_size}
use Rattle.distinguish.proofs.difference.+least_difference.Given as goal

abbrev pub decreases-least_difference : goal.decreases-least_difference
decreases-least_difference l = tree_size (tree l.store.now l.f) + tree_size (tree l.store.now l.g)
