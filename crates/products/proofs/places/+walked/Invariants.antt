use Rattle.std.proofs.Common.{◌+◌}
use Rattle.diagrams.specs.Eval.{tree}
use Rattle.diagrams.proofs.Canon.{tree_size}
use Rattle.products.proofs.places.+walked.Given as goal

abbrev pub decreases-walked : goal.decreases-walked
decreases-walked l = tree_size (tree l.store.now l.left) + tree_size (tree l.store.now l.right)
