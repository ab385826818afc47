use Rattle.diagrams.specs.Eval.{tree}
use Rattle.diagrams.proofs.Canon.{tree_size}
use Rattle.layers.proofs.folding.+fold_row.Given as goal

abbrev pub decreases-fold_row : goal.decreases-fold_row
decreases-fold_row l = tree_size (tree l.store.now l.f)
