use Rattle.diagrams.specs.Eval.{tree}
use Rattle.diagrams.proofs.Canon.{tree_size}
use Rattle.choosing.proofs.cut.+cut.Given as goal

abbrev pub decreases-cut : goal.decreases-cut
decreases-cut l = tree_size (tree l.store.now l.f)
