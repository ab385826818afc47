use Rattle.diagrams.specs.Eval.{tree}
use Rattle.diagrams.proofs.Canon.{tree_size}
use Rattle.choosing.proofs.walks.+best.Given as goal

abbrev pub decreases-best : goal.decreases-best
decreases-best l = tree_size (tree l.store.now l.f)
