use Rattle.diagrams.specs.Eval.{tree}
use Rattle.diagrams.proofs.Canon.{tree_size}
use Rattle.choosing.proofs.walks.+first_best.Given as goal

abbrev pub decreases-first_best : goal.decreases-first_best
decreases-first_best l = tree_size (tree l.store.now l.f)
