use Rattle.diagrams.specs.Eval.{tree}
use Rattle.diagrams.proofs.Canon.{tree_size}
use Rattle.obligations.proofs.explore.+at_end.Given as goal

abbrev pub decreases-at_end : goal.decreases-at_end
decreases-at_end l = tree_size (tree l.store.now l.f)
