use Rattle.diagrams.specs.Eval.{tree}
use Rattle.diagrams.proofs.Canon.{tree_size}
use Rattle.obligations.proofs.bodies.+entered.Given as goal

abbrev pub decreases-entered : goal.decreases-entered
decreases-entered l = tree_size (tree l.store.now l.f)
