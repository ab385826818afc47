use Rattle.diagrams.specs.Eval.{tree}
use Rattle.diagrams.proofs.Canon.{tree_size}
use Rattle.layers.proofs.folding.+least.Given as goal

abbrev pub decreases-least : goal.decreases-least
decreases-least l = tree_size (tree l.store.now l.f)
