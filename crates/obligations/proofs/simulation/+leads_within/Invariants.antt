use Rattle.std.proofs.Common.{◌+◌}
use Rattle.diagrams.specs.Eval.{tree}
use Rattle.diagrams.proofs.Canon.{tree_size}
use Rattle.obligations.proofs.simulation.+leads_within.Given as goal

abbrev pub decreases-leads_within : goal.decreases-leads_within
decreases-leads_within l = tree_size (tree l.store.now l.f) + tree_size (tree l.store.now l.g)
