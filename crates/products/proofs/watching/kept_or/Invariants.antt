use Rattle.products.specs.Watching.{IsKeptOr}
use Rattle.products.proofs.watching.kept_or.Given as goal

abbrev pub invariant-loop-at : goal.invariant-loop-at
invariant-loop-at l = IsKeptOr l.automaton l.sink l.table.items l.at
