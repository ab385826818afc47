use Rattle.obligations.specs.Located.{HasFirst}
use Rattle.obligations.proofs.explore.bodies_of.Given as goal

abbrev pub invariant-loop-cell : goal.invariant-loop-cell
invariant-loop-cell l = HasFirst l.cells l.made.items l.cell
