use Rattle.std.proofs.Common.{◌≡◌, take}
use Rattle.looking.specs.Predecessors.{leaders}
use Rattle.looking.proofs.predecessors.Predecessors.of_all.Given as goal

abbrev pub invariant-loop-at : goal.invariant-loop-at
invariant-loop-at l = l.found.items ≡ leaders l.self (take l.at-index l.shifted)
