use Rattle.std.proofs.Common.{◌≡◌}
use Rattle.automata.specs.Table.{size_of}
use Rattle.obligations.proofs.inclusions.find_inclusions.Given as goal

abbrev pub invariant-loop : goal.invariant-loop
invariant-loop l = l.relation.size ≡ size_of l.automaton
