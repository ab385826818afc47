use Rattle.std.proofs.Common.{map}
use Rattle.looking.proofs.PredecessorLemmas.{AreListed}
use Rattle.looking.proofs.predecessors.Predecessors.new.Given as goal

abbrev pub invariant-loop-at : goal.invariant-loop-at
invariant-loop-at l = AreListed l.store l.automaton (map (λ list. list.items) l.lists.items) l.at
