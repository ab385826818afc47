use Rattle.std.proofs.Common.{map, take}
use Rattle.looking.specs.Predecessors.{IsAdded}
use Rattle.looking.proofs.predecessors.add_to_all.Given as goal

abbrev pub invariant-loop-target : goal.invariant-loop-target
invariant-loop-target l = IsAdded (map (λ list. list.items) l.fn.lists.items) (map (λ list. list.items) l.lists.items) (take l.target-index l.targets) l.at
