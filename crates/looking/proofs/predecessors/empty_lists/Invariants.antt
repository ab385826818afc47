use Rattle.std.proofs.Common.{◌≡◌, [], map, replicate}
use Rattle.looking.proofs.predecessors.empty_lists.Given as goal

abbrev pub invariant-loop-k : goal.invariant-loop-k
invariant-loop-k l = map (λ list. list.items) l.lists.items ≡ replicate l._k []
