use Rattle.std.proofs.Common.{◌≡◌, ◌≤◌, ◌-◌, length}
use Rattle.automata.specs.Table.{size_of, moves_of}
use Rattle.automata.specs.Search.{HasFound, ArePlaces}
use Rattle.automata.proofs.search.search.Given as goal

abbrev pub invariant-loop-k : goal.invariant-loop-k
invariant-loop-k l = record {
  places : ArePlaces l.reached.found.items l.reached.places.items;
  size : length l.reached.places.items ≡ size_of l.automaton;
  within : l.k ≤ length l.reached.found.items;
  found : HasFound l.store.props (moves_of l.store l.automaton) l.reached.found.items l.k;
}

abbrev pub decreases-loop-k : goal.decreases-loop-k
decreases-loop-k l = size_of l.automaton - l.k
