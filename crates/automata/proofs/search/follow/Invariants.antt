use Rattle.std.proofs.Common.{◌≡◌, ◌<◌, length}
use Rattle.automata.specs.Table.{size_of, moves_of}
use Rattle.automata.specs.Search.{ArePlaces}
use Rattle.automata.proofs.FoundLists.{IsFollowing}
use Rattle.automata.proofs.search.follow.Given as goal

abbrev pub invariant-loop-target : goal.invariant-loop-target
invariant-loop-target l = record {
  places : ArePlaces l.reached.found.items l.reached.places.items;
  size : length l.reached.places.items ≡ size_of l.automaton;
  here : l.k < length l.reached.found.items;
  following : IsFollowing l.store.props (moves_of l.store l.automaton) l.reached.found.items l.k l.target-items l.target-index;
}
