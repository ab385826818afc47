use Rattle.automata.specs.Listing.{Lists}
use Rattle.automata.proofs.listing.print_table.Given as goal

abbrev pub invariant-loop-at : goal.invariant-loop-at
invariant-loop-at l = Lists l.store l.automaton l.at l.text
