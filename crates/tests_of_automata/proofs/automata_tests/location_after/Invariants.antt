use Rattle.std.proofs.Common.{◌<◌}
use Rattle.automata.specs.Table.{size_of}
use Rattle.tests_of_automata.proofs.automata_tests.location_after.Given as goal

abbrev pub invariant-loop-letter : goal.invariant-loop-letter
invariant-loop-letter l = l.at < size_of l.made
