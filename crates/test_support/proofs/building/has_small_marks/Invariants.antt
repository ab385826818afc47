use Rattle.std.proofs.Common.{◌<◌, ℕ}
use Rattle.automata.specs.Table.{mark_of}
use Rattle.test_support.proofs.building.has_small_marks.Given as goal

abbrev pub invariant-loop-at : goal.invariant-loop-at
invariant-loop-at l = (k : ℕ) → k < l.at → mark_of l.automaton k < 2
