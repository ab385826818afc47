use Rattle.std.proofs.Common.{◌≡◌, ◌++◌, take}
use Rattle.automata.specs.Listing.{round_lines}
use Rattle.automata.proofs.listing.print_rounds.Given as goal

abbrev pub invariant-loop-i : goal.invariant-loop-i
invariant-loop-i l = l.text ≡ l.fn.text ++ round_lines (take l.i l.cubes)
