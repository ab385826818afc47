use Rattle.std.proofs.Common.{◌≡◌, ◌-◌, ◌++◌}
use Rattle.strategy.specs.Listing.{spaced_from}
use Rattle.strategy.proofs.printing.print_names.Given as goal

abbrev pub invariant-loop-at : goal.invariant-loop-at
invariant-loop-at l = l.text ≡ l.fn.text ++ spaced_from l.names.names l.from (l.at - l.from)
