use Rattle.std.proofs.Common.{◌≡◌, ◌-◌, ◌++◌}
use Rattle.printed_strategy.specs.StrategyText.{bits_of}
use Rattle.strategy.proofs.printing.print_bits.Given as goal

abbrev pub invariant-loop-at : goal.invariant-loop-at
invariant-loop-at l = l.text ++ bits_of (l.count - l.at) l.rest ≡ l.fn.text ++ bits_of l.count l.number
