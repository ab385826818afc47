use Rattle.strategy.specs.Numbers.{IsTableTo}
use Rattle.strategy.proofs.marks.table_of.Given as goal

abbrev pub invariant-loop-number : goal.invariant-loop-number
invariant-loop-number l = IsTableTo l.numbers l.table.items l.number-index
