use Rattle.strategy.specs.Numbers.{AreMarks}
use Rattle.strategy.proofs.marks.marks_of.Given as goal

abbrev pub invariant-loop-at : goal.invariant-loop-at
invariant-loop-at l = AreMarks l.goals l.numbers l.marks.items l.at
