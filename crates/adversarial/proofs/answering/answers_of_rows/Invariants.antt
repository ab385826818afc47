use Rattle.diagrams.specs.Live.{Keeps}
use Rattle.adversarial.specs.Answered.{IsRightSoFar, AreChosen}
use Rattle.adversarial.proofs.answering.answers_of_rows.Given as goal

abbrev pub invariant-loop-at : goal.invariant-loop-at
invariant-loop-at l = Keeps l.fn.store l.store × AreChosen l.fn.store l.store l.sides.lesser_before l.sides.before l.table.items l.rows l.ranks l.made l.at
    × IsRightSoFar l.store l.sides.before l.table.items l.answering
