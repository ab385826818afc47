use Rattle.legality.specs.Spared.{AreSpareMarks}
use Rattle.legality.proofs.legality.spare_marks.Given as goal

abbrev pub invariant-loop-at : goal.invariant-loop-at
invariant-loop-at l = AreSpareMarks l.ranks l.table.items l.at
