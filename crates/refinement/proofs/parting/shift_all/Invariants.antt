use Rattle.std.proofs.Common.{◌≡◌, ◌++◌, take}
use Rattle.class_laws.specs.Shifts.{AreShifted}
use Rattle.refinement.proofs.parting.shift_all.Given as goal

abbrev pub invariant-loop-at : goal.invariant-loop-at
invariant-loop-at l = record {
  moved : AreShifted l.size l.from l.fn.blocks l.blocks (take l.at-index l.moving);
  shifted : l.shifted.items ≡ l.fn.shifted.items ++ take l.at-index l.moving;
}
