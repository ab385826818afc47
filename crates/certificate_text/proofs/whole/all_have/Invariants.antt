use Rattle.certificate_text.specs.Halves.{HasAll}
use Rattle.certificate_text.proofs.whole.all_have.Given as goal

abbrev pub invariant-loop-i : goal.invariant-loop-i
invariant-loop-i l = HasAll l.cubes l.width l.depth l.from l.i l.character
