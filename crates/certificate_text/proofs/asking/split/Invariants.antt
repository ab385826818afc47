use Rattle.std.proofs.Common.{◌-◌}
use Rattle.certificate_text.specs.Halves.{Halves}
use Rattle.certificate_text.proofs.asking.split.Given as goal

abbrev pub invariant-loop-low : goal.invariant-loop-low
invariant-loop-low l = Halves l.cubes l.width l.depth l.from l.to l.low l.high

abbrev pub decreases-loop-low : goal.decreases-loop-low
decreases-loop-low l = l.high - l.low
