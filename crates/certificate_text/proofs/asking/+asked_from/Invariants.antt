use Rattle.std.proofs.Common.{◌-◌, length}
use Rattle.certificate_text.specs.Lines.{levels_of}
use Rattle.certificate_text.proofs.asking.+asked_from.Given as goal

abbrev pub decreases-asked_from : goal.decreases-asked_from
decreases-asked_from l = length (levels_of l.question.now.levels) - l.depth
