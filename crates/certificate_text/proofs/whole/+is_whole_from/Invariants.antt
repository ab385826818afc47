use Rattle.std.proofs.Common.{◌-◌}
use Rattle.certificate_text.proofs.whole.+is_whole_from.Given as goal

abbrev pub decreases-is_whole_from : goal.decreases-is_whole_from
decreases-is_whole_from l = l.width - l.depth
