use Rattle.std.proofs.Common.{◌+◌, ◌*◌}
use Rattle.trace_meaning.proofs.star.+follow.Given as goal

-- `follow` hands the same track on to `follow_parts`
abbrev pub decreases-follow : goal.decreases-follow
decreases-follow l = goal.size-follow l * 2 + 1

abbrev pub decreases-follow_parts : goal.decreases-follow_parts
decreases-follow_parts l = goal.size-follow_parts l * 2
