use Rattle.std.proofs.Common.{◌+◌, ◌*◌}
use Rattle.forms.specs.Tree.{program, program_nodes}
use Rattle.path_programs.proofs.walk.+walk.Given as goal

-- an arm hands on a path below the one that the walk gave it
abbrev pub decreases-walk : goal.decreases-walk
decreases-walk l = program_nodes (program l.path.now) * 2

abbrev pub decreases-choice : goal.decreases-choice
decreases-choice l = (program_nodes (program l.p.now) + program_nodes (program l.q.now)) * 2 + 1

abbrev pub decreases-sequence : goal.decreases-sequence
decreases-sequence l = (program_nodes (program l.p.now) + program_nodes (program l.q.now)) * 2 + 1

abbrev pub decreases-star : goal.decreases-star
decreases-star l = program_nodes (program l.p.now) * 2 + 1
