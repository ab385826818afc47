use Rattle.std.proofs.Common.{arith}
use Rattle.form_reader.proofs.Scans.{path_closed-None}
use Rattle.form_reader.proofs.step.after_star.Goals as goal

pub returns-in_default : goal.returns-in_default
returns-in_default c = grind (arith, path_closed-None)
