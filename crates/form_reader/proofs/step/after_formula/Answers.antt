use Rattle.std.proofs.Common.{arith}
use Rattle.form_reader.proofs.Scans.{closed-None}
use Rattle.form_reader.proofs.step.after_formula.Goals as goal

pub returns-in_default : goal.returns-in_default
returns-in_default c = grind (arith, closed-None)
