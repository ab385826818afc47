use Rattle.std.proofs.Common.{arith}
use Rattle.command_endings.proofs.FormulaLemmas.{ends-at-formula}
use Rattle.command_endings.proofs.formulas.read_formula.Goals as goal

pub returns-in_err-form-clause-ending : goal.returns-in_err-form-clause-ending
returns-in_err-form-clause-ending c = grind (arith, ends-at-formula)
