-- The conjunction of the formulas is that of the texts.
use Rattle.std.proofs.Common.{map}
use Rattle.std.specs.Option.{option_map}
use Rattle.forms.specs.Tree.{tree}
use Rattle.spec_reader.proofs.FormulaLemmas.{IsConjunctionOf-formulas}
use Rattle.spec_reader.proofs.formulas.read_conjunction.Goals as goal

pub returns-clause-found : goal.returns-clause-found
returns-clause-found c = IsConjunctionOf-formulas c.args.dialect c.args.names.now _ (map tree c.in_ok-forms.forms.items) (option_map tree c.in_ok-conjunction.field-0) c.in_ok-forms.ensures.found c.in_ok-conjunction.ensures
