-- What is joined stands behind the forms that are left.
use Rattle.std.proofs.Common.{◌≡◌, map, vec_len, Some}
use Rattle.forms.specs.Tree.{tree}
use Rattle.spec_reader.specs.Formulas.{conjunction_of}
use Rattle.spec_reader.proofs.FormulaLemmas.{conjunction_onto}
use Rattle.spec_reader.proofs.formulas.conjunction.Given as goal

abbrev pub invariant-loop-form : goal.invariant-loop-form
invariant-loop-form l = conjunction_of (map tree l.fn.forms.items) ≡ Some (conjunction_onto (map tree l.forms.items) (tree l.whole))

abbrev pub decreases-loop-form : goal.decreases-loop-form
decreases-loop-form l = vec_len l.forms
