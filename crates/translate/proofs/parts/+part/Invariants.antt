use Rattle.std.proofs.Common.{◌+◌, ◌*◌, max}
use Rattle.forms.specs.declared.form.Form.{size-Form}
use Rattle.forms.specs.declared.form.Path.{size-Path}
use Rattle.translate.proofs.parts.+part.Given as goal

-- the deeper operand counts, and the function of an operator comes between a formula and its operands
abbrev pub decreases-part : goal.decreases-part
decreases-part l = goal.size-part l * 2

abbrev pub decreases-unary : goal.decreases-unary
decreases-unary l = goal.size-unary l * 2 + 1

abbrev pub decreases-binary : goal.decreases-binary
decreases-binary l = max (size-Form l.f.now) (size-Form l.g.now) * 2 + 1

abbrev pub decreases-modal : goal.decreases-modal
decreases-modal l = max (size-Path l.path.now) (size-Form l.f.now) * 2 + 1

abbrev pub decreases-add_tests : goal.decreases-add_tests
decreases-add_tests l = goal.size-add_tests l * 2
