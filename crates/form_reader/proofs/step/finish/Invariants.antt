use Rattle.std.proofs.Common.{◌≡◌}
use Rattle.forms.specs.Tree.{tree}
use Rattle.form_reader.specs.Machine as machine
use Rattle.form_reader.specs.Stack.{stack}
use Rattle.form_reader.proofs.step.finish.Given as goal

abbrev pub invariant-loop-item : goal.invariant-loop-item
invariant-loop-item l = machine.finished (stack l.initial.waiting.items) (tree l.fn.operand.form) ≡ machine.finished (stack l.waiting.items) (tree l.made.form)

abbrev pub decreases-loop-item : goal.decreases-loop-item
decreases-loop-item l = goal.left-loop-item l
