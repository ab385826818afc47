use Rattle.std.proofs.Common.{◌≡◌, vec_len}
use Rattle.forms.specs.Tree.{tree}
use Rattle.form_reader.specs.Machine as machine
use Rattle.form_reader.specs.Stack.{stack}
use Rattle.form_reader.proofs.step.extend.Given as goal

abbrev pub invariant-loop-tighter : goal.invariant-loop-tighter
invariant-loop-tighter l = machine.extended l.operator (stack l.initial.waiting.items) (tree l.fn.operand.form) ≡ machine.extended l.operator (stack l.waiting.items) (tree l.made.form)

abbrev pub decreases-loop-tighter : goal.decreases-loop-tighter
decreases-loop-tighter l = vec_len l.waiting
