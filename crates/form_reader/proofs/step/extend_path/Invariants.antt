use Rattle.std.proofs.Common.{◌≡◌, vec_len}
use Rattle.forms.specs.Tree.{program}
use Rattle.form_reader.specs.Machine as machine
use Rattle.form_reader.specs.Stack.{stack}
use Rattle.form_reader.proofs.step.extend_path.Given as goal

abbrev pub invariant-loop-tighter : goal.invariant-loop-tighter
invariant-loop-tighter l = machine.path_extended l.operator (stack l.initial.waiting.items) (program l.fn.path) ≡ machine.path_extended l.operator (stack l.waiting.items) (program l.made)

abbrev pub decreases-loop-tighter : goal.decreases-loop-tighter
decreases-loop-tighter l = vec_len l.waiting
