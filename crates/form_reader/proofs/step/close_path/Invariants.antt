use Rattle.std.proofs.Common.{◌≡◌, vec_len}
use Rattle.forms.specs.Tree.{program}
use Rattle.form_reader.specs.Machine as machine
use Rattle.form_reader.specs.Stack.{stack}
use Rattle.form_reader.proofs.step.close_path.Given as goal

abbrev pub invariant-loop-item : goal.invariant-loop-item
invariant-loop-item l = machine.path_closed (stack l.initial.waiting.items) (program l.fn.path) l.token ≡ machine.path_closed (stack l.waiting.items) (program l.made) l.token

abbrev pub decreases-loop-item : goal.decreases-loop-item
decreases-loop-item l = vec_len l.waiting
