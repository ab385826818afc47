use Rattle.std.proofs.Common.{◌≡◌, ◌≤◌, drop, length}
use Rattle.forms.specs.Satisfaction.{sat}
use Rattle.forms.specs.Tree.{tree}
use Rattle.trace_meaning.specs.Kept.{kept}
use Rattle.trace_meaning.specs.State.{state}
use Rattle.trace_meaning.proofs.judging.judge.Given as goal

abbrev pub invariant-loop-end : goal.invariant-loop-end
invariant-loop-end l = record {
  within : l.end ≤ length l.word;
  kept : state l.built.node ≡ kept l.props (tree l.form) (drop l.end l.word);
  value : l.value ≡ sat l.props (tree l.form) (drop l.end l.word);
}

abbrev pub decreases-loop-end : goal.decreases-loop-end
decreases-loop-end l = l.end
