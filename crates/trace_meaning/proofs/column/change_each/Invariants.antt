use Rattle.std.proofs.Common.{◌≡◌, ◌≤◌, ◌++◌, length, take, drop}
use Rattle.trace_meaning.specs.Column.{handed, changed}
use Rattle.trace_meaning.proofs.column.change_each.Given as goal

abbrev pub invariant-loop-i : goal.invariant-loop-i
invariant-loop-i l = record {
  within : l.i ≤ length l.x;
  column : changed l.op l.later (take l.i l.x) ++ drop l.i l.x ≡ changed l.op l.initial.later l.initial.x;
  handed : handed l.op l.later (take l.i l.x) ≡ handed l.op l.initial.later l.initial.x;
}

abbrev pub decreases-loop-i : goal.decreases-loop-i
decreases-loop-i l = l.i
