use Rattle.std.proofs.Common.{◌≡◌, ◌≤◌, ◌++◌, length, take, drop}
use Rattle.trace_meaning.specs.Column.{first, column}
use Rattle.trace_meaning.proofs.column.combine_each.Given as goal

abbrev pub invariant-loop-i : goal.invariant-loop-i
invariant-loop-i l = record {
  within : l.i ≤ length l.x;
  whole : length l.x ≡ length l.y;
  column : column l.op l.later (take l.i l.x) (take l.i l.y) ++ drop l.i l.x ≡ column l.op l.initial.later l.initial.x l.y;
  first : first l.op l.later (take l.i l.x) (take l.i l.y) ≡ first l.op l.initial.later l.initial.x l.y;
}

abbrev pub decreases-loop-i : goal.decreases-loop-i
decreases-loop-i l = l.i
