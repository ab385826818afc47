-- The lines that are found, and those that are left.
use Rattle.std.proofs.Common.{◌≡◌, ◌≤◌, ◌+◌, ◌++◌, length, map}
use Rattle.bstr.specs.Text.{lines_of, without_terminator}
use Rattle.spec_lines.specs.Lines.{shown, counted_from}
use Rattle.spec_lines.proofs.lines.counted_lines.Given as goal

abbrev pub invariant-loop-line : goal.invariant-loop-line
invariant-loop-line l = record {
  next : (goal.iterator-loop-line).can_next l.line-iterator;
  finite : (goal.iterator-loop-line).is_finite l.line-iterator;
  count : l.number + length l.line-iterator ≤ length l.fn.text;
  lines : map shown l.found.items ++ counted_from (l.number + 1) l.line-iterator ≡ counted_from 1 (map without_terminator (lines_of l.fn.text));
}
