-- No line before the index has the key.
use Rattle.std.proofs.Common.{◌≡◌, map, drop}
use Rattle.spec_lines.specs.Lines.{shown}
use Rattle.spec_lines.specs.Keywords.{values_of}
use Rattle.spec_reader.proofs.reading.value_of.Given as goal

abbrev pub invariant-loop-line : goal.invariant-loop-line
invariant-loop-line l = values_of l.fn.keyword (map shown l.lines) ≡ values_of l.fn.keyword (map shown (drop l.line-index l.lines))
