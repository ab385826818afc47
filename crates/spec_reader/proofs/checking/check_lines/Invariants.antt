-- The lines before the index have no fault.
use Rattle.std.proofs.Common.{◌≡◌, [], map, take, drop}
use Rattle.spec_lines.specs.Lines.{shown}
use Rattle.spec_reader.specs.Refusal.{lines_fault}
use Rattle.spec_reader.proofs.checking.check_lines.Given as goal

abbrev pub invariant-loop-i : goal.invariant-loop-i
invariant-loop-i l = lines_fault l.heading [] [] (map shown l.lines) ≡ lines_fault l.heading (map shown (take l.i l.lines)) l.given.names (map shown (drop l.i l.lines))
