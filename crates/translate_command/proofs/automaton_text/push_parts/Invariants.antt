use Rattle.std.proofs.Common.{◌≡◌, ◌++◌}
use Rattle.forms.specs.Tree.{tree}
use Rattle.translate_command.specs.AutomatonText.{part_lines}
use Rattle.translate_command.proofs.automaton_text.push_parts.Given as goal

abbrev pub invariant-loop-k : goal.invariant-loop-k
invariant-loop-k l = l.text ≡ l.fn.text ++ part_lines l.names.names (tree l.form) l.counts l.k
