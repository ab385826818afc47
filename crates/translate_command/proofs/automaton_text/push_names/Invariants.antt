use Rattle.std.proofs.Common.{◌≡◌, ◌++◌}
use Rattle.translate_command.specs.AutomatonText.{name_list}
use Rattle.translate_command.proofs.automaton_text.push_names.Given as goal

abbrev pub invariant-loop-i : goal.invariant-loop-i
invariant-loop-i l = l.text ≡ l.fn.text ++ name_list l.names.names l.i
