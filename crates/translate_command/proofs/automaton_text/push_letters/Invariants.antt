use Rattle.std.proofs.Common.{◌≡◌, ◌++◌}
use Rattle.translate_command.specs.AutomatonText.{letter_list}
use Rattle.translate_command.proofs.automaton_text.push_letters.Given as goal

abbrev pub invariant-loop-i : goal.invariant-loop-i
invariant-loop-i l = l.text ≡ l.fn.text ++ letter_list l.props l.word l.i
