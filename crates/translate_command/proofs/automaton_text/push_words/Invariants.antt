use Rattle.std.proofs.Common.{◌≡◌, ◌++◌}
use Rattle.translate_command.specs.AutomatonText.{word_lines}
use Rattle.translate_command.proofs.automaton_text.push_words.Given as goal

abbrev pub invariant-loop-i : goal.invariant-loop-i
invariant-loop-i l = l.text ≡ l.fn.text ++ word_lines l.props l.words l.i
