use Rattle.std.proofs.Common.{◌≡◌, ◌++◌}
use Rattle.translate_command.specs.AutomatonText.{bits_of}
use Rattle.translate_command.proofs.automaton_text.push_bits.Given as goal

abbrev pub invariant-loop-i : goal.invariant-loop-i
invariant-loop-i l = l.text ≡ l.fn.text ++ bits_of l.props l.letter l.i
