-- The names before the rest are added.
use Rattle.std.proofs.Common.{◌≡◌, ◌++◌, length}
use Rattle.spec_lines.specs.Values.{words_of}
use Rattle.spec_reader.specs.Refusal.{names_fault}
use Rattle.spec_reader.proofs.checking.add_names.Given as goal

abbrev pub invariant-loop-word : goal.invariant-loop-word
invariant-loop-word l = record {
  told : names_fault l.line l.fn.names.names (words_of l.value) ≡ names_fault l.line l.names.names (words_of l.rest);
  added : l.names.names ++ words_of l.rest ≡ l.fn.names.names ++ words_of l.value;
}

abbrev pub decreases-loop-word : goal.decreases-loop-word
decreases-loop-word l = length l.rest
