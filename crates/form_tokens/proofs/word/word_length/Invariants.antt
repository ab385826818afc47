use Rattle.std.proofs.Common.{◌≡◌, ◌+◌, ◌≤◌, length, drop}
use Rattle.form_tokens.specs.Words.{word_length}
use Rattle.form_tokens.proofs.word.word_length.Given as goal

abbrev pub invariant-loop-byte : goal.invariant-loop-byte
invariant-loop-byte l = record {
  index : l.n ≡ l.byte-index;
  within : l.n ≤ length l.text;
  counted : word_length l.text ≡ l.n + word_length (drop l.n l.text);
}
