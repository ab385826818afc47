use Rattle.std.proofs.Common.{◌≡◌, ◌<◌, ℕ, length, slice_index}
use Rattle.automata.specs.Table.{next_of}
use Rattle.distinguish.proofs.columns.Column.after.Given as goal

abbrev pub invariant-loop-at : goal.invariant-loop-at
invariant-loop-at l = record {
  size : length l.marks.items ≡ l.at;
  mark : (k : ℕ) → k < l.at → slice_index l.marks.items k ≡ slice_index l.self (next_of l.store l.automaton k l.letter);
}
