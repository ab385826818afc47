use Rattle.std.proofs.Common.{◌≡◌, ℕ, ◌+◌, ◌≤◌, List, Some, length}
use Rattle.bes_io.specs.Asking.{IsAsked}
use Rattle.bes_io.specs.Reader.{allowed}
use Rattle.input_letters.specs.Traces.{most_input}
use Rattle.input_letters.proofs.TraceLemmas.{SoFar}
use Rattle.input_letters.proofs.traces.read_trace.Given as goal

abbrev pub invariant-loop-letter : goal.invariant-loop-letter
invariant-loop-letter g l = record {
  told : (rest : List ℕ) → g.S.Source.left l.fn.input ≡ Some rest → SoFar l.names.names rest l.reader (g.S.Source.left l.input) l.letters;
  faults : g.S.Source.faults l.input ≡ g.S.Source.faults l.fn.input;
  asked : IsAsked g.S.Source.faults g.S.Source.IsTaken l.fn.input l.input;
  few : length l.letters + allowed l.reader ≤ most_input;
}

abbrev pub decreases-loop-letter : goal.decreases-loop-letter
decreases-loop-letter g l = allowed l.reader
