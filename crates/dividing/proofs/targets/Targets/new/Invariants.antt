use Rattle.std.proofs.Common.{◌≡◌, ◌<◌, ℕ, length, map}
use Rattle.automata.specs.Table.{size_of, row_of}
use Rattle.dividing.specs.Divisions.{AreTargets, targets_at}
use Rattle.dividing.proofs.targets.Targets.new.Given as goal

abbrev pub invariant-loop-at : goal.invariant-loop-at
invariant-loop-at l = record {
  number : length l.lists.items ≡ l.at;
  each : (at : ℕ) → at < l.at → AreTargets l.store (size_of l.automaton) (row_of l.automaton at) (targets_at (map (λ list. list.items) l.lists.items) at);
}
