use Rattle.std.proofs.Common.{◌≡◌, ◌++◌, map, take}
use Rattle.automata.specs.Table.{moves_of}
use Rattle.distinguish.specs.Columns.{AreColumns}
use Rattle.distinguish.specs.Steps.{word_of}
use Rattle.distinguish.proofs.telling.extend.Given as goal

abbrev pub invariant-loop-step : goal.invariant-loop-step
invariant-loop-step l = record {
  words : l.words ≡ l.fn.words ++ map (word_of l.fn.words) (take l.step-index l.steps);
  columns : AreColumns (moves_of l.store l.automaton) l.words l.columns.items;
}
