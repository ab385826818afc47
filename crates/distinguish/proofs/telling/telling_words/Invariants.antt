use Rattle.std.proofs.Common.{◌-◌, length}
use Rattle.diagrams.specs.Live.{Keeps}
use Rattle.automata.specs.Table.{size_of}
use Rattle.distinguish.specs.Rounds.{HasDivided, HasRows}
use Rattle.distinguish.proofs.telling.telling_words.Given as goal

abbrev pub invariant-round : goal.invariant-round
invariant-round l = record {
  keeps : Keeps l.fn.store l.store;
  refinement : HasDivided l.store l.automaton l.refinement;
  rows : HasRows l.store l.automaton l.refinement l.rows.items;
}

abbrev pub decreases-round : goal.decreases-round
decreases-round l = size_of l.automaton - length l.refinement.words
