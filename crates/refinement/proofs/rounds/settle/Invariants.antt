use Rattle.std.proofs.Common.{◌-◌, length}
use Rattle.automata.specs.Table.{size_of}
use Rattle.class_laws.specs.Current.{IsRefining}
use Rattle.refinement.proofs.rounds.settle.Given as goal

abbrev pub invariant-loop-touched : goal.invariant-loop-touched
invariant-loop-touched l = IsRefining l.fn.store l.store l.automaton l.blocks l.rows.items l.touched.items

abbrev pub decreases-loop-touched : goal.decreases-loop-touched
decreases-loop-touched l = size_of l.automaton - length l.blocks.lists
