use Rattle.diagrams.proofs.Meaning.{Keeps_trans}
use Rattle.automata.proofs.Lasts.{fits_lasts}
use Rattle.arena.proofs.BuildingLemmas.{fits_where_last}
use Rattle.tests_of_strategies.proofs.specifications.automata_of.Goals as goal

pub returns-clause-ready : goal.returns-clause-ready
returns-clause-ready c = record {
  goal = fits_lasts c.automaton_of.new.store c.automaton_where-2.new.store c.automaton_where-2.ensures.keeps c.in_ok-goal.goal c.in_ok-goal.ensures.fits;
  marks = c.in_ok-goal.ensures.marks;
  keep = fits_where_last c.automaton_where.new.store c.automaton_where-2.new.store c.in_ok-keep.keep
      (Keeps_trans c.automaton_where.new.store c.automaton_of.new.store c.automaton_where-2.new.store c.automaton_of.ensures.keeps c.automaton_where-2.ensures.keeps)
      c.in_ok-keep.ensures.fits;
  duty = c.in_ok-duty.ensures.fits;
}
