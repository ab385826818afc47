use Rattle.automata.proofs.Lasts.{fits_lasts}
use Rattle.tests_of_automata.proofs.refinement_tests.each_location_of_a_long_chain_is_a_class.Goals as goal

pub minimise-requires : goal.minimise-requires
minimise-requires g c = record {
  fits = fits_lasts c.chain.new.store c.refine.new.store c.in_ok-refine.ensures.keeps c.in_ok-table.table c.in_ok-table.ensures.fits;
}
