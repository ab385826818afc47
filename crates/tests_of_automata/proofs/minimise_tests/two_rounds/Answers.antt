use Rattle.automata.proofs.Lasts.{fits_lasts}
use Rattle.tests_of_automata.proofs.minimise_tests.two_rounds.Goals as goal

pub new-requires-2 : goal.new-requires-2
new-requires-2 c = fits_lasts c.automaton_of.new.store c.block_rows.new.store c.in_ok-rows.ensures.keeps c.in_ok-table.table c.in_ok-table.ensures.fits

pub renewed_rows-requires-clause-fits : goal.renewed_rows-requires-clause-fits
renewed_rows-requires-clause-fits c = fits_lasts c.automaton_of.new.store c.block_rows.new.store c.in_ok-rows.ensures.keeps c.in_ok-table.table c.in_ok-table.ensures.fits
