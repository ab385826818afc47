use Rattle.obligations.proofs.Holds.{fits_cells_lasts}
use Rattle.tests_of_translation.proofs.path_programs_tests.with_test.Goals as goal

pub agree-requires-clause-fits : goal.agree-requires-clause-fits
agree-requires-clause-fits c = fits_cells_lasts c.cells_of.new.store c.proposition.new.store c.proposition.ensures.keeps c.in_ok-cells.cells c.in_ok-cells.ensures.fits
