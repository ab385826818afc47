use Rattle.obligations.proofs.Holds.{fits_cells_lasts}
use Rattle.tests_of_translation.proofs.path_programs_tests.agree.Goals as goal

pub determinise-requires-clause-fits : goal.determinise-requires-clause-fits
determinise-requires-clause-fits c = fits_cells_lasts c.compile.new.store c.conjunction.new.store c.conjunction.ensures.keeps c.compile.new.cells c.compile.ensures.fits
