use Rattle.diagrams.proofs.Meaning.{Keeps_trans}
use Rattle.obligations.proofs.Holds.{fits_cells_lasts}
use Rattle.tests_of_translation.proofs.obligations_tests.followed.Goals as goal

pub returns-in_err-claim-clause-cells : goal.returns-in_err-claim-clause-cells
returns-in_err-claim-clause-cells c = fits_cells_lasts c.follow.new.store c.conjunction.new.store c.conjunction.ensures.keeps c.follow.new.cells c.follow.ensures.cells

pub determinise-requires-clause-fits : goal.determinise-requires-clause-fits
determinise-requires-clause-fits c = fits_cells_lasts c.follow.new.store c.conjunction.new.store c.conjunction.ensures.keeps c.follow.new.cells c.follow.ensures.cells

pub returns-clause-cells : goal.returns-clause-cells
returns-clause-cells c =
    fits_cells_lasts c.follow.new.store c.determinise.new.store (Keeps_trans _ _ _ c.conjunction.ensures.keeps c.determinise.ensures.keeps) c.follow.new.cells c.follow.ensures.cells
