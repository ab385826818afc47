use Rattle.diagrams.proofs.Meaning.{Keeps_trans}
use Rattle.automata.proofs.Lasts.{fits_lasts}
use Rattle.obligations.proofs.Holds.{fits_cells_lasts}
use Rattle.tests_of_translation.proofs.obligations_tests.agree.Goals as goal

pub determinise-requires-clause-fits : goal.determinise-requires-clause-fits
determinise-requires-clause-fits c = fits_cells_lasts c.cells_of.new.store c.conjunction.new.store c.conjunction.ensures.keeps c.in_ok-cells.cells c.in_ok-cells.ensures.fits

pub followed-requires-clause-cells : goal.followed-requires-clause-cells
followed-requires-clause-cells c =
    fits_cells_lasts c.cells_of.new.store c.determinise.new.store (Keeps_trans _ _ _ c.conjunction.ensures.keeps c.determinise.ensures.keeps) c.in_ok-cells.cells c.in_ok-cells.ensures.fits

pub find_inclusions-requires : goal.find_inclusions-requires
find_inclusions-requires c = record { fits = fits_lasts c.determinise.new.store c.followed.new.store c.followed.ensures.keeps c.in_ok-made.made c.in_ok-made.ensures.fits }

pub followed-requires-2-clause-made : goal.followed-requires-2-clause-made
followed-requires-2-clause-made c = fits_lasts c.determinise.new.store c.followed.new.store c.followed.ensures.keeps c.in_ok-made.made c.in_ok-made.ensures.fits

pub accepted-requires-clause-fits : goal.accepted-requires-clause-fits
accepted-requires-clause-fits c =
    fits_lasts c.determinise.new.store c.followed-2.new.store (Keeps_trans _ _ _ c.followed.ensures.keeps c.followed-2.ensures.keeps) c.in_ok-made.made c.in_ok-made.ensures.fits

pub accepted-requires-else-branch-answer-clause-fits : goal.accepted-requires-else-branch-answer-clause-fits
accepted-requires-else-branch-answer-clause-fits c = fits_lasts c.followed.new.store c.followed-2.new.store c.followed-2.ensures.keeps c.in_ok-plain.plain c.in_ok-plain.ensures.fits
