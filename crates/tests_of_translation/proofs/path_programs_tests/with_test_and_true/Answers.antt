use Rattle.forms.specs.Tree.{Atom}
use Rattle.diagrams.proofs.Meaning.{Keeps_trans}
use Rattle.automata.proofs.Lasts.{meant_lasts}
use Rattle.obligations.proofs.Holds.{fits_cells_lasts}
use Rattle.tests_of_translation.proofs.PropositionLemmas.{two_meant}
use Rattle.tests_of_translation.proofs.path_programs_tests.with_test_and_true.Goals as goal

pub agree-requires-clause-fits : goal.agree-requires-clause-fits
agree-requires-clause-fits c =
    fits_cells_lasts c.cells_of.new.store c.truth.new.store (Keeps_trans c.cells_of.new.store c.proposition.new.store c.truth.new.store c.proposition.ensures.keeps c.truth.ensures.keeps) c.in_ok-cells.cells c.in_ok-cells.ensures.fits

pub agree-requires-clause-meant : goal.agree-requires-clause-meant
agree-requires-clause-meant c =
    two_meant c.truth.new.store c.in_ok-first.first c.in_ok-second.second
    (rw c.in_ok-first.ensures.form (meant_lasts c.proposition.new.store c.truth.new.store c.truth.ensures.keeps c.in_ok-first.first.automaton (Atom c.args.i) c.in_ok-first.ensures.first c.in_ok-first.ensures.meant))
    (rw c.in_ok-second.ensures.form c.in_ok-second.ensures.meant)
