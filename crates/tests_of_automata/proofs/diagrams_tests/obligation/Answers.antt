use Rattle.std.proofs.Common.{◌∙◌}
use Rattle.diagrams.proofs.Meaning.{truth_lasts}
use Rattle.test_support.proofs.DiagramLemmas.{two_truths, obligation_over, literal_over}
use Rattle.tests_of_automata.proofs.diagrams_tests.obligation.Goals as goal

pub returns-clause-over : goal.returns-clause-over
returns-clause-over c =
    obligation_over c.literal.new.self c.in_ok-second.second (c.in_ok-second.ensures.keeps.extends.props ∙ c.in_ok-store.ensures.props) (literal_over c.literal.new.self c.in_ok-second.second 3 c.in_ok-second.ensures.id)

pub returns-clause-cells : goal.returns-clause-cells
returns-clause-cells c =
    let k = c.in_ok-second.ensures.keeps in
    two_truths c.literal.new.self c.in_ok-store.b c.in_ok-store.a
    (truth_lasts c.in_ok-store.store c.literal.new.self k c.in_ok-store.b c.in_ok-store.ensures.b) (truth_lasts c.in_ok-store.store c.literal.new.self k c.in_ok-store.a c.in_ok-store.ensures.a)
