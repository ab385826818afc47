use Rattle.std.proofs.Common.{◌∙◌}
use Rattle.tests_of_translation.proofs.PropositionLemmas.{truth_meant}
use Rattle.tests_of_translation.proofs.propositions.truth.Goals as goal

pub returns-clause-meant : goal.returns-clause-meant
returns-clause-meant c =
    truth_meant c.terminal.new.self c.new.result c.in_ok-zero.zero c.new.ensures.first
    (c.new.ensures.marks ∙ c.in_ok-marks.ensures.items) (c.new.ensures.rows ∙ c.in_ok-rows.ensures.items) c.in_ok-zero.ensures.id
