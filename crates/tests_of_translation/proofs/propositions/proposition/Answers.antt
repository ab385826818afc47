use Rattle.std.proofs.Common.{◌<◌, ◌∙◌}
use Rattle.diagrams.proofs.Meaning.{Keeps_trans, means_lasts}
use Rattle.diagrams.proofs.DependsLemmas.{constant_over}
use Rattle.tests_of_translation.proofs.PropositionLemmas.{row_means, proposition_meant}
use Rattle.tests_of_translation.proofs.propositions.proposition.Goals as goal

pub node-requires-clause-hi_above : goal.node-requires-clause-hi_above
node-requires-clause-hi_above c = constant_over _ _ c.terminal-2.ensures.keeps c.in_ok-one.one 1 (λ v. c.args.i < v) c.in_ok-one.ensures.id

pub returns-clause-meant : goal.returns-clause-meant
returns-clause-meant c =
    let all = Keeps_trans _ _ _ c.terminal.ensures.keeps (Keeps_trans _ _ _ c.terminal-2.ensures.keeps c.node.ensures.keeps) in
    let one = means_lasts _ _ c.terminal-2.ensures.keeps c.in_ok-one.one _ c.in_ok-one.ensures.id in
    proposition_meant c.node.new.self c.new.result c.args.i c.in_ok-row.row c.in_ok-one.one c.in_ok-two.two c.new.ensures.first
    (c.new.ensures.marks ∙ c.in_ok-marks.ensures.items) (c.new.ensures.rows ∙ c.in_ok-rows.ensures.items) (rw all.extends.props c.requires)
    (row_means _ _ c.args.i c.in_ok-one.one c.in_ok-two.two c.in_ok-row.row one c.in_ok-two.ensures.id c.in_ok-row.ensures.id)
    (means_lasts _ _ c.node.ensures.keeps c.in_ok-one.one _ one) (means_lasts _ _ c.node.ensures.keeps c.in_ok-two.two _ c.in_ok-two.ensures.id)
