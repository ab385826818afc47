use Rattle.std.proofs.Common.{◌+◌, subst}
use Rattle.diagrams.specs.Live.{Means}
use Rattle.diagrams.proofs.Meaning.{means_lasts}
use Rattle.diagrams.specs.Eval.{literal_value}
use Rattle.translate.proofs.joins.literals.Goals as goal

pub returns-clause-first : goal.returns-clause-first
returns-clause-first c =
    let first = subst (λ p. Means c.literal.new.self c.in_ok-first.first (literal_value (p + c.args.of.now.first))) c.props-props.ensures.number c.in_ok-first.ensures.id in
    means_lasts c.literal.new.self c.literal-2.new.self c.literal-2.ensures.keeps c.in_ok-first.first (literal_value (c.args.store.now.props + c.args.of.now.first)) first
