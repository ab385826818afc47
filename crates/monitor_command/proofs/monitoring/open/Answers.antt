use Rattle.std.proofs.Common.{◌∙◌}
use Rattle.forms.specs.Tree.{tree}
use Rattle.automata.specs.Table.{size_of}
use Rattle.class_limit.proofs.LimitLemmas.{all-within}
use Rattle.monitor_command.proofs.monitoring.open.Goals as goal

pub returns-clause-within : goal.returns-clause-within
returns-clause-within c =
    all-within c.in_ok-store.store.props (tree c.args.form.now) c.in_ok-made.made.counts (size_of c.in_ok-made.made.whole)
    c.in_ok-made.ensures.counts c.in_ok-made.ensures.within c.in_ok-made.ensures.size c.in_ok-made.ensures.whole_within
    c.args.names.now.names (c.in_ok-store.ensures.props ∙ c.len.ensures.value)
