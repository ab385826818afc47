use Rattle.forms.specs.Tree.{tree}
use Rattle.automata.specs.Table.{size_of}
use Rattle.synthesis.proofs.FormulaLemmas.{formula-within}
use Rattle.synthesis.proofs.translations.automaton_of.Goals as goal

pub returns-in-Ok-clause-within : goal.returns-in-Ok-clause-within
returns-in-Ok-clause-within c =
    formula-within c.args.store.now.props c.args.limit (tree c.args.form.now) c.args.empty c.in-Ok.made.counts (size_of c.in-Ok.made.whole)
    c.in-Ok.ensures.counts c.in-Ok.ensures.within c.in-Ok.ensures.size c.in-Ok.ensures.whole_within
