use Rattle.tests_of_translation.proofs.TableLemmas.{IsMade}
use Rattle.tests_of_translation.proofs.tables.disjunction.Given as goal

abbrev pub invariant-loop-term : goal.invariant-loop-term
invariant-loop-term l = IsMade l.fn.store l.store 0 l.to l.whole
