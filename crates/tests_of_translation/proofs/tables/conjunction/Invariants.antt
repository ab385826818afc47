use Rattle.tests_of_translation.proofs.TableLemmas.{IsMade}
use Rattle.tests_of_translation.proofs.tables.conjunction.Given as goal

abbrev pub invariant-loop-var : goal.invariant-loop-var
invariant-loop-var l = IsMade l.fn.store l.store l.from l.to l.whole
