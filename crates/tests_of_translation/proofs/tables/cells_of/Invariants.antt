use Rattle.tests_of_translation.proofs.TableLemmas.{IsTable}
use Rattle.tests_of_translation.proofs.tables.cells_of.Given as goal

abbrev pub invariant-loop-ends : goal.invariant-loop-ends
invariant-loop-ends l = IsTable l.fn.store l.store l.count l.cells
