use Rattle.dividing.proofs.DivisionLemmas.{IsDividing}
use Rattle.dividing.proofs.divisions.divide_by_rows.Given as goal

abbrev pub invariant-loop-at : goal.invariant-loop-at
invariant-loop-at l = IsDividing l.automaton l.rows l.firsts l.blocks.items l.at
