use Rattle.std.proofs.Common.{arith}
use Rattle.automata.proofs.Lasts.{row_lasts}
use Rattle.tests_of_automata.proofs.diagrams_tests.a_row_is_relabelled.Goals as goal

pub map_terminals_with-requires-clause-right : goal.map_terminals_with-requires-clause-right
map_terminals_with-requires-clause-right g c = λ key id e. absurd (c.new-memo.ensures key id e)

pub map_terminals_with-requires-clause-fit : goal.map_terminals_with-requires-clause-fit
map_terminals_with-requires-clause-fit g c a = (row_lasts c.row.new.store c.row-2.new.store c.in_ok-wanted.ensures.keeps 10 c.in_ok-old.old (c.in_ok-old.ensures.row 10 (omega arith))).targets a
