use Rattle.std.proofs.Common.{length}
use Rattle.diagrams.proofs.Composed.{over_lasts, truths_last}
use Rattle.tests_of_automata.proofs.diagrams_tests.a_kept_memo_gives_the_same_id.Goals as goal

pub compose_with-requires-clause-right : goal.compose_with-requires-clause-right
compose_with-requires-clause-right g c = c.new-memo.ensures c.in_ok-store.store c.in_ok-store.cells

pub compose_with-requires-2-clause-over : goal.compose_with-requires-2-clause-over
compose_with-requires-2-clause-over g c =
    over_lasts c.in_ok-store.store c.compose_with.new.self c.in_ok-first.ensures.keeps (length c.in_ok-store.cells) c.in_ok-store.second c.in_ok-store.ensures.live c.in_ok-store.ensures.over

pub compose_with-requires-2-clause-cells : goal.compose_with-requires-2-clause-cells
compose_with-requires-2-clause-cells g c =
    truths_last c.in_ok-store.store c.compose_with.new.self c.in_ok-first.ensures.keeps c.in_ok-store.cells c.in_ok-store.ensures.cells
