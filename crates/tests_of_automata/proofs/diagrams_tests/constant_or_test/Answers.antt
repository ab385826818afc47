use Rattle.diagrams.proofs.Meaning.{truth_lasts}
use Rattle.tests_of_automata.proofs.diagrams_tests.constant_or_test.Goals as goal

pub ite-requires-clause-test : goal.ite-requires-clause-test
ite-requires-clause-test c = truth_lasts c.in_ok-store.store c.terminal.new.self c.in_ok-constant.ensures.keeps c.in_ok-store.a c.in_ok-store.ensures.a

pub ite-requires-clause-no : goal.ite-requires-clause-no
ite-requires-clause-no c = (truth_lasts c.in_ok-store.store c.terminal.new.self c.in_ok-constant.ensures.keeps c.in_ok-store.a c.in_ok-store.ensures.a).live
