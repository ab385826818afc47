use Rattle.test_support.proofs.DiagramLemmas.{can_combine}
use Rattle.tests_of_automata.proofs.diagrams_tests.combined.Goals as goal

pub combine-requires-clause-fit : goal.combine-requires-clause-fit
combine-requires-clause-fit c = can_combine c.in_ok-store.store c.args.op c.requires c.in_ok-store.a c.in_ok-store.b c.in_ok-store.ensures.a c.in_ok-store.ensures.b
