use Rattle.std.proofs.Common.{◌<◌}
use Rattle.diagrams.specs.declared.work.Op.TheVariants.{Pair}
use Rattle.test_support.proofs.DiagramLemmas.{can_combine, pair_fits, number_small, number_over}
use Rattle.tests_of_automata.proofs.diagrams_tests.numbers.Goals as goal

pub combine-requires-clause-fit : goal.combine-requires-clause-fit
combine-requires-clause-fit c =
    can_combine c.in_ok-store.store (Pair 2) pair_fits c.in_ok-store.a c.in_ok-store.b c.in_ok-store.ensures.a c.in_ok-store.ensures.b

pub returns-clause-small : goal.returns-clause-small
returns-clause-small c =
    number_small c.in_ok-store.store c.combine.new.self c.in_ok-store.a c.in_ok-store.b c.in_ok-number.number c.in_ok-store.ensures.a c.in_ok-store.ensures.b c.in_ok-number.ensures.id

pub returns-clause-over : goal.returns-clause-over
returns-clause-over c =
    number_over c.in_ok-store.store c.combine.new.self c.in_ok-store.a c.in_ok-store.b c.in_ok-number.number (λ v. v < 2) c.in_ok-store.ensures.a_over c.in_ok-store.ensures.b_over c.in_ok-number.ensures.id
