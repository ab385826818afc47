use Rattle.std.proofs.Common.{◌≡◌, ◌<◌, arith}
use Rattle.diagrams.proofs.Meaning.{truth_lasts}
use Rattle.diagrams.proofs.DependsLemmas.{over_weaker, over_later}
use Rattle.test_support.proofs.DiagramLemmas.{literal_truth, literal_over}
use Rattle.tests_of_automata.proofs.diagrams_tests.pair.Goals as goal

pub returns-clause-a : goal.returns-clause-a
returns-clause-a c = truth_lasts c.literal.new.self c.literal-2.new.self c.in_ok-b.ensures.keeps c.in_ok-a.a (literal_truth c.literal.new.self c.in_ok-a.a 0 c.in_ok-a.ensures.id)

pub returns-clause-b : goal.returns-clause-b
returns-clause-b c = literal_truth c.literal-2.new.self c.in_ok-b.b 1 c.in_ok-b.ensures.id

pub returns-clause-a_over : goal.returns-clause-a_over
returns-clause-a_over c =
    over_later c.literal.new.self c.literal-2.new.self c.in_ok-b.ensures.keeps c.in_ok-a.a (λ v. v < 2) c.in_ok-a.ensures.id.live
    (over_weaker c.literal.new.self c.in_ok-a.a (λ v. v ≡ 0) (λ v. v < 2) (λ v h. omega arith) (literal_over c.literal.new.self c.in_ok-a.a 0 c.in_ok-a.ensures.id))

pub returns-clause-b_over : goal.returns-clause-b_over
returns-clause-b_over c = over_weaker c.literal-2.new.self c.in_ok-b.b (λ v. v ≡ 1) (λ v. v < 2) (λ v h. omega arith) (literal_over c.literal-2.new.self c.in_ok-b.b 1 c.in_ok-b.ensures.id)
