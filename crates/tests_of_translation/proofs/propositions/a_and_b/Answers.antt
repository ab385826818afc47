use Rattle.forms.specs.Tree.{tree}
use Rattle.automata.proofs.Lasts.{meant_lasts}
use Rattle.tests_of_translation.proofs.propositions.a_and_b.Goals as goal

pub returns-clause-a : goal.returns-clause-a
returns-clause-a c =
    meant_lasts c.proposition.new.store c.proposition-2.new.store c.proposition-2.ensures.keeps c.in_ok-a.a.automaton (tree c.in_ok-a.a.form) c.in_ok-a.ensures.first
    (rw c.in_ok-a.ensures.form c.in_ok-a.ensures.meant)

pub returns-clause-b : goal.returns-clause-b
returns-clause-b c = rw c.in_ok-b.ensures.form c.in_ok-b.ensures.meant
