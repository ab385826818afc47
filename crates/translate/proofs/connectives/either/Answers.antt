use Rattle.std.proofs.Common.{ap₂}
use Rattle.std.specs.Prelude.{◌||◌}
use Rattle.forms.specs.Tree.{tree, Or}
use Rattle.translate.proofs.MeantLemmas.{meant_by}
use Rattle.translate.proofs.connectives.either.Goals as goal

pub returns-clause-meant : goal.returns-clause-meant
returns-clause-meant c =
    rw (c.in_ok-first.ensures, c.in_ok-second.ensures)
    (meant_by c.args.store.now c.or.new.store c.or.ensures.keeps c.in_ok-automaton.automaton _ (Or (tree c.args.a.now.form) (tree c.args.b.now.form)) c.in_ok-automaton.ensures.least
    (λ w o. ap₂ ◌||◌ (c.requires.a.same w o) (c.requires.b.same w o)))
