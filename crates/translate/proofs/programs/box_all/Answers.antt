use Rattle.std.proofs.lemmas.Result.{IfOk-weaker}
use Rattle.forms.specs.Tree.{program}
use Rattle.translate.proofs.MeantLemmas.{tests_last, box_made}
use Rattle.translate.proofs.programs.box_all.Goals as goal

pub diamond-requires-clause-meant : goal.diamond-requires-clause-meant
diamond-requires-clause-meant c =
    λ k d h. tests_last c.args.store.now c.not.new.store c.in_ok-other.ensures.keeps c.args.tests.now c.requires.meant k d h

pub returns-clause-least : goal.returns-clause-least
returns-clause-least c =
    IfOk-weaker c.not-2.result _ _
    (λ t h. box_made c.args.store.now.props (program c.args.path.now) c.args.store.now c.not.new.store c.diamond.new.store c.not-2.new.store
    c.args.a.now c.in_ok-other.other c.in_ok-some.some t c.in_ok-other.ensures.least c.in_ok-other.ensures.keeps.extends.props c.in_ok-some.ensures.least h)
    c.not-2.ensures.least
