use Rattle.std.proofs.Common.{◌<◌, ap, subst}
use Rattle.std.specs.Prelude.{not}
use Rattle.forms.specs.Tree.{tree, Not}
use Rattle.automata.specs.Table.{size_of}
use Rattle.translate.proofs.LeastLemmas.{negated}
use Rattle.translate.proofs.MeantLemmas.{meant_by}
use Rattle.translate.proofs.connectives.negate.Goals as goal

pub returns-clause-least : goal.returns-clause-least
returns-clause-least c =
    let t = c.args.a.now.automaton in
    let first : t.first < size_of t = subst (λ z. z < size_of t) c.first.ensures.first c.first.ensures.within in
    negated c.args.store.now c.least_of.new.store t c.in_ok-other.other c.in_ok-automaton.automaton c.requires.a.fits first c.in_ok-other.ensures c.in_ok-automaton.ensures.least

pub returns-clause-meant : goal.returns-clause-meant
returns-clause-meant c =
    rw c.in_ok-boxed.ensures
    (meant_by c.args.store.now c.least_of.new.store c.least_of.ensures.keeps c.in_ok-automaton.automaton _ (Not (tree c.args.a.now.form)) (returns-clause-least c) (λ w o. ap not (c.requires.a.same w o)))
