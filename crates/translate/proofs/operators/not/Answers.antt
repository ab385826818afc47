use Rattle.std.proofs.Common.{◌<◌, subst}
use Rattle.automata.specs.Table.{size_of}
use Rattle.translate.proofs.LeastLemmas.{flipped_ok}
use Rattle.translate.proofs.operators.not.Goals as goal

pub returns-clause-least : goal.returns-clause-least
returns-clause-least c =
    let t = c.args.a.now in
    let first : t.first < size_of t = subst (λ z. z < size_of t) c.first.ensures.first c.first.ensures.within in
    flipped_ok c.flipped.result c.args.store.now t c.requires.fits first c.requires.marks c.requires.least c.requires.numbered c.flipped.ensures
