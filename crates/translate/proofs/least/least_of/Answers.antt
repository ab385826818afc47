use Rattle.std.proofs.Common.{◌<◌, subst}
use Rattle.automata.specs.Table.{size_of}
use Rattle.translate.proofs.LeastLemmas.{minimised_ok}
use Rattle.translate.proofs.least.least_of.Goals as goal

pub returns-clause-least : goal.returns-clause-least
returns-clause-least c =
    let t = c.args.automaton in
    let first : t.first < size_of t = subst (λ z. z < size_of t) c.first.ensures.first c.first.ensures.within in
    minimised_ok c.minimise.result c.args.store.now c.minimise.new.store t c.minimise.ensures.keeps c.requires.fits first c.requires.marks
    c.minimise.ensures.fits c.minimise.ensures.marks c.minimise.ensures.least c.minimise.ensures.numbered
