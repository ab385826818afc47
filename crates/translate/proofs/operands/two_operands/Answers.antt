use Rattle.std.proofs.Common.{◌<◌, subst}
use Rattle.automata.specs.Table.{size_of}
use Rattle.automata.proofs.Lasts.{fits_lasts}
use Rattle.translate.specs.Exact.{accepted}
use Rattle.translate.proofs.StandingLemmas.{Stands-same, accepted_word-lasts}
use Rattle.translate.proofs.operands.two_operands.Goals as goal

pub operand-requires-2-clause-fits : goal.operand-requires-2-clause-fits
operand-requires-2-clause-fits c = fits_lasts c.args.store.now c.operand.new.store c.operand.ensures.keeps c.args.b.now c.requires.b

pub returns-clause-second : goal.returns-clause-second
returns-clause-second c =
    let t = c.args.b.now in
    let first : t.first < size_of t = subst (λ z. z < size_of t) c.first.ensures.first c.first.ensures.within in
    Stands-same c.operand-2.new.store c.operand-2.new.cells c.in_ok-second.second (accepted c.operand.new.store t) (accepted c.args.store.now t)
    (accepted_word-lasts c.args.store.now c.operand.new.store c.operand.ensures.keeps t c.requires.b first) c.in_ok-second.ensures.stands
