use Rattle.std.proofs.Common.{◌<◌, ◌+◌, subst, sym}
use Rattle.automata.specs.Table.{size_of}
use Rattle.translate.specs.Exact.{accepted}
use Rattle.translate.specs.Standing.{Stands}
use Rattle.translate.proofs.StandingLemmas.{Stands-location}
use Rattle.translate.proofs.operands.operand.Goals as goal

pub returns-clause-stands : goal.returns-clause-stands
returns-clause-stands c =
    let t = c.args.automaton.now in
    let first : t.first < size_of t = subst (λ z. z < size_of t) c.first.ensures.first c.first.ensures.within in
    subst (λ z. Stands c.follow.new.store c.follow.new.cells (c.in_ok-base.base + z) (accepted c.args.store.now t)) (sym c.first-2.ensures.first)
    (Stands-location c.args.store.now c.follow.new.store c.follow.new.cells t c.in_ok-base.base c.follow.ensures.keeps c.requires.fits first c.in_ok-base.ensures.count c.in_ok-base.ensures.stands)
