use Rattle.std.proofs.Common.{subst, ◌<◌}
use Rattle.std.proofs.lemmas.Result.{IfOk-weaker}
use Rattle.automata.specs.Table.{size_of, moves_of}
use Rattle.automata.proofs.Lasts.{fits_lasts}
use Rattle.products.specs.Joins.{IsEnded}
use Rattle.arena.proofs.BuildingLemmas.{kinds_made}
use Rattle.arena.proofs.building.kinds_of.Goals as goal

pub join-requires-2-clause-b : goal.join-requires-2-clause-b
join-requires-2-clause-b c = fits_lasts c.args.store.now c.join.new.store c.join.ensures.keeps c.args.goal.now c.requires.goal

pub returns-clause-kinds : goal.returns-clause-kinds
returns-clause-kinds c =
    IfOk-weaker c.ended.result (λ made. IsEnded c.ended.new.store.props (moves_of c.ended.new.store c.in_ok-all.all) (moves_of c.ended.new.store made)) _
    (λ made e. kinds_made c.args.store.now c.join.new.store c.join-2.new.store c.ended.new.store c.args.legal.now c.args.duty.now c.args.goal.now c.in_ok-both.both c.in_ok-all.all made
    c.join.ensures.keeps c.join-2.ensures.keeps c.ended.ensures.keeps c.requires.legal c.requires.duty c.requires.goal c.in_ok-both.ensures.fits c.in_ok-all.ensures.fits
    (subst (λ z. z < size_of c.args.legal.now) c.first.ensures.first c.first.ensures.within)
    (subst (λ z. z < size_of c.args.duty.now) c.first-2.ensures.first c.first-2.ensures.within)
    (subst (λ z. z < size_of c.args.goal.now) c.first-3.ensures.first c.first-3.ensures.within)
    c.in_ok-both.ensures.join c.in_ok-all.ensures.join e)
    c.ended.ensures.ended
