use Rattle.std.proofs.Common.{subst, ◌<◌}
use Rattle.std.proofs.lemmas.Result.{IfOk-weaker}
use Rattle.automata.specs.Table.{size_of, moves_of}
use Rattle.products.specs.Watch.{IsWatching}
use Rattle.arena.proofs.BuildingLemmas.{duty_told_since}
use Rattle.arena.proofs.building.watched_duty.Goals as goal

pub returns-clause-duty : goal.returns-clause-duty
returns-clause-duty c =
    IfOk-weaker c.watch.result (λ made. IsWatching c.watch.new.store.props (moves_of c.watch.new.store c.args.duty.now) (moves_of c.watch.new.store made) 2) _
    (λ made r. duty_told_since c.args.store.now c.watch.new.store c.args.duty.now made c.watch.ensures.keeps (subst (λ z. z < size_of c.args.duty.now) c.first.ensures.first c.first.ensures.within) r)
    c.watch.ensures.watching
