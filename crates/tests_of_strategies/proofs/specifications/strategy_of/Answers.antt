use Rattle.std.proofs.Common.{sym, subst}
use Rattle.arena.specs.Building.{FitsWhere}
use Rattle.tests_of_strategies.proofs.specifications.strategy_of.Goals as goal

pub synthesise-requires-clause-keep : goal.synthesise-requires-clause-keep
synthesise-requires-clause-keep c = subst (FitsWhere c.args.store.now) (sym c.reference-keep.ensures) c.requires.ready.keep

pub synthesise-requires-clause-duty : goal.synthesise-requires-clause-duty
synthesise-requires-clause-duty c = subst (FitsWhere c.args.store.now) (sym c.reference-duty.ensures) c.requires.ready.duty
