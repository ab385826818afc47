use Rattle.std.proofs.Common.{length}
use Rattle.dividing.proofs.DivisionLemmas.{unmoved_means, target_within}
use Rattle.dividing.proofs.divisions.renewed.Goals as goal

pub returns-then-not-have_moved-clause-row : goal.returns-then-not-have_moved-clause-row
returns-then-not-have_moved-clause-row c =
    unmoved_means c.args.store.now (length c.args.old.now) c.args.f c.args.row c.args.targets.now c.args.old.now c.args.new.now c.requires.targets c.requires.old
    (c.have_moved.ensures c.if-not-have_moved.true)

pub map_terminals_with-requires-clause-fit : goal.map_terminals_with-requires-clause-fit
map_terminals_with-requires-clause-fit c = λ a. rw (c.requires.size) (target_within c.args.store.now (length c.args.old.now) c.args.f c.args.targets.now c.requires.targets a)
