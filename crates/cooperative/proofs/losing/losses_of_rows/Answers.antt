use Rattle.std.proofs.Common.{subst, true, false}
use Rattle.std.proofs.lemmas.Result.{IfOk-weaker}
use Rattle.attractor.specs.Rows.{IsAttraction}
use Rattle.layers.proofs.ArenaLemmas.{attraction_losses}
use Rattle.cooperative.proofs.losing.losses_of_rows.Goals as goal

pub returns-clause-losses : goal.returns-clause-losses
returns-clause-losses c =
    IfOk-weaker c.attract.result _ _
    (λ numbers t. attraction_losses c.args.store.now c.args.partition.now true c.args.rows.now c.args.broken.now c.args.broken.now c.requires.arena numbers.items
    (subst (λ z. IsAttraction c.args.store.now z c.args.rows.now c.args.broken.now false numbers.items) c.environment_sides-sides.ensures t))
    c.attract.ensures
