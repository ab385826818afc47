use Rattle.std.proofs.lemmas.Result.{IfOk-weaker}
use Rattle.attractor.specs.Graph.{number_at}
use Rattle.layers.proofs.Bounds.{rank_less}
use Rattle.layers.proofs.MoreBounds.{decision_few}
use Rattle.arena.specs.Left.{locations_of}
use Rattle.adversarial.proofs.OverArena.{ranks_over, ranks_of_histories}
use Rattle.adversarial.proofs.solving.solve.Goals as goal

pub returns-clause-ranks : goal.returns-clause-ranks
returns-clause-ranks c =
    IfOk-weaker c.ranks_of_rows.result _ _
    (λ ranks r. ranks_over c.args.store.now c.args.arena.now c.partition.result.now c.rows.result.now c.goals.result.now ranks c.partition.ensures c.rows.ensures c.goals.ensures.items r)
    c.ranks_of_rows.ensures.ranks

pub returns-clause-histories : goal.returns-clause-histories
returns-clause-histories c s e arena =
    IfOk-weaker c.ranks_of_rows.result _ _
    (λ ranks r. ranks_of_histories s c.args.arena.now.partition c.args.arena.now.has_duty (locations_of c.args.store.now c.args.arena.now) (number_at ranks) e arena
    (ranks_over c.args.store.now c.args.arena.now c.partition.result.now c.rows.result.now c.goals.result.now ranks c.partition.ensures c.rows.ensures c.goals.ensures.items r))
    c.ranks_of_rows.ensures.ranks

pub returns-clause-below : goal.returns-clause-below
returns-clause-below c play =
    IfOk-weaker c.ranks_of_rows.result _ _
    (λ ranks r. rank_less c.args.arena.now.partition c.args.arena.now.has_duty (locations_of c.args.store.now c.args.arena.now) (number_at ranks)
    (ranks_over c.args.store.now c.args.arena.now c.partition.result.now c.rows.result.now c.goals.result.now ranks c.partition.ensures c.rows.ensures c.goals.ensures.items r) play)
    c.ranks_of_rows.ensures.ranks

pub returns-clause-decisions : goal.returns-clause-decisions
returns-clause-decisions c play =
    IfOk-weaker c.ranks_of_rows.result _ _
    (λ ranks r. decision_few c.args.arena.now.partition c.args.arena.now.has_duty (locations_of c.args.store.now c.args.arena.now) (number_at ranks)
    (ranks_over c.args.store.now c.args.arena.now c.partition.result.now c.rows.result.now c.goals.result.now ranks c.partition.ensures c.rows.ensures c.goals.ensures.items r) play)
    c.ranks_of_rows.ensures.ranks
