use Rattle.std.proofs.Common.{◌≡◌, ◌<◌, ◌∙◌, length, ap, subst, arith, Some}
use Rattle.std.proofs.lemmas.Result.{IfOk-weaker}
use Rattle.attractor.specs.Graph.{number_at}
use Rattle.arena.specs.Left.{locations_of}
use Rattle.layers.proofs.MoreBounds.{loss_less}
use Rattle.layers.proofs.Duty.{decision_loss_few}
use Rattle.cooperative.proofs.OverArena.{losses_over, listed_over, kept_or_lost, losses_of_histories, meets_there}
use Rattle.cooperative.proofs.losing.losses.Goals as goal

pub listed-requires-clause-small : goal.listed-requires-clause-small
listed-requires-clause-small c k n h e =
    let q = subst (λ xs. number_at xs k ≡ Some n) c.deref.ensures.value e in
    let l = loss_less c.args.arena.now.partition c.args.arena.now.has_duty (locations_of c.args.store.now c.args.arena.now) (number_at c.in_ok-numbers.numbers.items) (losses_over c.args.store.now c.args.arena.now c.partition.result.now c.rows-rows.result.now c.broken.result.now c.in_ok-numbers.numbers.items c.partition.ensures c.rows-rows.ensures c.broken.ensures.items c.in_ok-numbers.ensures.losses) k n (subst (λ z. k < z) (ap length c.items.ensures ∙ c.requires.ranks_size) h) q in
    omega (arith, l, c.size.ensures.size, c.size.ensures.few)

pub returns-clause-losses : goal.returns-clause-losses
returns-clause-losses c =
    IfOk-weaker c.listed.result _ _
    (λ losses l. kept_or_lost c.args.arena.now.partition c.args.arena.now.has_duty (locations_of c.args.store.now c.args.arena.now) c.args.ranks.now c.args.distances.now c.in_ok-numbers.numbers.items losses (losses_over c.args.store.now c.args.arena.now c.partition.result.now c.rows-rows.result.now c.broken.result.now c.in_ok-numbers.numbers.items c.partition.ensures c.rows-rows.ensures c.broken.ensures.items c.in_ok-numbers.ensures.losses)
    (listed_over c.args.ranks.now c.items.result.now c.args.distances.now c.items-2.result.now c.in_ok-numbers.numbers.items c.deref.result.now losses (length c.args.arena.now.rows) c.items.ensures c.items-2.ensures c.deref.ensures.value c.requires.ranks_size l))
    c.listed.ensures

pub returns-clause-histories : goal.returns-clause-histories
returns-clause-histories c s e arena =
    IfOk-weaker c.listed.result _ _
    (λ losses l. losses_of_histories s c.args.arena.now.partition c.args.arena.now.has_duty (locations_of c.args.store.now c.args.arena.now) c.args.ranks.now c.args.distances.now c.in_ok-numbers.numbers.items losses e arena
    (meets_there c.args.store.now c.args.arena.now c.props.ensures.canonical c.requires.fits c.requires.width c.requires.even c.requires.playable (number_at c.args.ranks.now) c.requires.ranks (number_at c.args.distances.now) c.requires.distances) (losses_over c.args.store.now c.args.arena.now c.partition.result.now c.rows-rows.result.now c.broken.result.now c.in_ok-numbers.numbers.items c.partition.ensures c.rows-rows.ensures c.broken.ensures.items c.in_ok-numbers.ensures.losses)
    (listed_over c.args.ranks.now c.items.result.now c.args.distances.now c.items-2.result.now c.in_ok-numbers.numbers.items c.deref.result.now losses (length c.args.arena.now.rows) c.items.ensures c.items-2.ensures c.deref.ensures.value c.requires.ranks_size l))
    c.listed.ensures

pub returns-clause-decisions : goal.returns-clause-decisions
returns-clause-decisions c =
    IfOk-weaker c.listed.result _ _
    (λ losses l at x n h least. decision_loss_few c.args.arena.now.partition c.args.arena.now.has_duty (locations_of c.args.store.now c.args.arena.now) (number_at c.in_ok-numbers.numbers.items)
    (losses_over c.args.store.now c.args.arena.now c.partition.result.now c.rows-rows.result.now c.broken.result.now c.in_ok-numbers.numbers.items c.partition.ensures c.rows-rows.ensures c.broken.ensures.items c.in_ok-numbers.ensures.losses) at x n h least)
    c.listed.ensures
