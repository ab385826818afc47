use Rattle.std.proofs.Common.{◌≡◌, ◌<◌, length, subst, arith, Some}
use Rattle.attractor.specs.Graph.{number_at}
use Rattle.arena.specs.Left.{locations_of}
use Rattle.cooperative.proofs.OverArena.{ranks_under, loops_under, distances_over, distances_made, meets_there, distances_below, hopes_few, distances_of_histories, meets_of_histories}
use Rattle.cooperative.proofs.hoping.distances.Goals as goal

pub distances_of_rows-requires-clause-loops : goal.distances_of_rows-requires-clause-loops
distances_of_rows-requires-clause-loops c =
    loops_under c.args.store.now c.args.arena.now c.partition.result.now c.rows-rows.result.now c.goals.result.now c.rows-rows.ensures c.goals.ensures.items c.requires.fits

pub distances_of_rows-requires-clause-ranks : goal.distances_of_rows-requires-clause-ranks
distances_of_rows-requires-clause-ranks c =
    ranks_under c.args.store.now c.args.arena.now c.partition.result.now c.rows-rows.result.now c.goals.result.now c.items.result.now c.args.ranks.now c.partition.ensures c.rows-rows.ensures c.goals.ensures.items c.items.ensures c.requires.ranks

pub narrowed-requires-clause-small : goal.narrowed-requires-clause-small
narrowed-requires-clause-small c k n h e =
    let d = distances_over c.args.store.now c.args.arena.now c.partition.result.now c.rows-rows.result.now c.goals.result.now c.in_ok-numbers.numbers.items c.partition.ensures c.rows-rows.ensures c.goals.ensures.items c.in_ok-numbers.ensures.distances in
    let q = subst (λ xs. number_at xs k ≡ Some n) c.deref.ensures.value e in
    let l = distances_below c.args.store.now c.args.arena.now c.props.ensures.canonical c.requires.fits c.requires.width c.requires.even c.requires.playable (number_at c.args.ranks.now) c.requires.ranks (number_at c.in_ok-numbers.numbers.items) d k n (subst (λ z. k < length z) c.rows-rows.ensures h) q in
    omega (arith, l, c.size.ensures.size, c.size.ensures.few)

pub returns-clause-distances : goal.returns-clause-distances
returns-clause-distances c =
    (distances_made c.args.store.now c.args.arena.now c.partition.result.now c.rows-rows.result.now c.goals.result.now c.in_ok-numbers.numbers.items c.deref.result.now c.in_ok-made.made.items c.of.result c.partition.ensures c.rows-rows.ensures c.goals.ensures.items
    c.deref.ensures.value c.of.ensures c.in_ok-made.ensures c.in_ok-numbers.ensures.distances)

pub returns-clause-meets : goal.returns-clause-meets
returns-clause-meets c =
    meets_there c.args.store.now c.args.arena.now c.props.ensures.canonical c.requires.fits c.requires.width c.requires.even c.requires.playable (number_at c.args.ranks.now) c.requires.ranks (number_at c.of.result)
    (distances_made c.args.store.now c.args.arena.now c.partition.result.now c.rows-rows.result.now c.goals.result.now c.in_ok-numbers.numbers.items c.deref.result.now c.in_ok-made.made.items c.of.result c.partition.ensures c.rows-rows.ensures c.goals.ensures.items
    c.deref.ensures.value c.of.ensures c.in_ok-made.ensures c.in_ok-numbers.ensures.distances)

pub returns-clause-histories : goal.returns-clause-histories
returns-clause-histories c s e arena =
    distances_of_histories s c.args.arena.now.partition c.args.arena.now.has_duty (locations_of c.args.store.now c.args.arena.now) (number_at c.of.result) e arena
    (distances_made c.args.store.now c.args.arena.now c.partition.result.now c.rows-rows.result.now c.goals.result.now c.in_ok-numbers.numbers.items c.deref.result.now c.in_ok-made.made.items c.of.result c.partition.ensures c.rows-rows.ensures c.goals.ensures.items
    c.deref.ensures.value c.of.ensures c.in_ok-made.ensures c.in_ok-numbers.ensures.distances)

pub returns-clause-history_meets : goal.returns-clause-history_meets
returns-clause-history_meets c s e arena =
    meets_of_histories s c.args.arena.now.partition c.args.arena.now.has_duty (locations_of c.args.store.now c.args.arena.now) (number_at c.of.result) e arena
    (meets_there c.args.store.now c.args.arena.now c.props.ensures.canonical c.requires.fits c.requires.width c.requires.even c.requires.playable (number_at c.args.ranks.now) c.requires.ranks (number_at c.of.result)
    (distances_made c.args.store.now c.args.arena.now c.partition.result.now c.rows-rows.result.now c.goals.result.now c.in_ok-numbers.numbers.items c.deref.result.now c.in_ok-made.made.items c.of.result c.partition.ensures c.rows-rows.ensures c.goals.ensures.items
    c.deref.ensures.value c.of.ensures c.in_ok-made.ensures c.in_ok-numbers.ensures.distances))

pub returns-clause-below : goal.returns-clause-below
returns-clause-below c =
    distances_below c.args.store.now c.args.arena.now c.props.ensures.canonical c.requires.fits c.requires.width c.requires.even c.requires.playable (number_at c.args.ranks.now) c.requires.ranks (number_at c.of.result)
    (distances_made c.args.store.now c.args.arena.now c.partition.result.now c.rows-rows.result.now c.goals.result.now c.in_ok-numbers.numbers.items c.deref.result.now c.in_ok-made.made.items c.of.result c.partition.ensures c.rows-rows.ensures c.goals.ensures.items
    c.deref.ensures.value c.of.ensures c.in_ok-made.ensures c.in_ok-numbers.ensures.distances)

pub returns-clause-decisions : goal.returns-clause-decisions
returns-clause-decisions c =
    hopes_few c.args.store.now c.args.arena.now c.props.ensures.canonical c.requires.fits c.requires.width c.requires.even c.requires.playable (number_at c.args.ranks.now) c.requires.ranks (number_at c.of.result)
    (distances_made c.args.store.now c.args.arena.now c.partition.result.now c.rows-rows.result.now c.goals.result.now c.in_ok-numbers.numbers.items c.deref.result.now c.in_ok-made.made.items c.of.result c.partition.ensures c.rows-rows.ensures c.goals.ensures.items
    c.deref.ensures.value c.of.ensures c.in_ok-made.ensures c.in_ok-numbers.ensures.distances)
